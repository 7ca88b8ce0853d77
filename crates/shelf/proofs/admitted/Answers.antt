-- `admitted`: the name, then the quota, then the entry behind the last one. Assumes nothing.
use mathlib.Core.Path.{refl, sym, ◌∙◌}
use native.Mathlib.Omega.{arith}
use Rattle.block.proofs.GoodReadings.{sound}
use Rattle.shelf.proofs.Legality.{quota}
use Rattle.shelf.proofs.Stored.{turned_down_so, of_no_place, name_taken, over_quota, entry_on, room_for}
use Rattle.shelf.proofs.admitted.Goals as goal

pub entry_of-same-requires : goal.entry_of-same-requires
entry_of-same-requires c = let w = c.requires.walks.its_entries in (w.0, w.1.laid)

pub held_of-held-requires : goal.held_of-held-requires
held_of-held-requires c = let w = c.requires.walks.its_entries in (w.0, w.1.laid)

pub overflow_add-needed : goal.overflow_add-needed
overflow_add-needed c =
    let w = c.requires.walks.its_entries in omega (arith, c.held_of-held.ensures w.0 w.1.laid, quota c.args.party w.0 w.1.laid.legal)

pub overflow_add-needed-2 : goal.overflow_add-needed-2
overflow_add-needed-2 c =
    let w = c.requires.walks.its_entries in omega
    (arith, c.held_of-held.ensures w.0 w.1.laid, quota c.args.party w.0 w.1.laid.legal, (sound c.args.block.now c.requires.party_bound.1.0 c.requires.party_bound.1.1).size)

pub returns-then-is_some : goal.returns-then-is_some
returns-then-is_some c =
    let w = c.requires.walks.its_entries in
    let r = turned_down_so refl (of_no_place c.at.ensures (name_taken w.1 c.args.party c.args.name c.args.block.now c.requires.party_bound.0 c.requires.party_bound.1.1
    (c.entry_of-same.ensures w.0 w.1.laid) (sym c.is_some.ensures ∙ c.if-is_some.true))) in
    record { result_value = r.0; shelf_after = r.1 }

pub returns-then-needed-gt32768 : goal.returns-then-needed-gt32768
returns-then-needed-gt32768 c =
    let w = c.requires.walks.its_entries in
    let r = turned_down_so refl (of_no_place c.at-then-needed-gt32768.ensures (over_quota w.1 c.args.party c.args.name c.args.block.now c.requires.party_bound.0 c.requires.party_bound.1.1
    (c.entry_of-same.ensures w.0 w.1.laid) (sym c.is_some.ensures ∙ c.if-is_some.false) (c.held_of-held.ensures w.0 w.1.laid) c.if-needed-gt32768.true)) in
    record { result_value = r.0; shelf_after = r.1 }

pub slice_bounds-put_entry-count : goal.slice_bounds-put_entry-count
slice_bounds-put_entry-count c = let w = c.requires.walks.its_entries in omega (arith, w.1.laid.within)

pub slice_bounds-put_entry-start : goal.slice_bounds-put_entry-start
slice_bounds-put_entry-start c = let w = c.requires.walks.its_entries in omega (arith, w.1.laid.within)

pub put_entry-requires : goal.put_entry-requires
put_entry-requires c =
    let w = c.requires.walks.its_entries in
    let r = room_for w.1 c.args.party c.args.name c.args.block.now c.requires.party_bound.0 c.requires.party_bound.1.1 (c.entry_of-same.ensures w.0 w.1.laid)
    (sym c.is_some.ensures ∙ c.if-is_some.false) (c.held_of-held.ensures w.0 w.1.laid) c.if-needed-gt32768.false (omega (arith, c.ranges)) in
    omega (arith, r)

pub returns : goal.returns
returns c =
    let w = c.requires.walks.its_entries in
    let r = entry_on w.1 c.args.party c.args.name c.args.block.now c.requires.party_bound.0 c.requires.party_bound.1.1 (c.entry_of-same.ensures w.0 w.1.laid)
    (sym c.is_some.ensures ∙ c.if-is_some.false) (c.held_of-held.ensures w.0 w.1.laid) c.if-needed-gt32768.false (omega (arith, c.ranges)) c.put_entry.ensures in
    record { result_value = r.0; shelf_after = r.1 }
