-- `own_entry`: the tests in their order, and the entry that the search gives. Assumes nothing.
use mathlib.Core.Path.{refl, sym, ◌∙◌, subst}
use native.Mathlib.Omega.{arith}
use Rattle.records.specs.Numerals.{field}
use Rattle.shelf.specs.Calls.{fetch, withdraw}
use Rattle.shelf.specs.Answered.{Finds}
use Rattle.shelf.proofs.Passing.{absent, present}
use Rattle.shelf.proofs.Stored.{passed_on, of_no_place}
use Rattle.shelf.proofs.Fetched.{no_fetch, no_withdrawal, room_there}
use Rattle.shelf.proofs.own_entry.Goals as goal

pub returns-in_err-end : goal.returns-in_err-end
returns-in_err-end c =
    let t = c.in_err-end.ensures.turned_down in
    subst (Finds c.args.shelf.now c.args.party c.args.name) (sym (passed_on c.from_residual.result c.from_residual.ensures))
    (record { found = tt; no_fetch = t (fetch c.args.party c.args.name) refl; no_withdrawal = t (withdraw c.args.party c.args.name) refl })

pub entry_of-requires : goal.entry_of-requires
entry_of-requires c = let e = c.in_ok-end.ensures.its_shelf.1.its_entries in (e.0, e.1.laid)

pub returns-in_err-at : goal.returns-in_err-at
returns-in_err-at c =
    let e = c.in_ok-end.ensures.its_shelf in
    let es = e.1.its_entries in
    let a = absent c.entry_of.result (c.entry_of.ensures es.0 es.1.laid) (sym c.ok_or.ensures.value ∙ c.in_err-at.was) in
    subst (Finds c.args.shelf.now c.args.party c.args.name) (sym (passed_on c.from_residual-in_err-at.result c.from_residual-in_err-at.ensures))
    (record {
      found = tt;
      no_fetch = of_no_place (a.1 ∙ c.at.ensures) (no_fetch es.1 c.args.party c.args.name e.0 a.0);
      no_withdrawal = of_no_place (a.1 ∙ c.at.ensures) (no_withdrawal es.1 c.args.party c.args.name e.0 a.0);
    })

pub number_at-size-requires : goal.number_at-size-requires
number_at-size-requires c =
    let e = c.in_ok-end.ensures.its_shelf in
    let es = e.1.its_entries in
    let a = present c.at.result (c.entry_of.ensures es.0 es.1.laid) (sym c.ok_or.ensures.value ∙ c.in_ok-at.was) in
    let r = room_there {n = c.args.name} {own = record { at = c.in_ok-at.at; size = field c.args.shelf.now c.in_ok-at.at 2; end = c.in_ok-end.end }}
    (record { its_party = e.0; all = es.0; on_shelf = es.1; stands = a.0; is_there = a.1; its_size = refl }) in
    (omega (arith, r), omega arith)

pub returns : goal.returns
returns c =
    let e = c.in_ok-end.ensures.its_shelf in
    let es = e.1.its_entries in
    let a = present c.at.result (c.entry_of.ensures es.0 es.1.laid) (sym c.ok_or.ensures.value ∙ c.in_ok-at.was) in
    record {
      found = record { its_party = e.0; all = es.0; on_shelf = es.1; stands = a.0; is_there = a.1; its_size = c.number_at-size.ensures };
      no_fetch = tt;
      no_withdrawal = tt;
    }
