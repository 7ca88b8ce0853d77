-- `statements::put_statement`: each way is a law of StatementLaws, from the opening piece on. The measure is what is left of the table.
-- Assumes nothing.
use mathlib.Core.Path.{refl}
use native.Mathlib.Omega.{arith}
use lib.ListN.{get_or}
use Rattle.write_text.proofs.Putting.{told_as, same_size}
use Rattle.write_text.proofs.SpotLaws.{same_level}
use Rattle.write_text.proofs.StatementLaws.{in_table, allowed, leaf_text, one_child, two_children, over_asks, over_closes, over_put}
use Rattle.write_text.proofs.StatementLaws.{first_asks, first_ends, second_asks, joins_closes, joins_put}
use Rattle.write_text.proofs.statements.+put_statement.Goals as goal

pub offset_bounds-table-at : goal.offset_bounds-table-at
offset_bounds-table-at t c = let w = in_table c.requires.stands in omega arith

pub bounds-table-at : goal.bounds-table-at
bounds-table-at t c = in_table c.requires.stands

pub offset_bounds-table-at-2 : goal.offset_bounds-table-at-2
offset_bounds-table-at-2 t c = let w = in_table c.requires.stands in omega arith

pub bounds-table-at-2 : goal.bounds-table-at-2
bounds-table-at-2 t c = in_table c.requires.stands

pub put_opening-begun-requires : goal.put_opening-begun-requires
put_opening-begun-requires t c =
    let k = allowed c.requires.stands in record { le_kind = k.0; kind_bound = k.1; to_bound = omega (arith, c.requires.short) }

pub inside-first-requires : goal.inside-first-requires
inside-first-requires t c =
    let w = in_table c.requires.stands in
    record { indent_bound = omega (arith, c.requires.few_open); traps_bound = omega (arith, c.requires.few_traps) }

pub overflow_add-at : goal.overflow_add-at
overflow_add-at t c = let w = in_table c.requires.stands in omega arith

pub put_statement-half-requires : goal.put_statement-half-requires
put_statement-half-requires t c =
    let two = two_children c.requires.stands c.in-19.is _ (λ h. refl) in
    let e = same_level c.args.spot (get_or c.args.table.now.kinds c.args.at 0) _ c.inside-first.ensures c.first_level.ensures in
    let w = in_table c.requires.stands in
    (omega (arith, c.decreases), first_asks c.args.spot two c.put_opening-begun.ensures e c.requires.rest c.requires.short c.requires.few_open c.requires.few_traps)

pub put_between-next-requires : goal.put_between-next-requires
put_between-next-requires t c =
    let two = two_children c.requires.stands c.in-19.is _ (λ h. refl) in
    let e = same_level c.args.spot (get_or c.args.table.now.kinds c.args.at 0) _ c.inside-first.ensures c.first_level.ensures in
    first_ends c.args.spot two c.put_opening-begun.ensures e (c.put_statement-half.ensures two.first two.first_stands) c.requires.rest c.requires.short

pub inside-second-requires : goal.inside-second-requires
inside-second-requires t c =
    let w = in_table c.requires.stands in
    record { indent_bound = omega (arith, c.requires.few_open); traps_bound = omega (arith, c.requires.few_traps) }

pub second_at-last-requires : goal.second_at-last-requires
second_at-last-requires t c = in_table c.requires.stands

pub put_statement-done-requires : goal.put_statement-done-requires
put_statement-done-requires t c =
    let two = two_children c.requires.stands c.in-19.is _ c.second_at-last.ensures.0 in
    let e = same_level c.args.spot (get_or c.args.table.now.kinds c.args.at 0) _ c.inside-first.ensures c.first_level.ensures in
    let g = same_level c.args.spot (get_or c.args.table.now.kinds c.args.at 0) _ c.inside-second.ensures c.second_level.ensures in
    let w = in_table two.second_stands in (
      omega (arith, c.decreases, two.behind),
      second_asks c.args.spot two c.put_opening-begun.ensures e (c.put_statement-half.ensures two.first two.first_stands) c.put_between-next.ensures g
          c.requires.rest c.requires.short c.requires.few_open c.requires.few_traps,
    )

pub put_closing-requires : goal.put_closing-requires
put_closing-requires t c =
    let two = two_children c.requires.stands c.in-19.is _ c.second_at-last.ensures.0 in
    let e = same_level c.args.spot (get_or c.args.table.now.kinds c.args.at 0) _ c.inside-first.ensures c.first_level.ensures in
    let g = same_level c.args.spot (get_or c.args.table.now.kinds c.args.at 0) _ c.inside-second.ensures c.second_level.ensures in
    joins_closes c.args.spot two c.put_opening-begun.ensures e (c.put_statement-half.ensures two.first two.first_stands) c.put_between-next.ensures g
    (c.put_statement-done.ensures two.second two.second_stands) c.requires.rest c.requires.short

pub inside-body-requires : goal.inside-body-requires
inside-body-requires t c =
    let w = in_table c.requires.stands in
    record { indent_bound = omega (arith, c.requires.few_open); traps_bound = omega (arith, c.requires.few_traps) }

pub overflow_add-at-in-20 : goal.overflow_add-at-in-20
overflow_add-at-in-20 t c = let w = in_table c.requires.stands in omega arith

pub put_statement-done-requires-in-20 : goal.put_statement-done-requires-in-20
put_statement-done-requires-in-20 t c =
    let one = one_child c.requires.stands c.in-20.is in
    let w = in_table c.requires.stands in
    (omega (arith, c.decreases), over_asks c.args.spot one c.put_opening-begun.ensures c.inside-body.ensures c.requires.rest c.requires.short c.requires.few_open c.requires.few_traps)

pub put_closing-requires-in-20 : goal.put_closing-requires-in-20
put_closing-requires-in-20 t c =
    let one = one_child c.requires.stands c.in-20.is in
    over_closes c.args.spot one c.put_opening-begun.ensures c.inside-body.ensures (c.put_statement-done-in-20.ensures one.child one.stands) c.requires.rest c.requires.short

pub returns-in-19 : goal.returns-in-19
returns-in-19 t c =
    let e = same_level c.args.spot (get_or c.args.table.now.kinds c.args.at 0) _ c.inside-first.ensures c.first_level.ensures in
    let g = same_level c.args.spot (get_or c.args.table.now.kinds c.args.at 0) _ c.inside-second.ensures c.second_level.ensures in
    λ t w.
    let two = two_children w c.in-19.is _ c.second_at-last.ensures.0 in
    joins_put c.args.spot two c.put_opening-begun.ensures e (c.put_statement-half.ensures two.first two.first_stands) c.put_between-next.ensures g
    (c.put_statement-done.ensures two.second two.second_stands) c.put_closing.ensures

pub shape_of-out-in-19 : goal.shape_of-out-in-19
shape_of-out-in-19 t c = same_size {a = c.args.out.now} (returns-in-19 t c c.requires.tree c.requires.stands)

pub returns-in-20 : goal.returns-in-20
returns-in-20 t c =
    λ t w.
    let one = one_child w c.in-20.is in
    over_put c.args.spot one c.put_opening-begun.ensures c.inside-body.ensures (c.put_statement-done-in-20.ensures one.child one.stands) c.put_closing-in-20.ensures

pub shape_of-out-in-20 : goal.shape_of-out-in-20
shape_of-out-in-20 t c = same_size {a = c.args.out.now} (returns-in-20 t c c.requires.tree c.requires.stands)

pub returns-in_default : goal.returns-in_default
returns-in_default t c =
    λ t w. told_as (leaf_text w c.in_default.in_default-own.rest.0.1 c.in_default.in_default-own.rest.1 c.args.spot) c.put_opening-begun.ensures

pub shape_of-out-in_default : goal.shape_of-out-in_default
shape_of-out-in_default t c = same_size {a = c.args.out.now} (returns-in_default t c c.requires.tree c.requires.stands)
