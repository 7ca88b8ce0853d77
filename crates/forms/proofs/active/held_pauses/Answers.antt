-- `forms::active::held_pauses` meets its contract: the rows passed have given their active pauses.
-- Assumes nothing.
use Rattle.tables.proofs.Rows.{has_row}
use Rattle.forms.proofs.FormLaws.{in_table}
use mathlib.Core.Path.{ap₂, ◌∙◌}
use native.Mathlib.Omega.{arith}
use Rattle.forms.proofs.ActiveLaws.{rows_none, rows_more, rows_all, both_ways}
use Rattle.sets.specs.Numbers.{union}
use Rattle.sets.specs.Words.{set_of}
use Rattle.forms.proofs.active.held_pauses.Goals as goal

pub offset_bounds-table-at : goal.offset_bounds-table-at
offset_bounds-table-at c = omega (arith, in_table c.requires)

pub bounds-table-at : goal.bounds-table-at
bounds-table-at c = in_table c.requires

pub loop-n-init : goal.loop-n-init
loop-n-init c =
    c.no_pause-kept.ensures ∙ rows_none c.args.table.now c.args.at (set_of c.args.set)

pub overflow_add-at : goal.overflow_add-at
overflow_add-at c =
    omega (arith, c.loop-n-test.true, (has_row c.requires.tree c.requires.there.has).its_size, c.requires.there.room, c.wide-size.ensures.0)

pub held_row-row-requires : goal.held_row-row-requires
held_row-row-requires c =
    omega (arith, c.loop-n-test.true, (has_row c.requires.tree c.requires.there.has).its_size, c.requires.there.room, c.wide-size.ensures.0)

pub loop-n-preserved : goal.loop-n-preserved
loop-n-preserved c =
    c.joined-more.ensures ∙ ap₂ union c.loop-n.invariant c.held_row-row.ensures ∙ rows_more c.args.table.now c.args.at c.loop-n.n (set_of c.args.set)

pub returns : goal.returns
returns c =
    λ t a.
    c.loop-n.invariant
    ∙ rows_all c.args.table.now c.args.at c.loop-n.n (set_of c.args.set) t a
    (both_ways c.loop-n.auto.n-end c.loop-n-test.false ∙ c.wide-size.ensures.0)
