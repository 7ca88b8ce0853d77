-- `forms::active::held_row` meets its contract: by whether the row is a pause.
-- Assumes nothing.
use Rattle.forms.proofs.ActiveLaws.{row_own, row_none}
use mathlib.Core.Path.{◌∙◌}
use Rattle.sets.specs.Words.{set_of}
use Rattle.forms.proofs.active.held_row.Goals as goal

pub returns-then-table-at-eq17 : goal.returns-then-table-at-eq17
returns-then-table-at-eq17 c =
    c.held_one.ensures ∙ row_own c.args.table.now c.args.at (set_of c.args.set) c.if-table-at-eq17.true

pub returns-else-table-at-eq17 : goal.returns-else-table-at-eq17
returns-else-table-at-eq17 c =
    c.no_pause.ensures ∙ row_none c.args.table.now c.args.at (set_of c.args.set) c.if-table-at-eq17.false
