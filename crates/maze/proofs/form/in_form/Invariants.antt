-- `maze::form::in_form` meets its contract: every row before i fits, and the root is not nothing.
-- Assumes nothing.
use mathlib.Core.Path.{◌≡◌}
use mathlib.Core.Bool.{true}
use Rattle.maze.specs.Rows.{all_fit_to}
use Rattle.maze.proofs.form.in_form.Given as goal

abbrev pub invariant-loop-i : goal.invariant-loop-i
invariant-loop-i l = all_fit_to l.table.kinds l.table.sizes l.i ≡ true
