-- `values::whole::shown`: each case as its definition says it. Assumes nothing.
use mathlib.Core.Path.{◌∙◌, sym, ap}
use Rattle.maze.specs.declared.Corridor.{Corridor}
use Rattle.maze.specs.Ways.{corridor_told}
use Rattle.values.specs.Whole.{way_values}
use Rattle.values.proofs.whole.shown.Goals as goal

pub returns-in-Visible : goal.returns-in-Visible
unfolding corridor_told way_values
returns-in-Visible c = c.leading.ensures ∙ ap (λ (a : Corridor). way_values (corridor_told a)) (sym c.in-Visible.is)

pub returns-in-Secret : goal.returns-in-Secret
unfolding corridor_told way_values
returns-in-Secret c = c.leading-in-Secret.ensures ∙ ap (λ (a : Corridor). way_values (corridor_told a)) (sym c.in-Secret.is)

pub returns-in-NoMore : goal.returns-in-NoMore
unfolding corridor_told way_values
returns-in-NoMore c = ap (λ (a : Corridor). way_values (corridor_told a)) (sym c.in-NoMore.is)

pub returns-in-NoRoom : goal.returns-in-NoRoom
unfolding corridor_told way_values
returns-in-NoRoom c = ap (λ (a : Corridor). way_values (corridor_told a)) (sym c.in-NoRoom.is)
