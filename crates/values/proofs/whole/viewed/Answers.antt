-- `values::whole::viewed`: each case as its definition says it. Assumes nothing.
use mathlib.Core.Path.{◌∙◌, sym, ap}
use Rattle.values.specs.Whole.{maze_values}
use Rattle.values.proofs.Known.{with_number}
use Rattle.values.proofs.whole.viewed.Goals as goal

pub returns-in-Ok : goal.returns-in-Ok
unfolding maze_values
returns-in-Ok c = ap maze_values (sym c.in-Ok.is)

pub returns-in-Err : goal.returns-in-Err
unfolding maze_values
returns-in-Err c = with_number _ c.number_of.ensures ∙ ap maze_values (sym c.in-Err.is)
