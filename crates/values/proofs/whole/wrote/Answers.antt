-- `values::whole::wrote`: each case as its definition says it. Assumes nothing.
use mathlib.Core.Path.{◌∙◌, sym, ap}
use Rattle.writing.specs.Answers.{wrote_values}
use Rattle.values.proofs.Known.{with_number}
use Rattle.values.proofs.whole.wrote.Goals as goal

pub returns-in-Ok : goal.returns-in-Ok
unfolding wrote_values
returns-in-Ok c = ap wrote_values (sym c.in-Ok.is)

pub returns-in-Err : goal.returns-in-Err
unfolding wrote_values
returns-in-Err c = with_number _ c.number_of.ensures ∙ ap wrote_values (sym c.in-Err.is)
