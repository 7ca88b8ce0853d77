-- `values::check`: each case as its definition says it. Assumes nothing.
use mathlib.Core.Path.{◌∙◌, sym, ap}
use Rattle.foldheron.specs.Answers.{check_values}
use Rattle.values.proofs.Known.{with_number}
use Rattle.values.proofs.check.Goals as goal

pub returns-in-Ok : goal.returns-in-Ok
unfolding check_values
returns-in-Ok c = ap check_values (sym c.in-Ok.is) ∙ c.check.ensures

pub returns-in-Err : goal.returns-in-Err
unfolding check_values
returns-in-Err c = with_number _ c.number_of.ensures ∙ ap check_values (sym c.in-Err.is) ∙ c.check.ensures
