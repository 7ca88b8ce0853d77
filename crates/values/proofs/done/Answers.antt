-- `values::done`: each case as its definition says it. Assumes nothing.
use mathlib.Core.Path.{◌∙◌, sym, ap}
use Rattle.shelf.specs.Answered.{shelved_values}
use Rattle.values.proofs.Known.{with_number}
use Rattle.values.proofs.done.Goals as goal

pub returns-in-Ok : goal.returns-in-Ok
unfolding shelved_values
returns-in-Ok c = ap shelved_values (sym c.in-Ok.is)

pub returns-in-Err : goal.returns-in-Err
unfolding shelved_values
returns-in-Err c = with_number _ c.number_of.ensures ∙ ap shelved_values (sym c.in-Err.is)
