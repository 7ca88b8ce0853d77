-- `values::reasoned`: a statement as its definition says it, and what stopped the question by its own values. Assumes nothing.
use mathlib.Core.Path.{◌∙◌, sym, ap}
use Rattle.foldheron.specs.Reasons.{reason_values}
use Rattle.values.proofs.reasoned.Goals as goal

pub returns-in-Ok : goal.returns-in-Ok
unfolding reason_values
returns-in-Ok c = ap reason_values (sym c.in-Ok.is)

pub returns-in-Err : goal.returns-in-Err
returns-in-Err c = c.stopped.ensures ∙ ap reason_values (sym c.in-Err.is)
