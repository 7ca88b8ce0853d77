-- `values::whole::compared`: blocks that are compared as their definition says it, others by their own values. Assumes nothing.
use mathlib.Core.Path.{◌∙◌, sym, ap}
use Rattle.values.specs.Whole.{likeness_values}
use Rattle.values.proofs.Known.{run_size}
use Rattle.values.proofs.whole.compared.Goals as goal

pub returns-in-Ok : goal.returns-in-Ok
returns-in-Ok c = run_size _ c.unwrap_or.ensures ∙ ap likeness_values (sym c.in-Ok.is)

pub returns-in-Err : goal.returns-in-Err
returns-in-Err c = c.not_compared.ensures ∙ ap likeness_values (sym c.in-Err.is)
