-- `values::stopped`: each case as its definition says it. Assumes nothing.
use mathlib.Core.Path.{◌∙◌, sym, ap}
use Rattle.std.specs.Prelude.{Err}
use Rattle.reaction.specs.declared.Stopped.{Stopped}
use Rattle.foldheron.specs.Reasons.{reason_values}
use Rattle.values.proofs.Known.{with_number}
use Rattle.values.proofs.stopped.Goals as goal

pub returns-in-Clash : goal.returns-in-Clash
unfolding reason_values
returns-in-Clash c = ap (λ (s : Stopped). reason_values (Err s)) (sym c.in-Clash.is)

pub returns-in-Refused : goal.returns-in-Refused
unfolding reason_values
returns-in-Refused c = with_number _ c.number_of.ensures ∙ ap (λ (s : Stopped). reason_values (Err s)) (sym c.in-Refused.is)
