-- `values::instant_heard`: the answer told, and the state as the library leaves it. Assumes nothing.
use mathlib.Core.Path.{◌∙◌, ap}
use Rattle.reaction.specs.Instants.{Told}
use Rattle.values.specs.Calls.{logged_values}
use Rattle.values.proofs.instant_heard.Goals as goal

pub returns : goal.returns
returns c =
    record { value = c.told_values.ensures ∙ ap (λ (t : Told). logged_values t 0) c.instant_heard.ensures.result_value; state_after = c.instant_heard.ensures.state_after }
