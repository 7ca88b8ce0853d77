-- `values::instant_logged`: the answer told with its end, and state and log as the library leaves them. Assumes nothing.
use mathlib.Core.Path.{◌∙◌, ap₂}
use Rattle.values.specs.Calls.{logged_values}
use Rattle.values.proofs.instant_logged.Goals as goal

pub returns : goal.returns
returns c =
    record { value = c.logged.ensures ∙ ap₂ logged_values c.instant_logged.ensures.answer_value c.instant_logged.ensures.end_value; state_after = c.instant_logged.ensures.state_after; log_after = c.instant_logged.ensures.log_after }
