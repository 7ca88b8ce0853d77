-- `values::fresh`: the library's answer as its values, and the state as the library leaves it. Assumes nothing.
use mathlib.Core.Path.{◌∙◌}
use Rattle.values.proofs.Known.{done_values}
use Rattle.values.proofs.fresh.Goals as goal

pub returns : goal.returns
returns c = record { value = c.done.ensures ∙ done_values _ ∙ c.fresh.ensures.result_value; state_after = c.fresh.ensures.state_after }
