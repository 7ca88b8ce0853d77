-- `values::withdraw`: the library's answer as its values, and the shelf as the library leaves it. Assumes nothing.
use mathlib.Core.Path.{◌∙◌}
use Rattle.values.proofs.withdraw.Goals as goal

pub returns : goal.returns
returns c = record { value = c.done.ensures ∙ c.withdraw.ensures.result_value; shelf_after = c.withdraw.ensures.shelf_after }
