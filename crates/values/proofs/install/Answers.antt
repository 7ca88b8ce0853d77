-- `values::install`: the library's answer as its values, and the shelf as the library leaves it. Assumes nothing.
use mathlib.Core.Path.{◌∙◌}
use Rattle.values.proofs.install.Goals as goal

pub returns : goal.returns
returns c = record { value = c.done.ensures ∙ c.install.ensures.result_value; shelf_after = c.install.ensures.shelf_after }
