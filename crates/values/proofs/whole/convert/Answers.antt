-- `values::whole::convert`: the library's answer as its values, and the lent bytes as the library leaves them. Assumes nothing.
use mathlib.Core.Path.{◌∙◌}
use Rattle.values.proofs.whole.convert.Goals as goal

pub returns : goal.returns
returns c = record { value = c.wrote.ensures ∙ c.convert.ensures.result_value; out_after = c.convert.ensures.out_after }
