-- `values::whole::double_loops`: the library's answer as its values, and the lent bytes as the library leaves them. Assumes nothing.
use mathlib.Core.Path.{◌∙◌}
use Rattle.values.proofs.whole.double_loops.Goals as goal

pub returns : goal.returns
returns c = record { value = c.wrote.ensures ∙ c.double_loops.ensures.result_value; out_after = c.double_loops.ensures.out_after }
