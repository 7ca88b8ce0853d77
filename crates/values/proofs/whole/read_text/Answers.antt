-- `values::whole::read_text`: the library's answer as its values, and the lent bytes as the library leaves them. Assumes nothing.
use mathlib.Core.Path.{◌∙◌}
use Rattle.values.proofs.whole.read_text.Goals as goal

pub returns : goal.returns
returns c = record { value = c.wrote.ensures ∙ c.read_text.ensures.result_value; block_after = c.read_text.ensures.block_after }
