-- `values::whole::write_text`: the library's answer as its values, and the lent bytes as the library leaves them. Assumes nothing.
use mathlib.Core.Path.{◌∙◌}
use Rattle.values.proofs.whole.write_text.Goals as goal

pub returns : goal.returns
returns c = record { value = c.wrote.ensures ∙ c.write_text.ensures.result_value; text_after = c.write_text.ensures.text_after }
