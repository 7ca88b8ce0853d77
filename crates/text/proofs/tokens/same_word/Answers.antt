-- `tokens::same_word`: the two words are compared as slices. Assumes nothing.
use mathlib.Core.Path.{ap₂, ◌∙◌}
use Rattle.text.specs.Tokens.{same}
use Rattle.text.proofs.ByteTests.{same_slices}
use Rattle.text.proofs.tokens.same_word.Goals as goal

pub returns : goal.returns
returns c = c.eq.ensures ∙ same_slices _ _ ∙ ap₂ same c.word.ensures c.word-2.ensures
