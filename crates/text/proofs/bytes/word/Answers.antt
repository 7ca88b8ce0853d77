-- `bytes::word`: the run that the iterator counts is that of the definition. Assumes nothing.
use mathlib.Core.Path.{ap, ◌∙◌}
use Prim.Native.Nat.{ℕ}
use lib.ListN.{take}
use Rattle.text.specs.Tokens.{word_of}
use Rattle.text.proofs.ByteTests.{word_passed}
use Rattle.text.proofs.Keys.{word_taken}
use Rattle.text.proofs.bytes.word.Goals as goal

pub returns : goal.returns
returns c =
    let rest = c.rest-text.result.now in
    ap (λ (n : ℕ). take n rest) (c.word_size.ensures ∙ word_passed rest) ∙ word_taken rest ∙ ap word_of c.rest-text.ensures
