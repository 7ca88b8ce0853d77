-- `tokens::word_at`: the kind of the word, and as many bytes as it has. Assumes nothing.
use mathlib.Core.Path.{◌≡◌, refl, ap, ◌∙◌}
use mathlib.Core.List.{List}
use Prim.Native.Nat.{ℕ, ◌+◌}
use native.Mathlib.Omega.{arith}
use lib.ListN.{length, drop, length-drop}
use Rattle.text.specs.Tokens.{word_of, word_token}
use Rattle.text.specs.Coded.{kind_of}
use Rattle.text.proofs.ByteTests.{word_within}
use Rattle.text.proofs.Fronts.{at_word, held}
use Rattle.text.proofs.tokens.word_at.Goals as goal

pub overflow_add-result : goal.overflow_add-result
overflow_add-result c =
    let n = word_within (drop c.args.at c.args.text.now) in
    omega (arith, n, ap length c.word-word.ensures, length-drop c.args.at c.args.text.now, c.type_inv.text, c.ranges.at.fits)

pub returns : goal.returns
returns c =
    let k = c.word_kind.ensures ∙ ap (λ (w : List ℕ). kind_of (word_token w)) c.word-word.ensures in
    let n = ap (λ (w : List ℕ). c.args.at + length w) c.word-word.ensures in
    record {
      word = (k, refl, n);
      front = λ inside e. (let f = at_word c.args.text.now c.args.at inside e in held _ _ f.0 f.1 k refl n);
    }
