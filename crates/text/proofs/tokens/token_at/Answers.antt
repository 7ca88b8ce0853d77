-- `tokens::token_at`: behind the spaces a word, a mark, or the end. Assumes nothing.
use mathlib.Core.Path.{refl, sym, ◌∙◌, subst}
use Prim.Native.Nat.{ℕ}
use native.Mathlib.Omega.{arith}
use Rattle.text.specs.Coded.{FrontAt}
use Rattle.text.specs.declared.tokens.Kind.TheVariants.{End}
use Rattle.text.proofs.Fronts.{held_end}
use Rattle.text.proofs.tokens.token_at.Goals as goal

pub returns-then-word_byte : goal.returns-then-word_byte
returns-then-word_byte c =
    subst (λ (k : ℕ). FrontAt c.args.text.now k c.word_at.result) c.past_spaces-start.ensures
    (c.word_at.ensures.front c.if-start-text.true (sym c.word_byte.ensures ∙ c.if-word_byte.true))

pub returns-then-start-text : goal.returns-then-start-text
returns-then-start-text c =
    subst (λ (k : ℕ). FrontAt c.args.text.now k c.mark_at.result) c.past_spaces-start.ensures
    (c.mark_at.ensures (sym c.word_byte.ensures ∙ c.if-word_byte.false))

pub returns : goal.returns
returns c =
    let start = c.past_spaces-start.result in
    subst (λ (k : ℕ). FrontAt c.args.text.now k (record { kind = End; start = start; end = start })) c.past_spaces-start.ensures
    (held_end (omega (arith, c.if-start-text.false)) refl refl refl)
