-- `tokens::mark_at`: a mark of one byte, two strokes, or no token. Assumes nothing.
use mathlib.Core.Path.{◌≡◌, refl, sym, ap, ◌∙◌}
use Prim.Native.Nat.{suc}
use native.Mathlib.Omega.{arith}
use mathlib.Core.Option.{some}
use lib.ListN.{get_or, drop}
use Rattle.text.specs.Tokens.{no_token, mark_token, mark_size}
use Rattle.text.specs.Coded.{kind_of}
use Rattle.text.proofs.Fronts.{at_mark, one_mark, two_strokes, one_stroke, no_mark, held, behind, nothing_behind}
use Rattle.text.proofs.tokens.mark_at.Goals.{else-b-eq124-via-then-b-eq124+then-end-text+else-text-end-eq124, else-b-eq124-via-then-b-eq124+else-end-text, else-b-eq124-via-else-b-eq124}
use Rattle.text.proofs.tokens.mark_at.Goals as goal

pub overflow_cast-result : goal.overflow_cast-result
overflow_cast-result c = omega (arith, c.shared_slice_known-2-1.given c.args.at)

pub returns-then-mark : goal.returns-then-mark
unfolding kind_of
returns-then-mark c =
    λ e.
    let f = at_mark c.args.text.now c.args.at c.requires e in
    let m = one_mark (get_or c.args.text.now c.args.at 0) (drop (suc c.args.at) c.args.text.now) (sym c.mark.ensures ∙ c.if-mark.true) in
    held _ _ (f.0 ∙ ap some m.0) (f.1 ∙ m.1) refl refl refl

pub returns-then-text-end-eq124 : goal.returns-then-text-end-eq124
unfolding kind_of
returns-then-text-end-eq124 c =
    λ e.
    let f = at_mark c.args.text.now c.args.at c.requires e in
    let m = two_strokes (get_or c.args.text.now c.args.at 0) (drop (suc c.args.at) c.args.text.now) c.if-b-eq124.true (behind c.args.text.now c.args.at ∙ c.if-text-end-eq124.true) in
    held _ _ (f.0 ∙ ap some m.0) (f.1 ∙ m.1) refl refl (omega arith)

pub returns : goal.returns
unfolding kind_of
returns c =
    λ e.
    let b = get_or c.args.text.now c.args.at 0 in
    let bs = drop (suc c.args.at) c.args.text.now in
    let f = at_mark c.args.text.now c.args.at c.requires e in
    let alone : (mark_token b bs ≡ no_token) × (mark_size b bs ≡ 1) = elim c.else-b-eq124.branch [
      | else-b-eq124-via-then-b-eq124+then-end-text+else-text-end-eq124 w ↦ one_stroke b bs (sym c.mark.ensures ∙ c.if-mark.false) (λ h. w.if-text-end-eq124.false (sym (behind c.args.text.now c.args.at) ∙ h))
      | else-b-eq124-via-then-b-eq124+else-end-text w ↦ one_stroke b bs (sym c.mark.ensures ∙ c.if-mark.false) (nothing_behind c.args.text.now c.args.at w.if-end-text.false)
      | else-b-eq124-via-else-b-eq124 w ↦ no_mark b bs (sym c.mark.ensures ∙ c.if-mark.false) w.if-b-eq124.false
    ] in
    held _ _ (f.0 ∙ ap some alone.0) (f.1 ∙ alone.1) refl refl refl
