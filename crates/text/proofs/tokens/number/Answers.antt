-- `tokens::number`: the digits left, with the value so far, stand for what the whole word stands for. Assumes nothing.
use mathlib.Core.Path.{◌≡◌, sym, ap, ◌∙◌}
use Prim.Native.Nat.{ℕ, suc, ◌+◌, ◌-◌, ◌*◌}
use native.Mathlib.Omega.{arith}
use lib.ListN.{get_or, drop, drop_of_length-le}
use lib.Seq.{drop-cons}
use Rattle.text.proofs.Numbers.{value_left, all_left, too_many, one_digit, no_digit, fits_left, over_left, digit_range, more_digits}
use Rattle.text.proofs.tokens.number.Goals as goal

pub returns-then-word-gt5 : goal.returns-then-word-gt5
returns-then-word-gt5 c = sym (too_many c.args.word.now c.if-word-gt5.true)

pub loop-b-init : goal.loop-b-init
loop-b-init c = record { so_far = all_left c.args.word.now c.if-word-gt5.false; few = omega arith }

pub returns-then-not-digit : goal.returns-then-not-digit
returns-then-not-digit c =
    let i = c.loop-b.b-index in
    let b = get_or c.args.word.now i 0 in
    sym (ap (value_left c.loop-b.value) (drop-cons c.args.word.now i 0 c.loop-b-test.true)
    ∙ no_digit c.loop-b.value b (drop (suc i) c.args.word.now) (sym c.digit.ensures ∙ c.if-not-digit.true)) ∙ c.loop-b.invariant.so_far

pub loop-b-preserved : goal.loop-b-preserved
loop-b-preserved c =
    let i = c.loop-b.b-index in
    let b = get_or c.args.word.now i 0 in
    let e : suc i ≡ i + 1 = omega arith in
    let digit = sym c.digit.ensures ∙ c.if-not-digit.false in
    record {
      so_far = sym (ap (value_left c.loop-b.value) (drop-cons c.args.word.now i 0 c.loop-b-test.true)
          ∙ one_digit c.loop-b.value b (drop (suc i) c.args.word.now) digit
          ∙ ap (λ (k : ℕ). value_left (c.loop-b.value * 10 + (b - 48)) (drop k c.args.word.now)) e) ∙ c.loop-b.invariant.so_far;
      few = more_digits i c.loop-b.invariant.few (digit_range b digit).1;
    }

pub returns-then-value-gt65535 : goal.returns-then-value-gt65535
returns-then-value-gt65535 c =
    let none_more = ap (value_left c.loop-b.value) (drop_of_length-le c.args.word.now c.loop-b-test.false) in
    sym (none_more ∙ over_left c.loop-b.value c.if-value-gt65535.true) ∙ c.loop-b.invariant.so_far

pub returns : goal.returns
returns c =
    let none_more = ap (value_left c.loop-b.value) (drop_of_length-le c.args.word.now c.loop-b-test.false) in
    sym (none_more ∙ fits_left c.loop-b.value c.if-value-gt65535.false) ∙ c.loop-b.invariant.so_far
