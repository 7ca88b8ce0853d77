-- Where an exit goes, mark by mark from the innermost on. Assumes nothing.
use mathlib.Core.Path.{◌≡◌, refl, sym, ap, ◌∙◌}
use mathlib.Core.Bool.{Bool, true, false}
use mathlib.Core.List.{List, ◌∷◌}
use Prim.Native.Nat.{ℕ, zero, suc, ◌+◌, ◌-◌, ◌/◌, ◌%◌}
use native.Mathlib.Omega.{arith}
use lib.Dec.{eqb}
use borrow.Author.Tests.{eq-eqb, ne_eqb}
use Rattle.rules.specs.Statements.{depth}
use Rattle.everyday.specs.Conversion.{deeper}
use Rattle.converting.specs.Records.{out_by}
use Rattle.convert.specs.Marks.{marks_of}

pub no_mark : (w n d : ℕ) → n ≡ 0 → depth d ≡ out_by (marks_of w n) (depth d)
unfolding out_by marks_of
no_mark w zero d e = refl
no_mark w (suc n) d e = absurd (omega arith)

-- The innermost mark, and those further out.
first_mark : (w n : ℕ) (z : Bool) → (n ≡ 0 → ⊥) → eqb (w % 2) 1 ≡ z → marks_of w n ≡ z ∷ marks_of (w / 2) (n - 1)
unfolding marks_of
first_mark w zero z h e = absurd (h refl)
first_mark w (suc n) z h e = let m : n ≡ suc n - 1 = omega arith in λ i. e i ∷ marks_of (w / 2) (m i)

deeper_by_one : (r : ℕ) → depth (r + 1) ≡ deeper (depth r)
deeper_by_one r = ap depth {x = r + 1} {y = suc r} (omega arith)

pub past_abort : (w n d r : ℕ) → (n ≡ 0 → ⊥) → (w % 2 ≡ 1 → ⊥) → depth r ≡ out_by (marks_of (w / 2) (n - 1)) (depth d) → depth (r + 1) ≡ out_by (marks_of w n) (depth d)
unfolding out_by
past_abort w n d r h z e =
    deeper_by_one r ∙ ap deeper e ∙ ap (λ (ms : List Bool). out_by ms (depth d)) (sym (first_mark w n false h (ne_eqb (w % 2) 1 z)))

pub own_trap : (w n d : ℕ) → (n ≡ 0 → ⊥) → w % 2 ≡ 1 → d ≡ 0 → depth 0 ≡ out_by (marks_of w n) (depth d)
unfolding out_by
own_trap w n zero h z e = ap (λ (ms : List Bool). out_by ms (depth 0)) (sym (first_mark w n true h (eq-eqb (w % 2) 1 z)))
own_trap w n (suc d) h z e = absurd (omega arith)

pub past_this_trap : (w n d r : ℕ) → (n ≡ 0 → ⊥) → w % 2 ≡ 1 → (d ≡ 0 → ⊥) → depth r ≡ out_by (marks_of (w / 2) (n - 1)) (depth (d - 1))
    → depth (r + 1) ≡ out_by (marks_of w n) (depth d)
unfolding out_by
past_this_trap w n zero r h z k e = absurd (k refl)
past_this_trap w n (suc d) r h z k e =
    let m : suc d - 1 ≡ d = omega arith in
    deeper_by_one r ∙ ap deeper (e ∙ ap (λ (x : ℕ). out_by (marks_of (w / 2) (n - 1)) (depth x)) m)
    ∙ ap (λ (ms : List Bool). out_by ms (depth (suc d))) (sym (first_mark w n true h (eq-eqb (w % 2) 1 z)))
