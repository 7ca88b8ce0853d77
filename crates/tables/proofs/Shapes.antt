-- The shapes of the kinds: a number that none of the tests meets has none, and what a shape says of its kind. Assumes nothing.
use mathlib.Core.Path.{◌≡◌, sym, ap}
use mathlib.Core.Logic.{◌⊎◌, inl, inr, ⊎_elim}
use Prim.Native.Nat.{ℕ, ◌<◌}
use native.Mathlib.Omega.{arith}
use Rattle.std.specs.Prelude.{Some, None}
use borrow.Author.Tests.{ne_eqb}
use Rattle.sets.specs.Numbers.{listed}
use Rattle.tables.specs.declared.kinds.Shape.{Shape}
use Rattle.tables.specs.Kinds.{shape, wide_shape, of_shape, length_of, operands_of, children_of}

-- A number that is none of the eleven.
pub no_kind : (k : ℕ) → (k ≡ 16 → ⊥) → (k ≡ 17 → ⊥) → ((k ≡ 22) ⊎ (k ≡ 24) → ⊥) → ((k ≡ 21) ⊎ (k ≡ 23) → ⊥)
    → ((k ≡ 18) ⊎ (k ≡ 25) → ⊥) → ((k ≡ 20) ⊎ (k ≡ 26) → ⊥) → (k ≡ 19 → ⊥) → shape k ≡ None
unfolding shape listed
no_kind k a b c d e f g =
    simp (
      ne_eqb k 16 a,
      ne_eqb k 17 b,
      ne_eqb k 22 (λ h. c (inl h)),
      ne_eqb k 24 (λ h. c (inr h)),
      ne_eqb k 21 (λ h. d (inl h)),
      ne_eqb k 23 (λ h. d (inr h)),
      ne_eqb k 18
          (λ h. e (inl h)),
      ne_eqb k 25 (λ h. e (inr h)),
      ne_eqb k 20 (λ h. f (inl h)),
      ne_eqb k 26 (λ h. f (inr h)),
      ne_eqb k 19 g,
    )

-- No kind of edition 1 is above 26.
pub above_kinds : (k : ℕ) → 26 < k → shape k ≡ None
above_kinds k l =
    no_kind k (λ e. omega arith) (λ e. omega arith) (⊎_elim (λ e. omega arith) (λ e. omega arith)) (⊎_elim (λ e. omega arith) (λ e. omega arith))
    (⊎_elim (λ e. omega arith) (λ e. omega arith)) (⊎_elim (λ e. omega arith) (λ e. omega arith)) (λ e. omega arith)

-- Below its four kinds edition 2 has the shapes of edition 1.
as_it_was : (k : ℕ) → (k ≡ 32 → ⊥) → (k ≡ 33 → ⊥) → (k ≡ 34 → ⊥) → (k ≡ 35 → ⊥) → wide_shape k ≡ shape k
unfolding wide_shape listed
as_it_was k a b c d = simp (ne_eqb k 32 a, ne_eqb k 33 b, ne_eqb k 34 c, ne_eqb k 35 d)

pub first_edition : (k : ℕ) → k < 32 → wide_shape k ≡ shape k
first_edition k l = as_it_was k (λ e. omega arith) (λ e. omega arith) (λ e. omega arith) (λ e. omega arith)

-- What a shape says of its kind.
pub record Shaped (k : ℕ) (s : Shape) : Type 0 where
  pub its_length : s.length ≡ length_of k
  pub its_operands : s.operands ≡ operands_of k
  pub its_children : s.children ≡ children_of k

pub shaped : (k : ℕ) {s : Shape} → shape k ≡ Some s → Shaped k s
unfolding length_of operands_of children_of
shaped k e = record { its_length = sym (ap (of_shape (λ s. s.length)) e); its_operands = sym (ap (of_shape (λ s. s.operands)) e); its_children = sym (ap (of_shape (λ s. s.children)) e) }

pub no_length : (k : ℕ) → shape k ≡ None → length_of k ≡ 0
unfolding length_of
no_length k e = ap (of_shape (λ s. s.length)) e
