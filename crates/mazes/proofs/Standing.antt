-- Where a statement stands in a block's tree: from its number on come its own statements, and so do those of its children, directly behind it. Assumes nothing.
use mathlib.Core.Path.{◌≡◌, refl, sym, ◌∙◌, ap, subst}
use mathlib.Core.Bool.{Bool, true, false, cond}
use mathlib.Core.List.{List, ◌∷◌, ◌++◌}
use Prim.Native.Nat.{ℕ, ◌+◌, ◌<◌}
use native.Mathlib.Nat.{add-zero, zero-add, add_assoc}
use native.Mathlib.Omega.{arith}
use lib.Dec.{T}
use Rattle.rules.specs.Statements.{Stmt, nothing, emit, present?◌then◌else◌, ◌parallel◌, statements, preorder, numbered}
use Rattle.rules.proofs.Preorder.{first_is, some_statement, first_child, second_child}
use Rattle.mazes.specs.Mazes.{OfForm, an_emit, with_then, with_else, a_parallel, is_nothing}

pub record Stands (t : Stmt) (i : ℕ) (p : Stmt) : Type 0 where
  pub at : (m : ℕ) → m < statements p → numbered t (i + m) ≡ numbered p m

pub at_root : (t : Stmt) → Stands t 0 t
at_root t = record { at = λ m l. ap (λ (j : ℕ). numbered t j) (zero-add m) }

pub itself : {t p : Stmt} {i : ℕ} → Stands t i p → numbered t i ≡ p
itself {t} {p} {i} h = ap (λ (j : ℕ). numbered t j) (sym (add-zero i)) ∙ h.at 0 (some_statement p) ∙ first_is p

module _ {t : Stmt} {i : ℕ} (u p q : Stmt) (e : preorder u ≡ u ∷ preorder p ++ preorder q) (n : statements u ≡ 1 + statements p + statements q) (h : Stands t i u) where
  pub of_one : Stands t (i + 1) p
  of_one = record {
    at = λ m l. ap (λ (j : ℕ). numbered t j) (add_assoc i 1 m) ∙ h.at (1 + m) (omega (arith, n)) ∙ first_child u p q e m l;
  }

  pub of_other : Stands t (i + 1 + statements p) q
  of_other = record {
    at = λ m l. ap (λ (j : ℕ). numbered t j) (places m) ∙ h.at (1 + statements p + m) (omega (arith, n)) ∙ second_child u p q e m;
  }
    where
      places : (m : ℕ) → i + 1 + statements p + m ≡ i + (1 + statements p + m)
      places m = omega arith

-- A statement of the form is not nothing.
pub not_nothing : {p : Stmt} → OfForm p → is_nothing p ≡ false
not_nothing (an_emit s) = refl
not_nothing (with_then s f) = refl
not_nothing (with_else s f) = refl
not_nothing (a_parallel f g) = refl
