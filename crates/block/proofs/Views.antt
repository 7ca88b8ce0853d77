-- The eleven kinds as a view of a number, so that a proof by kinds has one case for each: four without a child, four with one, three with two.
use mathlib.Core.Path.{◌≡◌, refl, sym, subst, subst⁻¹}
use mathlib.Core.Logic.{◌⊎◌, inl, inr, ⊎_elim}
use mathlib.Core.Bool.{Bool, true, false}
use Rattle.std.specs.Prelude.{Option, Some, None}
use Prim.Native.Nat.{ℕ, ◌≤◌}
use lib.Dec.{eqb, lit≤}
use native.Mathlib.Omega.{arith}
use borrow.Author.Tests.{eqb-true, eqb-false}
use Rattle.sets.specs.Numbers.{listed}
use Rattle.tables.specs.declared.kinds.Shape.{Shape}
use Rattle.tables.specs.Kinds.{shape, short, long, of_shape, length_of, children_of}
use Rattle.tables.proofs.Shapes.{no_kind, no_length}

pub data Leaf : ℕ → Type 0 where
  a_nothing : Leaf 16
  a_pause : Leaf 17
  an_emit : Leaf 18
  an_exit : Leaf 25

pub data Above : ℕ → Type 0 where
  a_suspend : Above 20
  a_loop : Above 22
  a_trap : Above 24
  a_local : Above 26

pub data Joined : ℕ → Type 0 where
  a_present : Joined 19
  a_sequence : Joined 21
  a_parallel : Joined 23

pub data Kind : ℕ → Type 0 where
  leafs : {k : ℕ} → Leaf k → Kind k
  aboves : {k : ℕ} → Above k → Kind k
  joins : {k : ℕ} → Joined k → Kind k

pub is? : (k m : ℕ) → (k ≡ m) ⊎ (k ≡ m → ⊥)
is? k m = go (eqb k m) refl
  where
    go : (z : Bool) → eqb k m ≡ z → (k ≡ m) ⊎ (k ≡ m → ⊥)
    go true e = inl (eqb-true k m e)
    go false e = inr (eqb-false k m e)

at_number : {k : ℕ} (m : ℕ) → Kind m → k ≡ m → Kind k ⊎ (shape k ≡ None)
at_number m v e = inl (subst Kind (sym e) v)

neither : {P Q : Type 0} → (P → ⊥) → (Q → ⊥) → P ⊎ Q → ⊥
neither p q (inl x) = p x
neither p q (inr y) = q y

-- Every number is one of the eleven kinds, or none.
pub shape? : (k : ℕ) → Kind k ⊎ (shape k ≡ None)
shape? k =
    ⊎_elim (at_number 16 (leafs a_nothing)) (λ n16.
    ⊎_elim (at_number 17 (leafs a_pause)) (λ n17.
    ⊎_elim (at_number 18 (leafs an_emit)) (λ n18.
    ⊎_elim (at_number 25 (leafs an_exit)) (λ n25.
    ⊎_elim (at_number 20 (aboves a_suspend)) (λ n20.
    ⊎_elim (at_number 22 (aboves a_loop)) (λ n22.
    ⊎_elim (at_number 24 (aboves a_trap)) (λ n24.
    ⊎_elim (at_number 26 (aboves a_local)) (λ n26.
    ⊎_elim (at_number 19 (joins a_present)) (λ n19.
    ⊎_elim (at_number 21 (joins a_sequence)) (λ n21.
    ⊎_elim (at_number 23 (joins a_parallel)) (λ n23.
    inr (no_kind k n16 n17 (neither n22 n24) (neither n21 n23) (neither n18 n25) (neither n20 n26) n19))
    (is? k 23)) (is? k 21)) (is? k 19)) (is? k 26)) (is? k 24)) (is? k 22)) (is? k 20)) (is? k 25)) (is? k 18)) (is? k 17)) (is? k 16)

pub kind? : (k : ℕ) → (length_of k ≡ 0 → ⊥) → Kind k
kind? k n = ⊎_elim (λ v. v) (λ e. absurd (n (no_length k e))) (shape? k)

-- A record of an allowed kind has no operand or one.
pub known : {k : ℕ} → Kind k → (shape k ≡ short (children_of k)) ⊎ (shape k ≡ long (children_of k))
unfolding shape children_of listed
known (leafs a_nothing) = inl refl
known (leafs a_pause) = inl refl
known (leafs an_emit) = inr refl
known (leafs an_exit) = inr refl
known (aboves a_suspend) = inr refl
known (aboves a_loop) = inl refl
known (aboves a_trap) = inl refl
known (aboves a_local) = inr refl
known (joins a_present) = inr refl
known (joins a_sequence) = inl refl
known (joins a_parallel) = inl refl

pub has_shape : {k : ℕ} → Kind k → (s : Shape) × (shape k ≡ Some s)
has_shape v = ⊎_elim (λ e. (_, e)) (λ e. (_, e)) (known v)

pub known_length : {k : ℕ} → Kind k → (4 ≤ length_of k) × (length_of k ≤ 6)
unfolding length_of
known_length {k} v = ⊎_elim (of_length 4 (lit≤ tt) (lit≤ tt)) (of_length 6 (lit≤ tt) (lit≤ tt)) (known v)
  where
    of_length : (l : ℕ) {o n : ℕ} → 4 ≤ l → l ≤ 6 → shape k ≡ Some (record { length = l; operands = o; children = n })
        → (4 ≤ of_shape (λ s. s.length) (shape k)) × (of_shape (λ s. s.length) (shape k) ≤ 6)
    of_length l h g e = subst⁻¹ (λ (s : Option Shape). (4 ≤ of_shape (λ s. s.length) s) × (of_shape (λ s. s.length) s ≤ 6)) e (h, g)

pub leaf_children : {k : ℕ} → Leaf k → children_of k ≡ 0
unfolding shape children_of listed
leaf_children a_nothing = refl
leaf_children a_pause = refl
leaf_children an_emit = refl
leaf_children an_exit = refl

pub above_children : {k : ℕ} → Above k → children_of k ≡ 1
unfolding shape children_of listed
above_children a_suspend = refl
above_children a_loop = refl
above_children a_trap = refl
above_children a_local = refl

pub joined_children : {k : ℕ} → Joined k → children_of k ≡ 2
unfolding shape children_of listed
joined_children a_present = refl
joined_children a_sequence = refl
joined_children a_parallel = refl

pub leaf? : {k : ℕ} → Kind k → children_of k ≡ 0 → Leaf k
leaf? (leafs v) e = v
leaf? (aboves v) e = absurd (omega (arith, above_children v))
leaf? (joins v) e = absurd (omega (arith, joined_children v))

pub above? : {k : ℕ} → Kind k → children_of k ≡ 1 → Above k
above? (leafs v) e = absurd (omega (arith, leaf_children v))
above? (aboves v) e = v
above? (joins v) e = absurd (omega (arith, joined_children v))

pub joined? : {k : ℕ} → Kind k → (children_of k ≡ 0 → ⊥) → (children_of k ≡ 1 → ⊥) → Joined k
joined? (leafs v) n m = absurd (n (leaf_children v))
joined? (aboves v) n m = absurd (m (above_children v))
joined? (joins v) n m = v
