-- Pauses numbered in preorder: the two parts of a statement have the numbers of two stretches that follow one another, and so no pause
-- in common. Assumes nothing.
use mathlib.Core.Path.{◌≡◌, refl, sym, ◌∙◌, ap, subst}
use mathlib.Core.Logic.{◌⊎◌, inl, inr}
use mathlib.Core.Bool.{◌||◌}
use mathlib.Core.List.{List, [], ◌∷◌, ◌++◌}
use Prim.Native.Nat.{ℕ, zero, suc, ◌+◌, ◌≤◌, ◌<◌}
use native.Mathlib.Nat.{add-zero, add-suc, suc-add}
use native.Mathlib.Decide.{ℕ_discrete}
use native.Mathlib.Omega.{arith}
use lib.Dec.{T, eqb, eqb→eq}
use lib.ListN.{length}
use Rattle.sets.specs.Numbers.{listed}
use Rattle.sets.proofs.Members.{or_left, or_right, or_out, eqb_in}
use Rattle.rules.specs.Statements.{from}

pub from_out : (i k n : ℕ) → T (listed (from i k) n) → (i ≤ n) × (n < i + k)
unfolding listed from
from_out i zero n t = absurd t
from_out i (suc k) n t = go (or_out (eqb n i) (listed (from (suc i) k) n) t) (from_out (suc i) k n)
  where
    go : T (eqb n i) ⊎ T (listed (from (suc i) k) n) → (T (listed (from (suc i) k) n) → (suc i ≤ n) × (n < suc i + k)) → (i ≤ n) × (n < i + suc k)
    go (inl e) f = let q = eqb→eq n i e in (omega arith, omega arith)
    go (inr s) f = let r = f s in (omega (arith, r.0), omega (arith, r.1))

pub from_in : (i k n : ℕ) → i ≤ n → n < i + k → T (listed (from i k) n)
unfolding listed from
from_in i zero n h l = absurd (omega arith)
from_in i (suc k) n h l = go (ℕ_discrete n i) (from_in (suc i) k n)
  where
    go : Dec (n ≡ i) → (suc i ≤ n → n < suc i + k → T (listed (from (suc i) k) n)) → T (eqb n i || listed (from (suc i) k) n)
    go (yes e) f = or_left (eqb n i) (listed (from (suc i) k) n) (eqb_in e)
    go (no e) f = or_right (eqb n i) (listed (from (suc i) k) n) (f (omega arith) (omega arith))

-- Numbers in order, cut in two.
pub split_from : (xs ys : List ℕ) (i : ℕ) → xs ++ ys ≡ from i (length (xs ++ ys)) → (xs ≡ from i (length xs)) × (ys ≡ from (i + length xs) (length ys))
unfolding from
split_from [] ys i e = (refl, e ∙ ap (λ (j : ℕ). from j (length ys)) (sym (add-zero i)))
split_from (x ∷ xs) ys i e =
    let h : x ≡ i = cc in
    let t : xs ++ ys ≡ from (suc i) (length (xs ++ ys)) = cc in
    let r = split_from xs ys (suc i) t in
    (λ j. h j ∷ r.0 j, r.1 ∙ ap (λ (j : ℕ). from j (length ys)) (suc-add i (length xs) ∙ sym (add-suc i (length xs))))

pub apart : (xs ys : List ℕ) (i n : ℕ) → xs ≡ from i (length xs) → ys ≡ from (i + length xs) (length ys) → T (listed xs n) → T (listed ys n) → ⊥
apart xs ys i n e f s t =
    let a = from_out i (length xs) n (subst (λ (zs : List ℕ). T (listed zs n)) e s) in
    let b = from_out (i + length xs) (length ys) n (subst (λ (zs : List ℕ). T (listed zs n)) f t) in
    omega (arith, a.1, b.0)
