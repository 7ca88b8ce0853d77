-- Larger members and lowered codes: each set is characterised by the members that make its own, and the equations follow by extensionality.
-- Assumes nothing.
use mathlib.Core.Path.{◌≡◌, refl, sym, subst, subst⁻¹, ◌∙◌, ap, ap₂}
use mathlib.Core.Logic.{◌⊎◌, inl, inr}
use mathlib.Core.Bool.{Bool, true, false, ◌&&◌, ◌||◌, or_comm}
use mathlib.Core.Option.{Option, none, some}
use Prim.Native.Nat.{ℕ, zero, suc, ◌≤◌, max}
use native.Mathlib.Nat.{le_refl, le_step, le-suc_iff, max-eq_left, max-eq_right, le_of_lt, lt_of_not-le}
use native.Mathlib.Decide.{dec_le}
use native.Mathlib.Omega.{arith}
use lib.Dec.{T, leb, eqb_refl}
use borrow.Author.Tests.{le-leb, lt-leb}
use Rattle.sets.specs.Numbers.{Numbers, empty, single, some_to, maxima, Least, down, downs, lowest, Within}
use Rattle.sets.proofs.Counts.{lowest_some, lowest_none}
use Rattle.sets.proofs.Members.{is_true, is_false, and_in, and_left, and_right, or_left, or_right, or_out, eqb_in, single_out, ext, ext_T}

-- A member at or below a number.
pub some_to_in : (a : Numbers) {m : ℕ} (k : ℕ) → m ≤ k → T (a m) → T (some_to a k)
unfolding some_to
some_to_in a {m} zero h t = subst (λ (x : ℕ). T (a x)) (omega arith) t
some_to_in a {m} (suc k) h t = pick (λ (l : m ≤ k). some_to_in a k l t) (le-suc_iff.0 h)
  where
    pick : (m ≤ k → T (some_to a k)) → (m ≤ k) ⊎ (m ≡ suc k) → T (some_to a k || a (suc k))
    pick f (inl l) = or_left (some_to a k) (a (suc k)) (f l)
    pick f (inr e) = or_right (some_to a k) (a (suc k)) (subst (λ (x : ℕ). T (a x)) e t)

pub some_to_out : (a : Numbers) (k : ℕ) → T (some_to a k) → (m : ℕ) × (m ≤ k) × T (a m)
unfolding some_to
some_to_out a zero t = (zero, le_refl zero, t)
some_to_out a (suc k) t = pick (some_to_out a k) (or_out (some_to a k) (a (suc k)) t)
  where
    pick : (T (some_to a k) → (m : ℕ) × (m ≤ k) × T (a m)) → T (some_to a k) ⊎ T (a (suc k)) → (m : ℕ) × (m ≤ suc k) × T (a m)
    pick f (inl s) = let r = f s in (r.0, le_step r.1, r.2)
    pick f (inr s) = (suc k, le_refl (suc k), s)

-- The larger of two members.
pub maxima_in : (a b : Numbers) (m n : ℕ) → T (a m) → T (b n) → T (maxima a b (max m n))
unfolding maxima
maxima_in a b m n s t = pick (dec_le m n)
  where
    at : ℕ → Bool
    at x = a x && some_to b x || b x && some_to a x

    pick : Dec (m ≤ n) → T (at (max m n))
    pick (yes h) =
        subst⁻¹ (λ (x : ℕ). T (at x)) (max-eq_right h) (or_right (a n && some_to b n) (b n && some_to a n) (and_in (b n) (some_to a n) t (some_to_in a n h s)))
    pick (no h) =
        let l = le_of_lt (lt_of_not-le h) in
        subst⁻¹ (λ (x : ℕ). T (at x)) (max-eq_left l) (or_left (a m && some_to b m) (b m && some_to a m) (and_in (a m) (some_to b m) s (some_to_in b m l t)))

pub maxima_out : (a b : Numbers) (k : ℕ) → T (maxima a b k) → (m : ℕ) × (n : ℕ) × T (a m) × T (b n) × (max m n ≡ k)
unfolding maxima
maxima_out a b k t = pick (or_out (a k && some_to b k) (b k && some_to a k) t)
  where
    pick : T (a k && some_to b k) ⊎ T (b k && some_to a k) → (m : ℕ) × (n : ℕ) × T (a m) × T (b n) × (max m n ≡ k)
    pick (inl s) = let r = some_to_out b k (and_right (a k) (some_to b k) s) in (k, r.0, and_left (a k) (some_to b k) s, r.2, max-eq_left r.1)
    pick (inr s) = let r = some_to_out a k (and_right (b k) (some_to a k) s) in (r.0, k, r.2, and_left (b k) (some_to a k) s, max-eq_right r.1)

pub maxima_empty_left : (a : Numbers) → maxima empty a ≡ empty
maxima_empty_left a = ext_T (λ n t. (maxima_out empty a n t).2) (λ n t. absurd t)

pub maxima_empty_right : (a : Numbers) → maxima a empty ≡ empty
maxima_empty_right a = ext_T (λ n t. (maxima_out a empty n t).3) (λ n t. absurd t)

pub maxima_single : (m n : ℕ) → maxima (single m) (single n) ≡ single (max m n)
maxima_single m n = ext_T there back
  where
    there : (k : ℕ) → T (maxima (single m) (single n) k) → T (single (max m n) k)
    there k t =
        let r = maxima_out (single m) (single n) k t in
        eqb_in (sym r.4 ∙ ap₂ max (single_out m r.0 r.2) (single_out n r.1 r.3))

    back : (k : ℕ) → T (single (max m n) k) → T (maxima (single m) (single n) k)
    back k t = subst⁻¹ (λ (x : ℕ). T (maxima (single m) (single n) x)) (single_out (max m n) k t) (maxima_in (single m) (single n) m n (eqb_refl m) (eqb_refl n))

pub maxima_comm : (a b : Numbers) → maxima a b ≡ maxima b a
unfolding maxima
maxima_comm a b = ext (λ n. or_comm (a n && some_to b n) (b n && some_to a n))

pub maxima_least : (a b c : Numbers) → ((m n : ℕ) → T (a m) → T (b n) → T (c (max m n))) → Within (maxima a b) c
maxima_least a b c f = record { at = go }
  where
    go : (k : ℕ) → T (maxima a b k) → T (c k)
    go k t = let r = maxima_out a b k t in subst (λ (x : ℕ). T (c x)) r.4 (f r.0 r.1 r.2 r.3)

-- In a straight line: the members of either set that have a member of each at or below them,
pub maxima_from : (a b : Numbers) (n : ℕ) → maxima a b n ≡ ((a n || b n) && (some_to a n && some_to b n))
unfolding maxima
maxima_from a b n = go (a n) (b n) (some_to a n) (some_to b n) (some_to_in a n (le_refl n)) (some_to_in b n (le_refl n))
  where
    go : (x y p q : Bool) → (T x → T p) → (T y → T q) → (x && q || y && p) ≡ ((x || y) && (p && q))
    go true true true true f g = refl
    go true true true false f g = absurd (g tt)
    go true false true true f g = refl
    go true false true false f g = refl
    go true y false q f g = absurd (f tt)
    go false true true true f g = refl
    go false true false true f g = refl
    go false true p false f g = absurd (g tt)
    go false false p q f g = refl

pub some_to_least : {a : Numbers} {k : ℕ} → Least a k → (n : ℕ) → some_to a n ≡ leb k n
some_to_least {a} {k} l n = go (dec_le k n)
  where
    go : Dec (k ≤ n) → some_to a n ≡ leb k n
    go (yes h) = is_true (some_to a n) (some_to_in a n h l.member) ∙ sym (le-leb k n h)
    go (no h) =
        is_false (some_to a n) (λ t. let r = some_to_out a n t in l.none_below r.0 (omega (arith, r.1)) r.2) ∙ sym (lt-leb k n (omega arith))

-- that is, where both sets have members, every member of either that is at least the larger of the two least ones.
pub maxima_of_least : {a b : Numbers} {k l : ℕ} → Least a k → Least b l → (n : ℕ) → maxima a b n ≡ ((a n || b n) && leb (max k l) n)
maxima_of_least {a} {b} {k} {l} p q n =
    maxima_from a b n ∙ ap (λ (x : Bool). (a n || b n) && x) (ap₂ ◌&&◌ (some_to_least p n) (some_to_least q n) ∙ both (dec_le k n) (dec_le l n))
  where
    both : Dec (k ≤ n) → Dec (l ≤ n) → (leb k n && leb l n) ≡ leb (max k l) n
    both (yes h) (yes j) = rw (le-leb k n h, le-leb l n j, le-leb (max k l) n (omega arith))
    both (yes h) (no j) = rw (le-leb k n h, lt-leb l n (omega arith), lt-leb (max k l) n (omega arith))
    both (no h) j = rw (lt-leb k n (omega arith), lt-leb (max k l) n (omega arith))

-- A set with a member has a least one, so that the sentence holds of any two sets.
pub least_of : (a : Numbers) (m : ℕ) → T (a m) → (k : ℕ) × Least a k
least_of a m t = go (lowest (suc m) a) refl
  where
    go : (o : Option ℕ) → lowest (suc m) a ≡ o → (k : ℕ) × Least a k
    go none e = absurd (lowest_none (suc m) a e m (omega arith) t)
    go (some k) e = let r = lowest_some (suc m) a e in (k, record { member = r.1; none_below = r.2 })

-- Lowered codes.
pub downs_in : (a : Numbers) (k : ℕ) → T (a k) → T (downs a (down k))
unfolding down downs
downs_in a zero t = or_left (a 0) (a 2) t
downs_in a (suc zero) t = t
downs_in a (suc (suc zero)) t = or_right (a 0) (a 2) t
downs_in a (suc (suc (suc k))) t = t

pub downs_out : (a : Numbers) (n : ℕ) → T (downs a n) → (k : ℕ) × T (a k) × (down k ≡ n)
unfolding down downs
downs_out a zero t = pick (or_out (a 0) (a 2) t)
  where
    pick : T (a 0) ⊎ T (a 2) → (k : ℕ) × T (a k) × (down k ≡ zero)
    pick (inl s) = (0, s, refl)
    pick (inr s) = (2, s, refl)
downs_out a (suc zero) t = (1, t, refl)
downs_out a (suc (suc n)) t = (suc (suc (suc n)), t, refl)

pub downs_empty : downs empty ≡ empty
downs_empty = ext_T (λ n t. (downs_out empty n t).1) (λ n t. absurd t)

pub downs_single : (k : ℕ) → downs (single k) ≡ single (down k)
downs_single k = ext_T there back
  where
    there : (n : ℕ) → T (downs (single k) n) → T (single (down k) n)
    there n t = let r = downs_out (single k) n t in eqb_in (sym r.2 ∙ ap down (single_out k r.0 r.1))

    back : (n : ℕ) → T (single (down k) n) → T (downs (single k) n)
    back n t = subst⁻¹ (λ (x : ℕ). T (downs (single k) x)) (single_out (down k) n t) (downs_in (single k) k (eqb_refl k))

pub downs_least : (a c : Numbers) → ((k : ℕ) → T (a k) → T (c (down k))) → Within (downs a) c
downs_least a c f = record { at = go }
  where
    go : (n : ℕ) → T (downs a n) → T (c n)
    go n t = let r = downs_out a n t in subst (λ (x : ℕ). T (c x)) r.2 (f r.0 r.1)
