-- Membership and inclusion: a Boolean is taken by its two cases, a set at each number, and equal members make equal sets by function extensionality.
-- Assumes nothing.
use mathlib.Core.Path.{◌≡◌, refl, fun_ext, subst, subst⁻¹}
use mathlib.Core.Logic.{◌⊎◌, inl, inr}
use mathlib.Core.Bool.{Bool, true, false, not, ◌&&◌, ◌||◌}
use Prim.Native.Nat.{ℕ, zero, suc}
use lib.Dec.{T, eqb, eqb→eq, eqb_refl, T_not, not_T}
use Rattle.sets.specs.Numbers.{Numbers, empty, single, union, without, only_if, some_to, maxima, downs, Within}

-- A Boolean as a fact and as an equation.
pub is_true : (b : Bool) → T b → b ≡ true
is_true true t = refl
is_true false t = absurd t

pub of_true : {b : Bool} → b ≡ true → T b
of_true e = subst⁻¹ T e tt

pub is_false : (b : Bool) → (T b → ⊥) → b ≡ false
is_false true f = absurd (f tt)
is_false false f = refl

pub of_false : {b : Bool} → b ≡ false → T b → ⊥
of_false e t = subst T e t

pub cases : (b : Bool) → T b ⊎ (b ≡ false)
cases true = inl tt
cases false = inr refl

pub same : (a b : Bool) → (T a → T b) → (T b → T a) → a ≡ b
same true true f g = refl
same true false f g = absurd (f tt)
same false true f g = absurd (g tt)
same false false f g = refl

-- Conjunction and disjunction.
pub and_in : (a b : Bool) → T a → T b → T (a && b)
and_in true b s t = t
and_in false b s t = s

pub and_left : (a b : Bool) → T (a && b) → T a
and_left true b t = tt
and_left false b t = t

pub and_right : (a b : Bool) → T (a && b) → T b
and_right true b t = t
and_right false b t = absurd t

pub or_left : (a b : Bool) → T a → T (a || b)
or_left true b t = tt
or_left false b t = absurd t

pub or_right : (a b : Bool) → T b → T (a || b)
or_right true b t = tt
or_right false b t = t

pub or_out : (a b : Bool) → T (a || b) → T a ⊎ T b
or_out true b t = inl tt
or_out false b t = inr t

-- The tests of numbers, by which way they go.
pub eqb_in : {m n : ℕ} → m ≡ n → T (eqb m n)
eqb_in {m} e = subst (λ (x : ℕ). T (eqb m x)) e (eqb_refl m)

pub eqb_not : (m n : ℕ) → (m ≡ n → ⊥) → eqb m n ≡ false
eqb_not m n f = is_false (eqb m n) (λ t. f (eqb→eq m n t))

-- Members of each set.
pub empty_out : (n : ℕ) → T (empty n) → ⊥
empty_out n t = t

pub single_in : (k : ℕ) → T (single k k)
single_in k = eqb_refl k

pub single_out : (k n : ℕ) → T (single k n) → n ≡ k
single_out k n t = eqb→eq n k t

pub union_left : (a b : Numbers) (n : ℕ) → T (a n) → T (union a b n)
union_left a b n t = or_left (a n) (b n) t

pub union_right : (a b : Numbers) (n : ℕ) → T (b n) → T (union a b n)
union_right a b n t = or_right (a n) (b n) t

pub union_out : (a b : Numbers) (n : ℕ) → T (union a b n) → T (a n) ⊎ T (b n)
union_out a b n t = or_out (a n) (b n) t

pub without_in : (k : ℕ) (a : Numbers) (n : ℕ) → T (a n) → (n ≡ k → ⊥) → T (without k a n)
without_in k a n t f = and_in (a n) (not (eqb n k)) t (not_T (eqb n k) (λ e. f (eqb→eq n k e)))

pub without_member : (k : ℕ) (a : Numbers) (n : ℕ) → T (without k a n) → T (a n)
without_member k a n t = and_left (a n) (not (eqb n k)) t

pub without_other : (k : ℕ) (a : Numbers) (n : ℕ) → T (without k a n) → n ≡ k → ⊥
without_other k a n t e = T_not (eqb n k) (and_right (a n) (not (eqb n k)) t) (eqb_in e)

pub only_if_in : (b : Bool) (a : Numbers) (n : ℕ) → T b → T (a n) → T (only_if b a n)
only_if_in b a n s t = and_in b (a n) s t

pub only_if_test : (b : Bool) (a : Numbers) (n : ℕ) → T (only_if b a n) → T b
only_if_test b a n t = and_left b (a n) t

pub only_if_member : (b : Bool) (a : Numbers) (n : ℕ) → T (only_if b a n) → T (a n)
only_if_member b a n t = and_right b (a n) t

-- Sets with the same members are equal.
pub ext : {a b : Numbers} → ((n : ℕ) → a n ≡ b n) → a ≡ b
ext f = fun_ext f

pub ext_T : {a b : Numbers} → ((n : ℕ) → T (a n) → T (b n)) → ((n : ℕ) → T (b n) → T (a n)) → a ≡ b
ext_T {a} {b} f g = fun_ext (λ n. same (a n) (b n) (f n) (g n))

-- Inclusion.
pub within_refl : {a : Numbers} → Within a a
within_refl = record { at = λ n t. t }

pub within_trans : {a b c : Numbers} → Within a b → Within b c → Within a c
within_trans f g = record { at = λ n t. g.at n (f.at n t) }

pub within_antisym : {a b : Numbers} → Within a b → Within b a → a ≡ b
within_antisym f g = ext_T f.at g.at

pub within_eq : {a b : Numbers} → a ≡ b → Within a b
within_eq {a} e = subst (λ (x : Numbers). Within a x) e within_refl

pub within_empty : {a : Numbers} → Within empty a
within_empty = record { at = λ n t. absurd t }

pub within_left : (a b : Numbers) → Within a (union a b)
within_left a b = record { at = union_left a b }

pub within_right : (a b : Numbers) → Within b (union a b)
within_right a b = record { at = union_right a b }

pub within_without : (k : ℕ) (a : Numbers) → Within (without k a) a
within_without k a = record { at = without_member k a }

pub within_only_if : (b : Bool) (a : Numbers) → Within (only_if b a) a
within_only_if b a = record { at = only_if_member b a }

pub within_single : (k : ℕ) (a : Numbers) → T (a k) → Within (single k) a
within_single k a t = record { at = λ n e. subst⁻¹ (λ (x : ℕ). T (a x)) (single_out k n e) t }

-- Each operation is monotone.
pub union_least : {a b c : Numbers} → Within a c → Within b c → Within (union a b) c
union_least {a} {b} {c} f g = record { at = λ n t. pick n (union_out a b n t) }
  where
    pick : (n : ℕ) → T (a n) ⊎ T (b n) → T (c n)
    pick n (inl t) = f.at n t
    pick n (inr t) = g.at n t

pub union_mono : {a b c d : Numbers} → Within a b → Within c d → Within (union a c) (union b d)
union_mono {b} {d} f g = union_least (within_trans f (within_left b d)) (within_trans g (within_right b d))

pub without_mono : {a b : Numbers} (k : ℕ) → Within a b → Within (without k a) (without k b)
without_mono {a} {b} k f = record { at = λ n t. without_in k b n (f.at n (without_member k a n t)) (without_other k a n t) }

pub only_if_mono : (p q : Bool) {a b : Numbers} → (T p → T q) → Within a b → Within (only_if p a) (only_if q b)
only_if_mono p q {a} {b} h f = record { at = λ n t. only_if_in q b n (h (only_if_test p a n t)) (f.at n (only_if_member p a n t)) }

pub or_mono : (a b c d : Bool) → (T a → T b) → (T c → T d) → T (a || c) → T (b || d)
or_mono a b c d f g t = pick (or_out a c t)
  where
    pick : T a ⊎ T c → T (b || d)
    pick (inl s) = or_left b d (f s)
    pick (inr s) = or_right b d (g s)

pub and_mono : (a b c d : Bool) → (T a → T b) → (T c → T d) → T (a && c) → T (b && d)
and_mono a b c d f g t = and_in b d (f (and_left a c t)) (g (and_right a c t))

pub some_to_mono : {a b : Numbers} → Within a b → (k : ℕ) → T (some_to a k) → T (some_to b k)
unfolding some_to
some_to_mono f zero t = f.at zero t
some_to_mono {a} {b} f (suc k) t = or_mono (some_to a k) (some_to b k) (a (suc k)) (b (suc k)) (some_to_mono f k) (f.at (suc k)) t

pub maxima_mono : {a b c d : Numbers} → Within a b → Within c d → Within (maxima a c) (maxima b d)
unfolding maxima
maxima_mono {a} {b} {c} {d} f g = record {
  at = λ n. or_mono (a n && some_to c n) (b n && some_to d n) (c n && some_to a n) (d n && some_to b n)
      (and_mono (a n) (b n) (some_to c n) (some_to d n) (f.at n) (some_to_mono g n))
      (and_mono (c n) (d n) (some_to a n) (some_to b n) (g.at n) (some_to_mono f n));
}

pub downs_mono : {a b : Numbers} → Within a b → Within (downs a) (downs b)
unfolding downs
downs_mono {a} {b} f = record { at = go }
  where
    go : (n : ℕ) → T (downs a n) → T (downs b n)
    go zero t = or_mono (a 0) (b 0) (a 2) (b 2) (f.at 0) (f.at 2) t
    go (suc zero) t = f.at 1 t
    go (suc (suc n)) t = f.at (suc (suc (suc n))) t
