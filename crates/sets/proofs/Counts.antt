-- Counting, the lowest member and the list of members: each by induction on the width, one number at the top at a time.
-- Assumes nothing.
use mathlib.Core.Path.{◌≡◌, refl, sym, ap, ap₂, ◌∙◌, subst, subst⁻¹}
use mathlib.Core.Logic.{◌⊎◌, inl, inr}
use mathlib.Core.Bool.{Bool, true, false, not, cond, ◌&&◌, ◌||◌, and-true, and-false, or-false, or_assoc}
use mathlib.Core.List.{List, [], ◌∷◌, ◌++◌, Memᴰ}
use mathlib.Core.Option.{Option, none, some}
use Prim.Native.Nat.{ℕ, zero, suc, ◌+◌, ◌≤◌, ◌<◌, zero-le}
use native.Mathlib.Nat.{le_refl, add-zero, add-suc, add_comm, add_left_comm, not-suc-le-zero}
use native.Mathlib.Decide.{dec_lt}
use native.Mathlib.Omega.{arith}
use lib.Dec.{T, eqb, ltb, ltb→lt, lt→ltb, eqb→eq, eqb_refl, leb-suc-zero}
use lib.ListN.{length, length-append}
use Rattle.sets.specs.Numbers.{Numbers, empty, single, union, without, count, lowest, members, listed, Within}
use Rattle.sets.proofs.Members.{and_in, and_left, and_right, or_left, or_right, or_out, eqb_in, eqb_not, same, is_true, is_false, of_false, ext_T}
use Rattle.sets.proofs.Members.{single_out, union_left, union_right, union_out, without_in, without_member, without_other}

-- One number more.
pub lt_suc : {k n : ℕ} → k < suc n → (k < n) ⊎ (k ≡ n)
lt_suc {k} {n} h = pick (dec_lt k n)
  where
    pick : Dec (k < n) → (k < n) ⊎ (k ≡ n)
    pick (yes l) = inl l
    pick (no l) = inr (omega arith)

pub none_suc : (n : ℕ) (a : Numbers) → ((j : ℕ) → j < n → T (a j) → ⊥) → (T (a n) → ⊥) → (j : ℕ) → j < suc n → T (a j) → ⊥
none_suc n a f g j h t = pick (lt_suc h)
  where
    pick : (j < n) ⊎ (j ≡ n) → ⊥
    pick (inl l) = f j l t
    pick (inr e) = g (subst (λ (x : ℕ). T (a x)) e t)

-- A Boolean as 0 or 1.
bit_le : (b : Bool) → cond {A = ℕ} b 1 0 ≤ 1
bit_le true = le_refl 1
bit_le false = zero-le

bit_mono : (a b : Bool) → (T a → T b) → cond {A = ℕ} a 1 0 ≤ cond {A = ℕ} b 1 0
bit_mono true true f = le_refl 1
bit_mono true false f = absurd (f tt)
bit_mono false b f = zero-le

bit_strict : (a b : Bool) → T b → (T a → ⊥) → cond {A = ℕ} a 1 0 < cond {A = ℕ} b 1 0
bit_strict true b t f = absurd (f tt)
bit_strict false true t f = le_refl 1
bit_strict false false t f = absurd t

bit_zero : (b : Bool) → cond {A = ℕ} b 1 0 ≡ 0 → T b → ⊥
bit_zero true e t = omega arith
bit_zero false e t = t

-- The count.
pub count_le : (n : ℕ) (a : Numbers) → count n a ≤ n
unfolding count
count_le zero a = le_refl 0
count_le (suc n) a = omega (arith, count_le n a, bit_le (a n))

pub count_cong : (n : ℕ) (a b : Numbers) → ((k : ℕ) → k < n → a k ≡ b k) → count n a ≡ count n b
unfolding count
count_cong zero a b f = refl
count_cong (suc n) a b f = ap₂ (λ (x : Bool) (y : ℕ). cond x 1 0 + y) (f n (le_refl (suc n))) (count_cong n a b (λ k h. f k (omega arith)))

pub count_mono : (n : ℕ) {a b : Numbers} → Within a b → count n a ≤ count n b
unfolding count
count_mono zero f = le_refl 0
count_mono (suc n) {a} {b} f = omega (arith, count_mono n f, bit_mono (a n) (b n) (f.at n))

pub count_strict : (n : ℕ) {a b : Numbers} {k : ℕ} → Within a b → k < n → T (b k) → (T (a k) → ⊥) → count n a < count n b
unfolding count
count_strict zero f h t g = absurd (not-suc-le-zero h)
count_strict (suc n) {a} {b} {k} f h t g = pick (λ (l : k < n). count_strict n f l t g) (lt_suc h)
  where
    pick : (k < n → count n a < count n b) → (k < n) ⊎ (k ≡ n) → cond (a n) 1 0 + count n a < cond (b n) 1 0 + count n b
    pick ih (inl l) = omega (arith, ih l, bit_mono (a n) (b n) (f.at n))
    pick ih (inr e) =
        omega (arith, count_mono n f, bit_strict (a n) (b n) (subst (λ (x : ℕ). T (b x)) e t) (λ s. g (subst⁻¹ (λ (x : ℕ). T (a x)) e s)))

pub count_add : (m n : ℕ) (a : Numbers) → count (m + n) a ≡ count m a + count n (λ k. a (m + k))
unfolding count
count_add m zero a = ap (λ (x : ℕ). count x a) (add-zero m) ∙ sym (add-zero (count m a))
count_add m (suc n) a =
    ap (λ (x : ℕ). count x a) (add-suc m n) ∙ ap (λ (x : ℕ). cond (a (m + n)) 1 0 + x) (count_add m n a)
    ∙ add_left_comm (cond (a (m + n)) 1 0) (count m a) (count n (λ k. a (m + k)))

pub count_first : (n : ℕ) (a : Numbers) → count (suc n) a ≡ cond (a 0) 1 0 + count n (λ k. a (suc k))
unfolding count
count_first zero a = refl
count_first (suc n) a =
    ap (λ (x : ℕ). cond (a (suc n)) 1 0 + x) (count_first n a) ∙ add_left_comm (cond (a (suc n)) 1 0) (cond (a 0) 1 0) (count n (λ k. a (suc k)))

pub count_empty : (n : ℕ) → count n empty ≡ 0
unfolding count
count_empty zero = refl
count_empty (suc n) = omega (arith, count_empty n)

pub count_none : (n : ℕ) (a : Numbers) → ((k : ℕ) → k < n → T (a k) → ⊥) → count n a ≡ 0
count_none n a f = count_cong n a empty (λ k h. is_false (a k) (f k h)) ∙ count_empty n

pub count_zero : (n : ℕ) (a : Numbers) → count n a ≡ 0 → (k : ℕ) → k < n → T (a k) → ⊥
unfolding count
count_zero zero a e k h t = not-suc-le-zero h
count_zero (suc n) a e k h t = none_suc n a (count_zero n a (omega arith)) (bit_zero (a n) (omega arith)) k h t

pub count_without : (n : ℕ) (a : Numbers) {k : ℕ} → k < n → T (a k) → suc (count n (without k a)) ≡ count n a
unfolding count
count_without zero a h t = absurd (not-suc-le-zero h)
count_without (suc n) a {k} h t = pick (λ (l : k < n). count_without n a l t) (lt_suc h)
  where
    kept : (j : ℕ) → (j ≡ k → ⊥) → without k a j ≡ a j
    kept j f = ap (λ (b : Bool). a j && not b) (eqb_not j k f) ∙ and-true (a j)

    pick : (k < n → suc (count n (without k a)) ≡ count n a) → (k < n) ⊎ (k ≡ n)
        → suc (cond (without k a n) 1 0 + count n (without k a)) ≡ cond (a n) 1 0 + count n a
    pick ih (inl l) = omega (arith, ih l, ap (λ (b : Bool). cond {A = ℕ} b 1 0) (kept n (λ e. omega arith)))
    pick ih (inr e) =
        let gone : without k a n ≡ false = ap (λ (b : Bool). a n && not b) (is_true (eqb n k) (eqb_in (sym e))) ∙ and-false (a n) in
        let here : a n ≡ true = is_true (a n) (subst (λ (x : ℕ). T (a x)) e t) in
        omega (
          arith,
          ap (λ (b : Bool). cond {A = ℕ} b 1 0) gone,
          ap (λ (b : Bool). cond {A = ℕ} b 1 0) here,
          count_cong n (without k a) a (λ j l. kept j (λ q. omega arith)),
        )

pub count_with : (n : ℕ) (a : Numbers) {k : ℕ} → k < n → (T (a k) → ⊥) → count n (union a (single k)) ≡ suc (count n a)
count_with n a {k} h f = sym (count_without n (union a (single k)) h (union_right a (single k) k (eqb_refl k))) ∙ ap (λ (b : Numbers). suc (count n b)) (ext_T there back)
  where
    there : (j : ℕ) → T (without k (union a (single k)) j) → T (a j)
    there j t = pick (union_out a (single k) j (without_member k (union a (single k)) j t))
      where
        pick : T (a j) ⊎ T (single k j) → T (a j)
        pick (inl s) = s
        pick (inr s) = absurd (without_other k (union a (single k)) j t (single_out k j s))

    back : (j : ℕ) → T (a j) → T (without k (union a (single k)) j)
    back j t = without_in k (union a (single k)) j (union_left a (single k) j t) (λ e. f (subst (λ (x : ℕ). T (a x)) e t))

-- The lowest member: what the answer says, and that only one answer does.
abbrev pub Lowest : ℕ → Numbers → Option ℕ → Type 0
Lowest n a none = (j : ℕ) → j < n → T (a j) → ⊥
Lowest n a (some k) = (k < n) × T (a k) × ((j : ℕ) → j < k → T (a j) → ⊥)

lowest_stays : (n : ℕ) (a : Numbers) {k : ℕ} → lowest n a ≡ some k → lowest (suc n) a ≡ some k
unfolding lowest
lowest_stays n a e = rw e

lowest_next : (n : ℕ) (a : Numbers) → lowest n a ≡ none → lowest (suc n) a ≡ cond (a n) (some n) none
unfolding lowest
lowest_next n a e = rw e

pub lowest_is : (n : ℕ) (a : Numbers) → Lowest n a (lowest n a)
unfolding lowest
lowest_is zero a = λ j h t. not-suc-le-zero h
lowest_is (suc n) a = found (lowest n a) refl (lowest_is n a)
  where
    top : (b : Bool) → a n ≡ b → ((j : ℕ) → j < n → T (a j) → ⊥) → Lowest (suc n) a (cond b (some n) none)
    top true e f = (le_refl (suc n), subst⁻¹ T e tt, f)
    top false e f = none_suc n a f (of_false e)

    found : (o : Option ℕ) → lowest n a ≡ o → Lowest n a o → Lowest (suc n) a (lowest (suc n) a)
    found none e f = subst⁻¹ (Lowest (suc n) a) (lowest_next n a e) (top (a n) refl f)
    found (some k) e f = subst⁻¹ (Lowest (suc n) a) (lowest_stays n a e) (omega arith, f.1, f.2)

pub lowest_some : (n : ℕ) (a : Numbers) {k : ℕ} → lowest n a ≡ some k → (k < n) × T (a k) × ((j : ℕ) → j < k → T (a j) → ⊥)
lowest_some n a e = subst (Lowest n a) e (lowest_is n a)

pub lowest_none : (n : ℕ) (a : Numbers) → lowest n a ≡ none → (j : ℕ) → j < n → T (a j) → ⊥
lowest_none n a e = subst (Lowest n a) e (lowest_is n a)

pub lowest_unique : (n : ℕ) (a : Numbers) (o : Option ℕ) → Lowest n a o → lowest n a ≡ o
lowest_unique n a o f = go (lowest n a) o (lowest_is n a) f
  where
    go : (o p : Option ℕ) → Lowest n a o → Lowest n a p → o ≡ p
    go none none f g = refl
    go none (some k) f g = absurd (f k g.0 g.1)
    go (some j) none f g = absurd (g j f.0 f.1)
    go (some j) (some k) f g = pick (dec_lt j k) (dec_lt k j)
      where
        pick : Dec (j < k) → Dec (k < j) → some j ≡ some k
        pick (yes l) q = absurd (g.2 j l f.1)
        pick (no l) (yes m) = absurd (f.2 k m g.1)
        pick (no l) (no m) = ap some (omega arith)

pub lowest_in : (n : ℕ) (a : Numbers) {k : ℕ} → k < n → T (a k) → ((j : ℕ) → j < k → T (a j) → ⊥) → lowest n a ≡ some k
lowest_in n a {k} h t f = lowest_unique n a (some k) (h, t, f)

pub lowest_empty : (n : ℕ) (a : Numbers) → ((j : ℕ) → j < n → T (a j) → ⊥) → lowest n a ≡ none
lowest_empty n a f = lowest_unique n a none f

pub lowest_single : (n : ℕ) {k : ℕ} → k < n → lowest n (single k) ≡ some k
lowest_single n {k} h = lowest_in n (single k) h (eqb_refl k) (λ j l t. let e = single_out k j t in omega arith)

-- The set below a width, one number more.
pub below_suc : (n : ℕ) (a : Numbers) (k : ℕ) → (ltb k (suc n) && a k) ≡ (ltb k n && a k || eqb k n && a n)
below_suc n a k = same (ltb k (suc n) && a k) (ltb k n && a k || eqb k n && a n) there back
  where
    there : T (ltb k (suc n) && a k) → T (ltb k n && a k || eqb k n && a n)
    there t = pick (lt_suc (ltb→lt k (suc n) (and_left (ltb k (suc n)) (a k) t)))
      where
        pick : (k < n) ⊎ (k ≡ n) → T (ltb k n && a k || eqb k n && a n)
        pick (inl l) = or_left (ltb k n && a k) (eqb k n && a n) (and_in (ltb k n) (a k) (lt→ltb k n l) (and_right (ltb k (suc n)) (a k) t))
        pick (inr e) =
            or_right (ltb k n && a k) (eqb k n && a n)
            (and_in (eqb k n) (a n) (eqb_in e) (subst (λ (x : ℕ). T (a x)) e (and_right (ltb k (suc n)) (a k) t)))

    back : T (ltb k n && a k || eqb k n && a n) → T (ltb k (suc n) && a k)
    back t = pick (or_out (ltb k n && a k) (eqb k n && a n) t)
      where
        pick : T (ltb k n && a k) ⊎ T (eqb k n && a n) → T (ltb k (suc n) && a k)
        pick (inl s) =
            let l = ltb→lt k n (and_left (ltb k n) (a k) s) in
            and_in (ltb k (suc n)) (a k) (lt→ltb k (suc n) (omega arith)) (and_right (ltb k n) (a k) s)
        pick (inr s) =
            let e = eqb→eq k n (and_left (eqb k n) (a n) s) in
            and_in (ltb k (suc n)) (a k) (lt→ltb k (suc n) (omega arith)) (subst⁻¹ (λ (x : ℕ). T (a x)) e (and_right (eqb k n) (a n) s))

-- The set of a list.
pub listed_in : {k : ℕ} {xs : List ℕ} → Memᴰ k xs → T (listed xs k)
unfolding listed
listed_in {k} (Memᴰ.head {x = x} {xs = xs} e) = or_left (eqb k x) (listed xs k) (eqb_in e)
listed_in {k} (Memᴰ.tail {x = x} {xs = xs} m) = or_right (eqb k x) (listed xs k) (listed_in m)

pub listed_out : (xs : List ℕ) (k : ℕ) → T (listed xs k) → Memᴰ k xs
unfolding listed
listed_out [] k t = absurd t
listed_out (x ∷ xs) k t = pick (listed_out xs k) (or_out (eqb k x) (listed xs k) t)
  where
    pick : (T (listed xs k) → Memᴰ k xs) → T (eqb k x) ⊎ T (listed xs k) → Memᴰ k (x ∷ xs)
    pick f (inl s) = Memᴰ.head (eqb→eq k x s)
    pick f (inr s) = Memᴰ.tail (f s)

pub listed_append : (xs ys : List ℕ) (k : ℕ) → listed (xs ++ ys) k ≡ (listed xs k || listed ys k)
unfolding listed
listed_append [] ys k = refl
listed_append (x ∷ xs) ys k = ap (λ (b : Bool). eqb k x || b) (listed_append xs ys k) ∙ sym (or_assoc (eqb k x) (listed xs k) (listed ys k))

-- The list of the members.
pub members_listed : (n : ℕ) (a : Numbers) (k : ℕ) → listed (members n a) k ≡ (ltb k n && a k)
unfolding listed members
members_listed zero a k = sym (ap (λ (b : Bool). b && a k) (leb-suc-zero k))
members_listed (suc n) a k =
    listed_append (members n a) (cond (a n) (n ∷ []) []) k ∙ ap₂ (λ (x y : Bool). x || y) (members_listed n a k) (top (a n)) ∙ sym (below_suc n a k)
  where
    top : (b : Bool) → listed (cond b (n ∷ []) []) k ≡ (eqb k n && b)
    top true = or-false (eqb k n) ∙ sym (and-true (eqb k n))
    top false = sym (and-false (eqb k n))

pub members_in : (n : ℕ) (a : Numbers) {k : ℕ} → k < n → T (a k) → Memᴰ k (members n a)
members_in n a {k} h t = listed_out (members n a) k (subst⁻¹ T (members_listed n a k) (and_in (ltb k n) (a k) (lt→ltb k n h) t))

pub members_out : (n : ℕ) (a : Numbers) {k : ℕ} → Memᴰ k (members n a) → (k < n) × T (a k)
members_out n a {k} m =
    let t = subst T (members_listed n a k) (listed_in m) in
    (ltb→lt k n (and_left (ltb k n) (a k) t), and_right (ltb k n) (a k) t)

pub members_length : (n : ℕ) (a : Numbers) → length (members n a) ≡ count n a
unfolding members count
members_length zero a = refl
members_length (suc n) a =
    length-append (members n a) (cond (a n) (n ∷ []) [])
    ∙ ap₂ (λ (x y : ℕ). x + y) (members_length n a) (top (a n)) ∙ add_comm (count n a) (cond (a n) 1 0)
  where
    top : (b : Bool) → length (cond b (n ∷ []) []) ≡ cond {A = ℕ} b 1 0
    top true = refl
    top false = refl
