-- Words and their sets: a law of bits is one of the lowest digit, reached by shifting, and two words with the same bits are equal by induction on their digits.
-- Assumes nothing.
use mathlib.Core.Path.{◌≡◌, refl, sym, ap, ap₂, ◌∙◌, subst, subst⁻¹}
use mathlib.Core.Bool.{Bool, true, false, not, cond, ◌&&◌, ◌||◌, xor, and_comm, and-false, or_comm, and-or_distrib_left, and_assoc}
use mathlib.Core.Option.{Option, none, some}
use Prim.Native.Nat.{ℕ, zero, suc, ◌+◌, ◌-◌, ◌*◌, ◌/◌, ◌%◌, ◌^◌, ◌≤◌, ◌<◌, suc-le-suc}
use native.Mathlib.Nat.{le_refl, lt_of_lt_of_le, le-add_right, le-add_left, zero-div, div-one, one-mul, mul-one, div-eq_of_lt, mod-eq_of_lt, mod-lt, pow-suc}
use native.Mathlib.Nat.{zero-lt-suc, not-suc-le-zero, zero-add, zero-sub, le_of_suc-le-suc}
use native.Mathlib.Numerals.{one-add}
use native.Mathlib.Decide.{dec_le, dec_lt}
use native.Mathlib.Omega.{arith}
use lib.Dec.{T, eqb, ltb, leb, lt→ltb, leb-zero, leb-suc-zero, leb-suc-suc, eqb-zero-suc, eqb-suc-zero, eqb-suc-suc, eqb→eq}
use lib.Arith.{lt-one}
use lib.Pow.{pow_mono, pow-lt, pow_pos, shr-shr, shl_exact, split}
use lib.Bits.{bit_and, bit_or, bit_xor, or_lt, and_shr, or_shr, xor_shr, and_mod, or_mod, xor_mod, and_mask, or_shifted, shifted_half, shifted_even}
use borrow.Author.Tests.{lt-leb}
use lib.Count.{ones, ones_step, count_trailing_zeros, under}
use Rattle.sets.specs.Numbers.{Numbers, empty, single, union, without, only_if, some_to, maxima, count, lowest}
use Rattle.sets.specs.Words.{bits, word}
use Rattle.sets.proofs.Members.{and_in, and_right, eqb_not, same, is_true, is_false, of_true, ext}
use Rattle.sets.proofs.Maxima.{some_to_out, some_to_least, maxima_from}
use Rattle.sets.proofs.Counts.{below_suc, count_first, count_cong, lowest_some, lowest_none}

-- The lowest bit, and the others shifted.
two_pos : 0 < 2
two_pos = zero-lt-suc 1

pub bits_first : (w : ℕ) → bits w 0 ≡ eqb (w % 2) 1
unfolding bits
bits_first w = ap (λ (x : ℕ). eqb (x % 2) 1) (div-one w)

pub bits_suc : (w n : ℕ) → bits w (suc n) ≡ bits (w / 2) n
unfolding bits
bits_suc w n = ap (λ (x : ℕ). eqb (x % 2) 1) (ap (λ (x : ℕ). w / 2 ^ x) (sym (one-add n)) ∙ sym (shr-shr w 1 n))

pub bits_shift : (w k n : ℕ) → bits w (k + n) ≡ bits (w / 2 ^ k) n
unfolding bits
bits_shift w k n = ap (λ (x : ℕ). eqb (x % 2) 1) (sym (shr-shr w k n))

digit_is : (d : ℕ) → d < 2 → d ≡ cond (eqb d 1) 1 0
digit_is zero h = refl
digit_is (suc zero) h = refl
digit_is (suc (suc d)) h = absurd (omega arith)

pub bits_digit : (w n : ℕ) → w / 2 ^ n % 2 ≡ cond (bits w n) 1 0
unfolding bits
bits_digit w n = digit_is (w / 2 ^ n % 2) (mod-lt (w / 2 ^ n) two_pos)

-- The bits of 0, of a power, and above a width.
pub bits_zero : (n : ℕ) → bits 0 n ≡ false
unfolding bits
bits_zero n = ap (λ (x : ℕ). eqb (x % 2) 1) (zero-div (2 ^ n))

pub bits_high : (w : ℕ) {a n : ℕ} → a < 2 ^ w → w ≤ n → bits a n ≡ false
unfolding bits
bits_high w h l = ap (λ (x : ℕ). eqb (x % 2) 1) (div-eq_of_lt (lt_of_lt_of_le h (pow_mono l)))

pub bits_power : (k n : ℕ) → bits (2 ^ k) n ≡ eqb n k
bits_power zero zero = bits_first 1
bits_power zero (suc n) = bits_high 1 (le_refl 2) (suc-le-suc (omega arith)) ∙ sym (eqb-suc-zero n)
bits_power (suc k) zero =
    bits_first (2 ^ suc k) ∙ ap (λ (x : ℕ). eqb x 1) (ap (λ (x : ℕ). x % 2) (sym (one-mul (2 ^ suc k))) ∙ shifted_even 1 k) ∙ sym (eqb-zero-suc k)
bits_power (suc k) (suc n) =
    bits_suc (2 ^ suc k) n
    ∙ ap (λ (x : ℕ). bits x n) (ap (λ (x : ℕ). x / 2) (sym (one-mul (2 ^ suc k))) ∙ shifted_half 1 k ∙ one-mul (2 ^ k))
    ∙ bits_power k n ∙ sym (eqb-suc-suc n k)

-- The operations, bit by bit.
and_digit : (d e : ℕ) → d < 2 → e < 2 → eqb (bit_and d e) 1 ≡ (eqb d 1 && eqb e 1)
and_digit zero e h l = refl
and_digit (suc zero) zero h l = refl
and_digit (suc zero) (suc zero) h l = refl
and_digit (suc zero) (suc (suc e)) h l = absurd (omega arith)
and_digit (suc (suc d)) e h l = absurd (omega arith)

or_digit : (d e : ℕ) → d < 2 → e < 2 → eqb (bit_or d e) 1 ≡ (eqb d 1 || eqb e 1)
or_digit zero e h l = refl
or_digit (suc zero) zero h l = refl
or_digit (suc zero) (suc zero) h l = refl
or_digit (suc zero) (suc (suc e)) h l = absurd (omega arith)
or_digit (suc (suc d)) e h l = absurd (omega arith)

xor_digit : (d e : ℕ) → d < 2 → e < 2 → eqb (bit_xor d e) 1 ≡ xor (eqb d 1) (eqb e 1)
unfolding xor
xor_digit zero zero h l = refl
xor_digit zero (suc zero) h l = refl
xor_digit zero (suc (suc e)) h l = absurd (omega arith)
xor_digit (suc zero) zero h l = refl
xor_digit (suc zero) (suc zero) h l = refl
xor_digit (suc zero) (suc (suc e)) h l = absurd (omega arith)
xor_digit (suc (suc d)) e h l = absurd (omega arith)

module _ (op : ℕ → ℕ → ℕ) (f : Bool → Bool → Bool)
    (shr : (a b k : ℕ) → op a b / 2 ^ k ≡ op (a / 2 ^ k) (b / 2 ^ k))
    (low : (a b k : ℕ) → op a b % 2 ^ k ≡ op (a % 2 ^ k) (b % 2 ^ k))
    (one : (d e : ℕ) → d < 2 → e < 2 → eqb (op d e) 1 ≡ f (eqb d 1) (eqb e 1)) where
  bits_op : (x y n : ℕ) → bits (op x y) n ≡ f (bits x n) (bits y n)
  unfolding bits
  bits_op x y n =
      ap (λ (z : ℕ). eqb (z % 2) 1) (shr x y n) ∙ ap (λ (z : ℕ). eqb z 1) (low (x / 2 ^ n) (y / 2 ^ n) 1)
      ∙ one (x / 2 ^ n % 2) (y / 2 ^ n % 2) (mod-lt (x / 2 ^ n) two_pos) (mod-lt (y / 2 ^ n) two_pos)

pub bits_and : (x y n : ℕ) → bits (bit_and x y) n ≡ (bits x n && bits y n)
bits_and = bits_op bit_and ◌&&◌ and_shr and_mod and_digit

pub bits_or : (x y n : ℕ) → bits (bit_or x y) n ≡ (bits x n || bits y n)
bits_or = bits_op bit_or ◌||◌ or_shr or_mod or_digit

pub bits_xor : (x y n : ℕ) → bits (bit_xor x y) n ≡ xor (bits x n) (bits y n)
bits_xor = bits_op bit_xor xor xor_shr xor_mod xor_digit

and_xor : (a b : Bool) → (a && xor a b) ≡ (a && not b)
unfolding xor
and_xor true true = refl
and_xor true false = refl
and_xor false b = refl

pub bits_less : (x y n : ℕ) → bits (bit_and x (bit_xor x y)) n ≡ (bits x n && not (bits y n))
bits_less x y n = bits_and x (bit_xor x y) n ∙ ap (λ (b : Bool). bits x n && b) (bits_xor x y n) ∙ and_xor (bits x n) (bits y n)

-- Words with the same bits are equal.
half_lt : (w : ℕ) {a : ℕ} → a < 2 ^ suc w → a / 2 < 2 ^ w
half_lt w h = omega (arith, pow-suc 2 w)

pub bits_ext_to : (w : ℕ) {a b : ℕ} → a < 2 ^ w → b < 2 ^ w → ((n : ℕ) → n < w → bits a n ≡ bits b n) → a ≡ b
bits_ext_to zero h l f = lt-one h ∙ sym (lt-one l)
bits_ext_to (suc w) {a} {b} h l f =
    let q : a / 2 ≡ b / 2 = bits_ext_to w (half_lt w h) (half_lt w l) (λ n k. sym (bits_suc a n) ∙ f (suc n) (suc-le-suc k) ∙ bits_suc b n) in
    let d : eqb (a % 2) 1 ≡ eqb (b % 2) 1 = sym (bits_first a) ∙ f 0 (suc-le-suc (omega arith)) ∙ bits_first b in
    let r : a % 2 ≡ b % 2 = digit_is (a % 2) (mod-lt a two_pos) ∙ ap (λ (x : Bool). cond x 1 0) d ∙ sym (digit_is (b % 2) (mod-lt b two_pos)) in
    omega arith

pub lt_pow : (n : ℕ) → n < 2 ^ n
lt_pow zero = le_refl 1
lt_pow (suc n) = omega (arith, lt_pow n, pow-suc 2 n)

pub bits_ext : {a b : ℕ} → ((n : ℕ) → bits a n ≡ bits b n) → a ≡ b
bits_ext {a} {b} f =
    bits_ext_to (a + b) (lt_of_lt_of_le (lt_pow a) (pow_mono (le-add_right a b))) (lt_of_lt_of_le (lt_pow b) (pow_mono (le-add_left b a))) (λ n h. f n)

-- The word of a set.
pub word_lt : (n : ℕ) (a : Numbers) → word n a < 2 ^ n
unfolding word
word_lt zero a = le_refl 1
word_lt (suc n) a = omega (arith, word_lt n a, top (a n), pow-suc 2 n)
  where
    top : (b : Bool) → cond b (2 ^ n) 0 ≤ 2 ^ n
    top true = le_refl (2 ^ n)
    top false = omega arith

word_suc : (n : ℕ) (a : Numbers) → word (suc n) a ≡ bit_or (cond (a n) (2 ^ n) 0) (word n a)
unfolding word
word_suc n a = top (a n)
  where
    top : (b : Bool) → cond b (2 ^ n) 0 + word n a ≡ bit_or (cond b (2 ^ n) 0) (word n a)
    top true = sym (ap (λ (x : ℕ). bit_or x (word n a)) (sym (one-mul (2 ^ n))) ∙ or_shifted 1 n (word n a) (word_lt n a) ∙ ap (λ (x : ℕ). x + word n a) (one-mul (2 ^ n)))
    top false = zero-add (word n a)

pub bits_cond : (b : Bool) (x n : ℕ) → bits (cond b x 0) n ≡ (b && bits x n)
bits_cond true x n = refl
bits_cond false x n = bits_zero n

pub bits_word : (n : ℕ) (a : Numbers) (k : ℕ) → bits (word n a) k ≡ (ltb k n && a k)
unfolding word
bits_word zero a k = bits_zero k ∙ sym (ap (λ (b : Bool). b && a k) (leb-suc-zero k))
bits_word (suc n) a k =
    ap (λ (x : ℕ). bits x k) (word_suc n a) ∙ bits_or (cond (a n) (2 ^ n) 0) (word n a) k
    ∙ ap₂ (λ (x y : Bool). x || y) (bits_cond (a n) (2 ^ n) k ∙ ap (λ (b : Bool). a n && b) (bits_power n k) ∙ and_comm (a n) (eqb k n)) (bits_word n a k)
    ∙ or_comm (eqb k n && a n) (ltb k n && a k) ∙ sym (below_suc n a k)

pub bits_word_in : (n : ℕ) (a : Numbers) {k : ℕ} → k < n → bits (word n a) k ≡ a k
bits_word_in n a {k} h = bits_word n a k ∙ ap (λ (b : Bool). b && a k) (is_true (ltb k n) (lt→ltb k n h))

pub bits_word_out : (n : ℕ) (a : Numbers) {k : ℕ} → n ≤ k → bits (word n a) k ≡ false
bits_word_out n a h = bits_high n (word_lt n a) h

pub word_bits : (n : ℕ) {w : ℕ} → w < 2 ^ n → word n (bits w) ≡ w
word_bits n {w} h = bits_ext_to n (word_lt n (bits w)) h (λ k l. bits_word_in n (bits w) l)

pub word_cong : (n : ℕ) (a b : Numbers) → ((k : ℕ) → k < n → a k ≡ b k) → word n a ≡ word n b
word_cong n a b f = bits_ext_to n (word_lt n a) (word_lt n b) (λ k h. bits_word_in n a h ∙ f k h ∙ sym (bits_word_in n b h))

-- The word of each operation.
pub word_empty : (n : ℕ) → word n empty ≡ 0
word_empty n = bits_ext (λ k. bits_word n empty k ∙ and-false (ltb k n) ∙ sym (bits_zero k))

pub word_single : (n : ℕ) {k : ℕ} → k < n → word n (single k) ≡ 2 ^ k
word_single n {k} h = bits_ext_to n (word_lt n (single k)) (pow-lt h) (λ j l. bits_word_in n (single k) l ∙ sym (bits_power k j))

pub word_union : (n : ℕ) (a b : Numbers) → word n (union a b) ≡ bit_or (word n a) (word n b)
word_union n a b =
    bits_ext (λ k. bits_word n (union a b) k ∙ and-or_distrib_left (ltb k n) (a k) (b k)
    ∙ ap₂ (λ (x y : Bool). x || y) (sym (bits_word n a k)) (sym (bits_word n b k)) ∙ sym (bits_or (word n a) (word n b) k))

pub word_without : (n k : ℕ) (a : Numbers) → word n (without k a) ≡ bit_and (word n a) (bit_xor (word n a) (2 ^ k))
word_without n k a =
    bits_ext (λ j. bits_word n (without k a) j ∙ sym (and_assoc (ltb j n) (a j) (not (eqb j k)))
    ∙ ap₂ (λ (x y : Bool). x && not y) (sym (bits_word n a j)) (sym (bits_power k j)) ∙ sym (bits_less (word n a) (2 ^ k) j))

pub word_only_if : (n : ℕ) (b : Bool) (a : Numbers) → word n (only_if b a) ≡ cond b (word n a) 0
word_only_if n true a = refl
word_only_if n false a = word_empty n

-- How many bits are set, and the lowest of them.
pub ones_count : (n : ℕ) {w : ℕ} → w < 2 ^ n → ones w ≡ count n (bits w)
unfolding count ones
ones_count zero h = ap ones (lt-one h)
ones_count (suc n) {w} h =
    ones_step w
    ∙ ap₂ (λ (x y : ℕ). x + y) (digit_is (w % 2) (mod-lt w two_pos) ∙ ap (λ (b : Bool). cond b 1 0) (sym (bits_first w)))
    (ones_count n (half_lt n h) ∙ count_cong n (bits (w / 2)) (λ k. bits w (suc k)) (λ k l. sym (bits_suc w k)))
    ∙ sym (count_first n (bits w))

pub ones_word : (n : ℕ) (a : Numbers) → ones (word n a) ≡ count n a
ones_word n a = ones_count n (word_lt n a) ∙ count_cong n (bits (word n a)) a (λ k h. bits_word_in n a h)

clear : (w : ℕ) → (T (bits w 0) → ⊥) → w % 2 ≡ 0
clear w f = digit_is (w % 2) (mod-lt w two_pos) ∙ ap (λ (b : Bool). cond b 1 0) (sym (bits_first w) ∙ is_false (bits w 0) f)

trailing_at : (n w k : ℕ) → k < n → T (bits w k) → ((j : ℕ) → j < k → T (bits w j) → ⊥) → count_trailing_zeros n w ≡ k
unfolding count_trailing_zeros
trailing_at zero w k h t f = absurd (not-suc-le-zero h)
trailing_at (suc n) w zero h t f =
    ap (λ (x : ℕ). under x (count_trailing_zeros n (w / 2)))
    (digit_is (w % 2) (mod-lt w two_pos) ∙ ap (λ (b : Bool). cond b 1 0) (sym (bits_first w) ∙ is_true (bits w 0) t))
trailing_at (suc n) w (suc k) h t f =
    ap (λ (x : ℕ). under x (count_trailing_zeros n (w / 2))) (clear w (f 0 (suc-le-suc (omega arith))))
    ∙ ap suc (trailing_at n (w / 2) k (le_of_suc-le-suc h) (subst T (bits_suc w k) t) (λ j l s. f (suc j) (suc-le-suc l) (subst⁻¹ T (bits_suc w j) s)))

pub trailing_some : (n w : ℕ) {k : ℕ} → lowest n (bits w) ≡ some k → count_trailing_zeros n w ≡ k
trailing_some n w {k} e = let r = lowest_some n (bits w) e in trailing_at n w k r.0 r.1 r.2

trailing_all : (n w : ℕ) → ((j : ℕ) → j < n → T (bits w j) → ⊥) → count_trailing_zeros n w ≡ n
unfolding count_trailing_zeros
trailing_all zero w f = refl
trailing_all (suc n) w f =
    ap (λ (x : ℕ). under x (count_trailing_zeros n (w / 2))) (clear w (f 0 (suc-le-suc (omega arith))))
    ∙ ap suc (trailing_all n (w / 2) (λ j l s. f (suc j) (suc-le-suc l) (subst⁻¹ T (bits_suc w j) s)))

pub trailing_none : (n w : ℕ) → lowest n (bits w) ≡ none → count_trailing_zeros n w ≡ n
trailing_none n w e = trailing_all n w (lowest_none n (bits w) e)

-- A shifted 1, the complement below a width, and tests of one bit.
pub shift_one : (s w : ℕ) → s < w → (1 * 2 ^ s) % 2 ^ w ≡ 2 ^ s
shift_one s w h = shl_exact 1 s w (le_refl 2) (omega arith) ∙ one-mul (2 ^ s)

pub bits_not : (w a n : ℕ) → a < 2 ^ w → bits (2 ^ w - 1 - a) n ≡ (ltb n w && not (bits a n))
bits_not zero a n h =
    ap (λ (x : ℕ). bits x n) (zero-sub a) ∙ bits_zero n ∙ sym (ap (λ (b : Bool). b && not (bits a n)) (leb-suc-zero n))
bits_not (suc w) a zero h =
    bits_first (2 ^ suc w - 1 - a) ∙ flip (a % 2) (mod-lt a two_pos) ((2 ^ suc w - 1 - a) % 2) (omega (arith, pow-suc 2 w))
    ∙ ap₂ (λ (x y : Bool). x && not y) (sym (leb-suc-suc 0 w ∙ leb-zero w)) (sym (bits_first a))
  where
    flip : (d : ℕ) → d < 2 → (e : ℕ) → d + e ≡ 1 → eqb e 1 ≡ not (eqb d 1)
    flip zero l e q = let r : e ≡ 1 = omega arith in ap (λ (x : ℕ). eqb x 1) r
    flip (suc zero) l e q = let r : e ≡ 0 = omega arith in ap (λ (x : ℕ). eqb x 1) r
    flip (suc (suc d)) l e q = absurd (omega arith)
bits_not (suc w) a (suc n) h =
    let half : (2 ^ suc w - 1 - a) / 2 ≡ 2 ^ w - 1 - a / 2 = omega (arith, pow-suc 2 w) in
    bits_suc (2 ^ suc w - 1 - a) n ∙ ap (λ (x : ℕ). bits x n) half
    ∙ bits_not w (a / 2) n (half_lt w h) ∙ ap₂ (λ (x y : Bool). x && not y) (sym (leb-suc-suc (suc n) w)) (sym (bits_suc a n))

at_eq : (a : Numbers) (n k : ℕ) → (a n && eqb n k) ≡ (a k && eqb n k)
at_eq a n k = go (eqb n k) refl
  where
    go : (b : Bool) → eqb n k ≡ b → (a n && b) ≡ (a k && b)
    go true e = ap (λ (x : ℕ). a x && true) (eqb→eq n k (of_true e))
    go false e = and-false (a n) ∙ sym (and-false (a k))

pub bits_test : (x k : ℕ) → eqb (bit_and (x / 2 ^ k) 1) 1 ≡ bits x k
unfolding bits
bits_test x k = ap (λ (z : ℕ). eqb z 1) (and_mask (x / 2 ^ k) 1)

pub bits_mask : (x k : ℕ) → bit_and x (2 ^ k) ≡ cond (bits x k) (2 ^ k) 0
bits_mask x k = bits_ext go
  where
    go : (n : ℕ) → bits (bit_and x (2 ^ k)) n ≡ bits (cond (bits x k) (2 ^ k) 0) n
    go n =
        bits_and x (2 ^ k) n ∙ ap (λ (b : Bool). bits x n && b) (bits_power k n) ∙ at_eq (bits x) n k
        ∙ sym (bits_cond (bits x k) (2 ^ k) n ∙ ap (λ (b : Bool). bits x k && b) (bits_power k n))

pub bits_mask_test : (x k : ℕ) → eqb (bit_and x (2 ^ k)) 0 ≡ not (bits x k)
bits_mask_test x k = ap (λ (z : ℕ). eqb z 0) (bits_mask x k) ∙ go (bits x k)
  where
    go : (b : Bool) → eqb (cond b (2 ^ k) 0) 0 ≡ not b
    go true = eqb_not (2 ^ k) 0 (λ e. omega (arith, pow_pos k))
    go false = refl

-- A word is a set's: its bits are the members.
pub record Is (w : ℕ) (a : Numbers) : Type 0 where
  pub bit : (n : ℕ) → bits w n ≡ a n

pub is_set : {w : ℕ} {a : Numbers} → Is w a → bits w ≡ a
is_set i = ext i.bit

pub is_bits : (w : ℕ) → Is w (bits w)
is_bits w = record { bit = λ n. refl }

pub is_empty : Is 0 empty
is_empty = record { bit = bits_zero }

pub is_single : (k : ℕ) → Is (2 ^ k) (single k)
is_single k = record { bit = bits_power k }

pub is_union : {x y : ℕ} {a b : Numbers} → Is x a → Is y b → Is (bit_or x y) (union a b)
is_union {x} {y} i j = record { bit = λ n. bits_or x y n ∙ ap₂ (λ (p q : Bool). p || q) (i.bit n) (j.bit n) }

pub is_both : {x y : ℕ} {a b : Numbers} → Is x a → Is y b → Is (bit_and x y) (λ n. a n && b n)
is_both {x} {y} i j = record { bit = λ n. bits_and x y n ∙ ap₂ (λ (p q : Bool). p && q) (i.bit n) (j.bit n) }

pub is_less : {x y : ℕ} {a b : Numbers} → Is x a → Is y b → Is (bit_and x (bit_xor x y)) (λ n. a n && not (b n))
is_less {x} {y} i j = record { bit = λ n. bits_less x y n ∙ ap₂ (λ (p q : Bool). p && not q) (i.bit n) (j.bit n) }

pub is_without : {x : ℕ} {a : Numbers} (k : ℕ) → Is x a → Is (bit_and x (bit_xor x (2 ^ k))) (without k a)
is_without k i = is_less i (is_single k)

pub is_only_if : {x : ℕ} {a : Numbers} (b : Bool) → Is x a → Is (cond b x 0) (only_if b a)
is_only_if {x} b i = record { bit = λ n. bits_cond b x n ∙ ap (λ (p : Bool). b && p) (i.bit n) }

pub is_shift : (w : ℕ) {s : ℕ} → s < w → Is ((1 * 2 ^ s) % 2 ^ w) (single s)
is_shift w {s} h = subst⁻¹ (λ (x : ℕ). Is x (single s)) (shift_one s w h) (is_single s)

pub is_not : (w : ℕ) {x : ℕ} {a : Numbers} → Is x a → x < 2 ^ w → Is (2 ^ w - 1 - x) (λ n. ltb n w && not (a n))
is_not w {x} i h = record { bit = λ n. bits_not w x n h ∙ ap (λ (p : Bool). ltb n w && not p) (i.bit n) }

pub is_mask : {x : ℕ} {a : Numbers} (k : ℕ) → Is x a → bit_and x (2 ^ k) ≡ cond (a k) (2 ^ k) 0
is_mask {x} k i = bits_mask x k ∙ ap (λ (p : Bool). cond p (2 ^ k) 0) (i.bit k)

pub is_same : {x y : ℕ} {a : Numbers} → Is x a → Is y a → x ≡ y
is_same i j = bits_ext (λ n. i.bit n ∙ sym (j.bit n))

pub is_word : (n : ℕ) {x : ℕ} {a : Numbers} → Is x a → x < 2 ^ n → x ≡ word n a
is_word n {x} {a} i h = sym (word_bits n h) ∙ ap (word n) (is_set i)

pub word_is : (n : ℕ) (a : Numbers) → ((k : ℕ) → T (a k) → k < n) → Is (word n a) a
word_is n a f = record { bit = go }
  where
    go : (k : ℕ) → bits (word n a) k ≡ a k
    go k = bits_word n a k ∙ same (ltb k n && a k) (a k) (and_right (ltb k n) (a k)) (λ t. and_in (ltb k n) (a k) (lt→ltb k n (f k t)) t)

pub is_lt : (n : ℕ) {x : ℕ} {a : Numbers} → Is x a → ((k : ℕ) → T (a k) → k < n) → x < 2 ^ n
is_lt n {x} {a} i f = subst⁻¹ (λ (w : ℕ). w < 2 ^ n) (is_same i (word_is n a f)) (word_lt n a)

pub is_ones : (n : ℕ) {x : ℕ} {a : Numbers} → Is x a → x < 2 ^ n → ones x ≡ count n a
is_ones n i h = ones_count n h ∙ ap (count n) (is_set i)

pub is_trailing : (n : ℕ) {x : ℕ} {a : Numbers} {k : ℕ} → Is x a → lowest n a ≡ some k → count_trailing_zeros n x ≡ k
is_trailing n {x} i e = trailing_some n x (ap (lowest n) (is_set i) ∙ e)

pub is_trailing_none : (n : ℕ) {x : ℕ} {a : Numbers} → Is x a → lowest n a ≡ none → count_trailing_zeros n x ≡ n
is_trailing_none n {x} i e = trailing_none n x (ap (lowest n) (is_set i) ∙ e)

-- A word with a member has its lowest where its trailing zeros end.
lowest_zero : (w : ℕ) {x : ℕ} → x < 2 ^ w → lowest w (bits x) ≡ none → x ≡ 0
lowest_zero w {x} h e = bits_ext (λ n. go n (dec_lt n w) ∙ sym (bits_zero n))
  where
    go : (n : ℕ) → Dec (n < w) → bits x n ≡ false
    go n (yes l) = is_false (bits x n) (lowest_none w (bits x) e n l)
    go n (no l) = bits_high w h (omega arith)

pub lowest_there : (w : ℕ) {x : ℕ} → x < 2 ^ w → (x ≡ 0 → ⊥) → lowest w (bits x) ≡ some (count_trailing_zeros w x)
lowest_there w {x} h f = go (lowest w (bits x)) refl
  where
    go : (o : Option ℕ) → lowest w (bits x) ≡ o → lowest w (bits x) ≡ some (count_trailing_zeros w x)
    go none e = absurd (f (lowest_zero w h e))
    go (some k) e = e ∙ ap some (sym (trailing_some w x e))

-- All numbers below one.
pub below_power : (k n : ℕ) → bits (2 ^ k - 1) n ≡ ltb n k
below_power k n = ap (λ (x : ℕ). bits x n) (omega arith) ∙ bits_not k 0 n (pow_pos k) ∙ ap (λ (b : Bool). ltb n k && not b) (bits_zero n) ∙ go (ltb n k)
  where
    go : (b : Bool) → (b && true) ≡ b
    go true = refl
    go false = refl

-- Shifted down and up again: the places below are cleared.
bits_scaled : (x k n : ℕ) → bits (x * 2 ^ k) n ≡ (leb k n && bits x (n - k))
bits_scaled x zero n = ap₂ (λ (y z : ℕ). bits y z) (mul-one x) (omega arith) ∙ sym (ap (λ (b : Bool). b && bits x (n - 0)) (leb-zero n))
bits_scaled x (suc k) zero =
    bits_first (x * 2 ^ suc k) ∙ ap (λ (y : ℕ). eqb y 1) (shifted_even x k) ∙ sym (ap (λ (b : Bool). b && bits x (zero - suc k)) (leb-suc-zero k))
bits_scaled x (suc k) (suc n) =
    bits_suc (x * 2 ^ suc k) n ∙ ap (λ (y : ℕ). bits y n) (shifted_half x k) ∙ bits_scaled x k n
    ∙ ap₂ (λ (b : Bool) (y : ℕ). b && bits x y) (sym (leb-suc-suc k n)) (omega arith)

cleared : (x k n : ℕ) → bits (x / 2 ^ k * 2 ^ k) n ≡ (bits x n && leb k n)
cleared x k n = bits_scaled (x / 2 ^ k) k n ∙ go (dec_le k n) ∙ and_comm (leb k n) (bits x n)
  where
    go : Dec (k ≤ n) → (leb k n && bits (x / 2 ^ k) (n - k)) ≡ (leb k n && bits x n)
    go (yes h) = ap (λ (b : Bool). leb k n && b) (sym (bits_shift x k (n - k)) ∙ ap (bits x) (omega arith))
    go (no h) = rw (lt-leb k n (omega arith))

-- So it is done in words of v bits.
abbrev pub from_place : ℕ → ℕ → ℕ → ℕ
from_place v x k = (x / 2 ^ k * 2 ^ k) % 2 ^ v

module _ (v : ℕ) {x : ℕ} (h : x < 2 ^ v) (k : ℕ) where
  whole : from_place v x k ≡ x / 2 ^ k * 2 ^ k
  whole = mod-eq_of_lt (omega (arith, split x k))

  pub from_place_le : from_place v x k ≤ x
  from_place_le = omega (arith, whole, split x k)

  pub from_place_bits : (n : ℕ) → bits (from_place v x k) n ≡ (bits x n && leb k n)
  from_place_bits n = ap (λ (y : ℕ). bits y n) whole ∙ cleared x k n

-- A word's trailing zeros are where its members begin, or its width where it has none.
from_trailing : (w x n : ℕ) → n < w → leb (count_trailing_zeros w x) n ≡ some_to (bits x) n
from_trailing w x n h = go (lowest w (bits x)) refl
  where
    go : (o : Option ℕ) → lowest w (bits x) ≡ o → leb (count_trailing_zeros w x) n ≡ some_to (bits x) n
    go none e =
        ap (λ (k : ℕ). leb k n) (trailing_none w x e) ∙ lt-leb w n h
        ∙ sym (is_false (some_to (bits x) n) (λ t. let r = some_to_out (bits x) n t in lowest_none w (bits x) e r.0 (omega (arith, r.1)) r.2))
    go (some k) e =
        let r = lowest_some w (bits x) e in
        ap (λ (j : ℕ). leb j n) (trailing_some w x e) ∙ sym (some_to_least (record { member = r.1; none_below = r.2 }) n)

-- The maxima of two words in a straight line: what is in either, from the trailing zeros of the one and then of the other on. Words of w bits,
-- worked out in v bits, so that a shift by w is allowed.
module _ (w v : ℕ) (wide : w ≤ v) (a b : ℕ) (h : a < 2 ^ w) (l : b < 2 ^ w) where
  either_lt : bit_or a b < 2 ^ w
  either_lt = or_lt w a b h l

  above_lt : from_place v (bit_or a b) (count_trailing_zeros w a) < 2 ^ w
  above_lt = omega (arith, from_place_le v (lt_of_lt_of_le either_lt (pow_mono wide)) (count_trailing_zeros w a), either_lt)

  pub maxima_lt : from_place v (from_place v (bit_or a b) (count_trailing_zeros w a)) (count_trailing_zeros w b) < 2 ^ w
  maxima_lt = omega (arith, from_place_le v (lt_of_lt_of_le above_lt (pow_mono wide)) (count_trailing_zeros w b), above_lt)

  pub maxima_is : bits (from_place v (from_place v (bit_or a b) (count_trailing_zeros w a)) (count_trailing_zeros w b)) ≡ maxima (bits a) (bits b)
  maxima_is = ext (λ n. placed n ∙ go n (dec_lt n w) ∙ sym (maxima_from (bits a) (bits b) n))
    where
      placed : (n : ℕ) → bits (from_place v (from_place v (bit_or a b) (count_trailing_zeros w a)) (count_trailing_zeros w b)) n
          ≡ ((bits a n || bits b n) && (leb (count_trailing_zeros w a) n && leb (count_trailing_zeros w b) n))
      placed n =
          from_place_bits v (lt_of_lt_of_le above_lt (pow_mono wide)) (count_trailing_zeros w b) n
          ∙ ap (λ (x : Bool). x && leb (count_trailing_zeros w b) n)
          (from_place_bits v (lt_of_lt_of_le either_lt (pow_mono wide)) (count_trailing_zeros w a) n ∙ ap (λ (x : Bool). x && leb (count_trailing_zeros w a) n) (bits_or a b n))
          ∙ and_assoc (bits a n || bits b n) (leb (count_trailing_zeros w a) n) (leb (count_trailing_zeros w b) n)

      go : (n : ℕ) → Dec (n < w) → ((bits a n || bits b n) && (leb (count_trailing_zeros w a) n && leb (count_trailing_zeros w b) n))
          ≡ ((bits a n || bits b n) && (some_to (bits a) n && some_to (bits b) n))
      go n (yes i) = ap (λ (x : Bool). (bits a n || bits b n) && x) (ap₂ ◌&&◌ (from_trailing w a n i) (from_trailing w b n i))
      go n (no i) = rw (bits_high w {a = a} {n = n} h (omega arith), bits_high w {a = b} {n = n} l (omega arith))
