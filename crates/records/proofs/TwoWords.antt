-- A set in two words: which word has a member, when a word has a bit from a place on, and words and sets taken into each other.
-- Assumes nothing.
use mathlib.Core.Path.{◌≡◌, refl, sym, ap, ◌∙◌, subst, subst⁻¹}
use mathlib.Core.Logic.{◌⊎◌, inl, inr}
use mathlib.Core.Bool.{Bool, true, false, not, cond, ◌&&◌}
use mathlib.Core.Option.{Option, none, some}
use Prim.Native.Nat.{ℕ, ◌+◌, ◌-◌, ◌/◌, ◌^◌, ◌≤◌, ◌<◌}
use native.Mathlib.Nat.{lt_of_lt_of_le, div-eq_of_lt, zero-lt-suc, div-le_self}
use native.Mathlib.Omega.{arith}
use lib.Dec.{T, eqb, ltb, leb, le→leb, leb→le, lt→ltb, T_not, not_T, eqb→eq}
use lib.Pow.{pow_mono}
use borrow.Author.Tests.{lt-ltb, le-ltb}
use Rattle.sets.specs.Numbers.{Numbers, lowest}
use Rattle.sets.specs.Words.{bits, word, two_words}
use Rattle.sets.proofs.Members.{is_true, of_true, is_false, same, and_in, and_left, and_right, eqb_in, ext}
use Rattle.sets.proofs.Maxima.{some_to_in, some_to_out}
use Rattle.sets.proofs.Counts.{lowest_is, Lowest}
use Rattle.sets.proofs.Words.{bits_shift, bits_zero, bits_high, bits_ext_to, bits_word, bits_word_in, word_bits, word_cong}
use Rattle.records.specs.StateRecord.{upper, beyond}

-- Which word has a member.
pub in_low : (low high : ℕ) {n : ℕ} → n < 64 → two_words 64 low high n ≡ bits low n
unfolding two_words
in_low low high {n} h = ap (λ (b : Bool). cond b (bits low n) (bits high (n - 64))) (lt-ltb n 64 h)

pub in_high : (low high : ℕ) {n : ℕ} → 64 ≤ n → two_words 64 low high n ≡ bits high (n - 64)
unfolding two_words
in_high low high {n} h = ap (λ (b : Bool). cond b (bits low n) (bits high (n - 64))) (le-ltb n 64 h)

pub or_64 : (n : ℕ) → (n < 64) ⊎ (64 ≤ n)
or_64 n = go (ltb n 64) refl
  where
    go : (b : Bool) → ltb n 64 ≡ b → (n < 64) ⊎ (64 ≤ n)
    go true e = inl (borrow.Author.Tests.ltb-true n 64 e)
    go false e = inr (borrow.Author.Tests.ltb-false n 64 e)

-- A word has a bit from a place on exactly when it is not 0 shifted by that much.
pub shifted_out : {w p : ℕ} → w < 2 ^ 64 → 64 ≤ p → w / 2 ^ p ≡ 0
shifted_out h l = div-eq_of_lt (lt_of_lt_of_le h (pow_mono l))

pub none_from : (w p : ℕ) {n : ℕ} → w / 2 ^ p ≡ 0 → p ≤ n → T (bits w n) → ⊥
none_from w p {n} e l t =
    let s : n ≡ p + (n - p) = omega arith in
    subst T (ap (bits w) s ∙ bits_shift w p (n - p) ∙ ap (λ (x : ℕ). bits x (n - p)) e ∙ bits_zero (n - p)) t

pub some_bit : (w : ℕ) → w < 2 ^ 64 → (w ≡ 0 → ⊥) → (n : ℕ) × T (bits w n)
some_bit w h f = go (lowest 64 (bits w)) (lowest_is 64 (bits w))
  where
    go : (o : Option ℕ) → Lowest 64 (bits w) o → (n : ℕ) × T (bits w n)
    go none g = absurd (f (bits_ext_to 64 h (zero-lt-suc (2 ^ 64 - 1)) (λ n l. is_false (bits w n) (g n l) ∙ sym (bits_zero n))))
    go (some n) g = (n, g.1)

pub some_from : (w p : ℕ) → w < 2 ^ 64 → (w / 2 ^ p ≡ 0 → ⊥) → (n : ℕ) × (p ≤ n) × T (bits w n)
some_from w p h f =
    let d : w / 2 ^ p ≤ w = div-le_self w (2 ^ p) in
    let r = some_bit (w / 2 ^ p) (omega arith) f in
    (p + r.0, omega arith, subst⁻¹ T (bits_shift w p r.0) r.1)

pub below_width : (w : ℕ) {n : ℕ} → w < 2 ^ 64 → T (bits w n) → n < 64
below_width w {n} h t = go (or_64 n)
  where
    go : (n < 64) ⊎ (64 ≤ n) → n < 64
    go (inl l) = l
    go (inr l) = absurd (subst T (bits_high 64 h l) t)

-- A bit at or above a count.
pub beyond_in : (p : ℕ) (A : Numbers) {m : ℕ} → m < 128 → p ≤ m → T (A m) → T (beyond p A)
unfolding beyond
beyond_in p A {m} h l t = some_to_in (λ n. A n && leb p n) 127 (omega arith) (and_in (A m) (leb p m) t (le→leb p m l))

pub beyond_out : (p : ℕ) (A : Numbers) → T (beyond p A) → (m : ℕ) × (m < 128) × (p ≤ m) × T (A m)
unfolding beyond
beyond_out p A t =
    let r = some_to_out (λ n. A n && leb p n) 127 t in
    (r.0, omega (arith, r.1), leb→le p r.0 (and_right (A r.0) (leb p r.0) r.2), and_left (A r.0) (leb p r.0) r.2)

module _ (low high : ℕ) (l64 : low < 2 ^ 64) (h64 : high < 2 ^ 64) where
  low_member : (n : ℕ) → T (bits low n) → T (two_words 64 low high n)
  low_member n t = subst⁻¹ T (in_low low high (below_width low l64 t)) t

  high_member : (n : ℕ) → T (bits high n) → T (two_words 64 low high (64 + n))
  high_member n t =
      let e : 64 + n - 64 ≡ n = omega arith in
      subst⁻¹ T (in_high low high {n = 64 + n} (omega arith) ∙ ap (bits high) e) t

  pub below_128 : {n : ℕ} → T (two_words 64 low high n) → n < 128
  below_128 {n} t = go (or_64 n)
    where
      go : (n < 64) ⊎ (64 ≤ n) → n < 128
      go (inl l) = omega arith
      go (inr l) = let b : n - 64 < 64 = below_width high h64 (subst T (in_high low high l) t) in omega arith

  pub beyond_low : (p : ℕ) → (low / 2 ^ p ≡ 0 → ⊥) → beyond p (two_words 64 low high) ≡ true
  beyond_low p f =
      let r = some_from low p l64 f in
      let b : r.0 < 64 = below_width low l64 r.2 in
      is_true _ (beyond_in p (two_words 64 low high) {m = r.0} (omega arith) r.1 (low_member r.0 r.2))

  pub beyond_high : (p : ℕ) → p < 64 → low / 2 ^ p ≡ 0 → beyond p (two_words 64 low high) ≡ not (eqb high 0)
  beyond_high p h e = same (beyond p (two_words 64 low high)) (not (eqb high 0)) there back
    where
      A : Numbers
      A = two_words 64 low high

      there : T (beyond p A) → T (not (eqb high 0))
      there t = go (or_64 r.0)
        where
          r : (m : ℕ) × (m < 128) × (p ≤ m) × T (A m)
          r = beyond_out p A t

          go : (r.0 < 64) ⊎ (64 ≤ r.0) → T (not (eqb high 0))
          go (inl l) = absurd (none_from low p e r.2 (subst T (in_low low high l) r.3))
          go (inr l) =
              not_T (eqb high 0) (λ z. subst T (in_high low high l ∙ ap (λ (x : ℕ). bits x (r.0 - 64)) (eqb→eq high 0 z) ∙ bits_zero (r.0 - 64)) r.3)

      back : T (not (eqb high 0)) → T (beyond p A)
      back t =
          let r = some_bit high h64 (λ z. T_not (eqb high 0) t (eqb_in z)) in
          let b : r.0 < 64 = below_width high h64 r.1 in
          beyond_in p A {m = 64 + r.0} (omega arith) (omega arith) (high_member r.0 r.1)

  pub beyond_second : (p : ℕ) → 64 ≤ p → beyond p (two_words 64 low high) ≡ not (eqb (high / 2 ^ (p - 64)) 0)
  beyond_second p h = same (beyond p (two_words 64 low high)) (not (eqb (high / 2 ^ (p - 64)) 0)) there back
    where
      A : Numbers
      A = two_words 64 low high

      there : T (beyond p A) → T (not (eqb (high / 2 ^ (p - 64)) 0))
      there t =
          let r = beyond_out p A t in
          let l : 64 ≤ r.0 = omega (arith, r.2) in
          not_T (eqb (high / 2 ^ (p - 64)) 0)
          (λ z. none_from high (p - 64) (eqb→eq (high / 2 ^ (p - 64)) 0 z) (omega (arith, r.2)) (subst T (in_high low high l) r.3))

      back : T (not (eqb (high / 2 ^ (p - 64)) 0)) → T (beyond p A)
      back t =
          let r = some_from high (p - 64) h64 (λ z. T_not (eqb (high / 2 ^ (p - 64)) 0) t (eqb_in z)) in
          let b : r.0 < 64 = below_width high h64 r.2 in
          beyond_in p A {m = 64 + r.0} (omega arith) (omega (arith, r.1)) (high_member r.0 r.2)

  -- The words of a set of two words.
  pub words_low : word 64 (two_words 64 low high) ≡ low
  words_low = word_cong 64 (two_words 64 low high) (bits low) (λ k h. in_low low high h) ∙ word_bits 64 l64

  pub words_high : word 64 (upper (two_words 64 low high)) ≡ high
  words_high = word_cong 64 (upper (two_words 64 low high)) (bits high) go ∙ word_bits 64 h64
    where
      go : (k : ℕ) → k < 64 → two_words 64 low high (64 + k) ≡ bits high k
      go k h = let e : 64 + k - 64 ≡ k = omega arith in in_high low high {n = 64 + k} (omega arith) ∙ ap (bits high) e

-- A set below 128 is the set of its words.
pub set_of_words : (A : Numbers) → ((n : ℕ) → T (A n) → n < 128) → two_words 64 (word 64 A) (word 64 (upper A)) ≡ A
set_of_words A f = ext (λ n. go n (or_64 n))
  where
    back : (n : ℕ) → 64 ≤ n → (ltb (n - 64) 64 && A n) ≡ A n
    back n l =
        same (ltb (n - 64) 64 && A n) (A n) (and_right (ltb (n - 64) 64) (A n))
        (λ t. let b : n < 128 = f n t in and_in (ltb (n - 64) 64) (A n) (lt→ltb (n - 64) 64 (omega arith)) t)

    go : (n : ℕ) → (n < 64) ⊎ (64 ≤ n) → two_words 64 (word 64 A) (word 64 (upper A)) n ≡ A n
    go n (inl l) = in_low (word 64 A) (word 64 (upper A)) l ∙ bits_word_in 64 A l
    go n (inr l) =
        let e : 64 + (n - 64) ≡ n = omega arith in
        in_high (word 64 A) (word 64 (upper A)) l ∙ bits_word 64 (upper A) (n - 64)
        ∙ ap (λ (k : ℕ). ltb (n - 64) 64 && A k) e ∙ back n l

pub set_of_none : (n : ℕ) → two_words 64 0 0 n ≡ false
unfolding two_words
set_of_none n = go (ltb n 64)
  where
    go : (b : Bool) → cond b (bits 0 n) (bits 0 (n - 64)) ≡ false
    go true = bits_zero n
    go false = bits_zero (n - 64)

-- What a word's test says of the word.
pub shift_set : (w p : ℕ) {b : Bool} → b ≡ not (eqb (w / 2 ^ p) 0) → b ≡ true → w / 2 ^ p ≡ 0 → ⊥
shift_set w p e t z = T_not (eqb (w / 2 ^ p) 0) (of_true (sym e ∙ t)) (eqb_in z)

pub shift_clear : (w p : ℕ) {b : Bool} → b ≡ not (eqb (w / 2 ^ p) 0) → b ≡ false → w / 2 ^ p ≡ 0
shift_clear w p e f = eqb→eq (w / 2 ^ p) 0 (of_true (borrow.Author.Tests.not-false (eqb (w / 2 ^ p) 0) (sym e ∙ f)))
