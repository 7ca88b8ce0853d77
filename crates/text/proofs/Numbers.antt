-- A number is read digit by digit: what is still to come of its word, with the value so far, stands for the same. Assumes nothing.
use mathlib.Core.Path.{◌≡◌, refl, sym, ap, ◌∙◌, subst}
use mathlib.Core.Bool.{Bool, true, false, cond, ◌&&◌}
use mathlib.Core.List.{List, [], ◌∷◌}
use Prim.Native.Nat.{ℕ, suc, ◌+◌, ◌-◌, ◌*◌, ◌^◌, ◌≤◌, ◌<◌}
use native.Mathlib.Nat.{pow-suc, pow-le-pow_right, zero-lt-suc}
use native.Mathlib.Omega.{arith}
use borrow.Author.Tests.{le-leb}
use lib.Dec.{T, leb, leb→le}
use lib.ListN.{length, get_or, drop}
use lib.Seq.{drop-cons}
use Rattle.text.specs.Tokens.{is_digit, in_word, all_digits, value_from, is_number, word_of}
use Rattle.std.specs.Prelude.{Option, Some, None}
use Rattle.text.specs.Coded.{number_value}
use Rattle.text.proofs.Words.{both_so, below_leb}
use Rattle.text.proofs.Keys.{word_inside}

-- The digits that are left, with the value of those before them.
abbrev pub value_left : ℕ → List ℕ → Option ℕ
value_left v w = cond (all_digits w && leb (value_from v w) 65535) (Some (value_from v w)) None

pub all_left : (w : List ℕ) → length w ≤ 5 → value_left 0 w ≡ number_value w
unfolding is_number
all_left w l = sym (ap (λ (z : Bool). cond (all_digits w && (z && leb (value_from 0 w) 65535)) (Some (value_from 0 w)) None) (le-leb (length w) 5 l))

pub too_many : (w : List ℕ) → 5 < length w → number_value w ≡ None
unfolding is_number
too_many w l =
    ap (λ (z : Bool). cond (all_digits w && (z && leb (value_from 0 w) 65535)) (Some (value_from 0 w)) None) (below_leb (length w) 5 l) ∙ neither (all_digits w) (Some (value_from 0 w))
  where
    neither : (z : Bool) (v : Option ℕ) → cond (z && false) v None ≡ None
    neither true v = refl
    neither false v = refl

pub one_digit : (v b : ℕ) (w : List ℕ) → is_digit b ≡ true → value_left v (b ∷ w) ≡ value_left (v * 10 + (b - 48)) w
unfolding all_digits value_from
one_digit v b w e = ap (λ (z : Bool). cond ((z && all_digits w) && leb (value_from (v * 10 + (b - 48)) w) 65535) (Some (value_from (v * 10 + (b - 48)) w)) None) e

pub no_digit : (v b : ℕ) (w : List ℕ) → is_digit b ≡ false → value_left v (b ∷ w) ≡ None
unfolding all_digits value_from
no_digit v b w e = ap (λ (z : Bool). cond ((z && all_digits w) && leb (value_from (v * 10 + (b - 48)) w) 65535) (Some (value_from (v * 10 + (b - 48)) w)) None) e

pub fits_left : (v : ℕ) → v ≤ 65535 → value_left v [] ≡ Some v
unfolding all_digits value_from
fits_left v l = ap (λ (z : Bool). cond z (Some v) None) (le-leb v 65535 l)

pub over_left : (v : ℕ) → 65535 < v → value_left v [] ≡ None
unfolding all_digits value_from
over_left v l = ap (λ (z : Bool). cond z (Some v) None) (below_leb v 65535 l)

pub digit_range : (b : ℕ) → is_digit b ≡ true → (48 ≤ b) × (b ≤ 57)
digit_range b e = let r = both_so (leb 48 b) (leb b 57) (subst T (sym e) tt) in (leb→le 48 b r.0, leb→le b 57 r.1)

-- So many digits are below that power of ten.
pub more_digits : (k : ℕ) {v b : ℕ} → v < 10 ^ k → b ≤ 57 → v * 10 + (b - 48) < 10 ^ (k + 1)
more_digits k {v} {b} h l =
    let e : suc k ≡ k + 1 = omega arith in
    subst (λ (n : ℕ). v * 10 + (b - 48) < 10 ^ n) e (omega (arith, h, l, pow-suc 10 k))

pub few_digits : (k : ℕ) {v : ℕ} → v < 10 ^ k → k ≤ 5 → v < 100000
few_digits k h l = let m : 10 ^ k ≤ 10 ^ 5 = pow-le-pow_right (zero-lt-suc 9) l in omega (arith, h, m)

-- A word that goes on has a byte of the text, and what is behind it is the word from there.
module _ (s : List ℕ) (i : ℕ) where
  pub word_on : 0 < length (word_of (drop i s)) → (i < length s) × (word_of (drop i s) ≡ get_or s i 0 ∷ word_of (drop (i + 1) s))
  unfolding word_of
  word_on l =
      let inside = word_inside s i {n = length (word_of (drop i s))} refl (λ e. omega (arith, e, l)) in
      let here : i < length s = omega (arith, inside, l) in
      let n : suc i ≡ i + 1 = omega arith in
      let first : word_of (drop i s) ≡ cond (in_word (get_or s i 0)) (get_or s i 0 ∷ word_of (drop (suc i) s)) [] = ap word_of (drop-cons s i 0 here) in
      (here, first ∙ go (in_word (get_or s i 0)) (subst (λ (w : List ℕ). 0 < length w) first l) ∙ ap (λ (k : ℕ). get_or s i 0 ∷ word_of (drop k s)) n)
    where
      go : (z : Bool) → 0 < length (cond z (get_or s i 0 ∷ word_of (drop (suc i) s)) []) → cond z (get_or s i 0 ∷ word_of (drop (suc i) s)) [] ≡ get_or s i 0 ∷ word_of (drop (suc i) s)
      go true l = refl
      go false l = absurd (omega (arith, l))
