-- Names as words: a digit or a letter before the bytes of a number is one byte more below it. Assumes nothing.
use mathlib.Core.Path.{◌≡◌, refl, sym, ap, ap₂, ◌∙◌}
use mathlib.Core.Bool.{Bool, true, false, cond}
use mathlib.Core.List.{List, ◌∷◌}
use Prim.Native.Nat.{ℕ, zero, suc, ◌+◌, ◌*◌, ◌/◌, ◌%◌, ◌^◌, ◌≤◌, ◌<◌}
use native.Mathlib.Nat.{pow-suc, pow-le-pow_right, zero-lt-suc}
use native.Mathlib.Omega.{arith}
use native.Mathlib.Decide.{ℕ_discrete}
use borrow.Author.Tests.{lt-ltb, le-ltb}
use lib.Dec.{ltb}
use Rattle.text.specs.Shown.{decimal_in, decimal, letter}
use Rattle.write_text.specs.Pieces.{coded_in, coded}
use Rattle.write_text.proofs.Putting.{no_bytes, more_bytes}

-- One byte more below a number, and steps to spare.
front_byte : (f c code : ℕ) {n : ℕ} → 0 < c → c < 256 → n ≡ c + 256 * code → coded_in (suc f) n ≡ c ∷ coded_in f code
front_byte f c code {n} l h e =
    let low : n % 256 ≡ c = omega (arith, e, h) in
    let high : n / 256 ≡ code = omega (arith, e, h) in
    more_bytes f n (λ z. omega (arith, z, e, l)) ∙ ap₂ (λ (b x : ℕ). b ∷ coded_in f x) low high

to_spare : (f g n : ℕ) → n < 256 ^ f → n < 256 ^ g → coded_in f n ≡ coded_in g n
to_spare zero g n l h = no_bytes 0 n (omega (arith, l)) ∙ sym (no_bytes g n (omega (arith, l)))
to_spare (suc f) zero n l h = no_bytes (suc f) n (omega (arith, h)) ∙ sym (no_bytes 0 n (omega (arith, h)))
to_spare (suc f) (suc g) n l h = go (ℕ_discrete n 0) (to_spare f g (n / 256) (omega (arith, l, pow-suc 256 f)) (omega (arith, h, pow-suc 256 g)))
  where
    go : Dec (n ≡ 0) → coded_in f (n / 256) ≡ coded_in g (n / 256) → coded_in (suc f) n ≡ coded_in (suc g) n
    go (yes e) ih = no_bytes (suc f) n e ∙ sym (no_bytes (suc g) n e)
    go (no e) ih = more_bytes f n e ∙ ap (λ (l : List ℕ). (n % 256) ∷ l) ih ∙ sym (more_bytes g n e)

-- The digits that are not there yet, before those that are.
pub record DigitsLeft (n code left : ℕ) : Type 0 where
  pub there : ℕ
  pub more : ℕ
  pub five : there + more ≡ 4
  pub small : left < 10 ^ suc more
  pub fits : code < 256 ^ there
  pub steps : ℕ
  pub enough : left < steps
  pub rest : decimal_in steps left (coded_in there code) ≡ decimal n

pub digits_begun : (n : ℕ) → n < 65536 → DigitsLeft n 0 n
unfolding coded_in
digits_begun n l =
    record { there = 0; more = 4; five = refl; small = omega (arith, l); fits = omega arith; steps = suc n; enough = omega arith; rest = refl }

module _ {n code left : ℕ} (d : DigitsLeft n code left) where
  pub code_small : code < 4294967296
  code_small = let few : d.there ≤ 4 = omega (arith, d.five) in let m : 256 ^ d.there ≤ 256 ^ 4 = pow-le-pow_right (zero-lt-suc 255) few in omega (arith, d.fits)

  steps_on : {P : Type 0} → ((f : ℕ) → left ≤ f → decimal_in (suc f) left (coded_in d.there code) ≡ decimal n → P) → P
  steps_on {P} k = go d.steps d.enough d.rest
    where
      go : (f : ℕ) → left < f → decimal_in f left (coded_in d.there code) ≡ decimal n → P
      go zero l e = absurd (omega (arith, l))
      go (suc f) l e = k f (omega (arith, l)) e

  pub digits_more : 10 ≤ left → {next : ℕ} → next ≡ code * 256 + (48 + left % 10) → DigitsLeft n next (left / 10)
  unfolding decimal_in
  digits_more l {next} e = steps_on (λ f enough r. go d.more d.five d.small f enough r)
    where
      then_digit : (f : ℕ) → decimal_in (suc f) left (coded_in d.there code) ≡ decimal n → decimal_in f (left / 10) (coded_in (suc d.there) next) ≡ decimal n
      then_digit f r =
          let shown : next ≡ (48 + left % 10) + 256 * code = omega (arith, e) in
          ap (decimal_in f (left / 10)) (front_byte d.there (48 + left % 10) code (omega arith) (omega arith) shown)
          ∙ sym (ap (λ (z : Bool). cond z ((48 + left % 10) ∷ coded_in d.there code) (decimal_in f (left / 10) ((48 + left % 10) ∷ coded_in d.there code))) (le-ltb left 10 l)) ∙ r

      go : (m : ℕ) → d.there + m ≡ 4 → left < 10 ^ suc m → (f : ℕ) → left ≤ f → decimal_in (suc f) left (coded_in d.there code) ≡ decimal n → DigitsLeft n next (left / 10)
      go zero five s f enough r = absurd (omega (arith, s, l))
      go (suc m) five s f enough r = record {
        there = suc d.there;
        more = m;
        five = omega (arith, five);
        small = omega (arith, s, pow-suc 10 (suc m));
        fits = omega (arith, e, d.fits, pow-suc 256 d.there);
        steps = f;
        enough = omega (arith, enough, l);
        rest = then_digit f r;
      }

  pub digits_ended : left < 10 → {r : ℕ} → r ≡ code * 256 + (48 + left) → coded r ≡ decimal n
  unfolding decimal_in
  digits_ended l {r} e = steps_on (λ f enough q. last f q)
    where
      last : (f : ℕ) → decimal_in (suc f) left (coded_in d.there code) ≡ decimal n → coded r ≡ decimal n
      last f q =
          let shown : r ≡ (48 + left) + 256 * code = omega (arith, e) in
          let itself : 48 + left ≡ 48 + left % 10 = omega (arith, l) in
          let few : r < 256 ^ suc d.there = omega (arith, e, l, d.fits, pow-suc 256 d.there) in
          to_spare 8 (suc d.there) r (omega (arith, e, l, code_small)) few ∙ front_byte d.there (48 + left) code (omega arith) (omega (arith, l)) shown
          ∙ ap (λ (b : ℕ). b ∷ coded_in d.there code) itself
          ∙ sym (ap (λ (z : Bool). cond z ((48 + left % 10) ∷ coded_in d.there code) (decimal_in f (left / 10) ((48 + left % 10) ∷ coded_in d.there code))) (lt-ltb left 10 l)) ∙ q

pub letter_before : (c code n : ℕ) → 0 < c → c < 256 → code < 1099511627776 → coded code ≡ decimal n → {r : ℕ} → r ≡ c + 256 * code → coded r ≡ c ∷ decimal n
letter_before c code n l h s e {r} f = front_byte 7 c code l h f ∙ ap (λ (x : List ℕ). c ∷ x) (to_spare 7 8 code (omega (arith, s)) (omega (arith, s)) ∙ e)

-- The letters.
pub letter_range : (i o s : ℕ) → (0 < letter i o s) × (letter i o s < 256)
letter_range i o s = go (ltb s i) (ltb s (i + o))
  where
    go : (y z : Bool) → (0 < cond y 73 (cond z 79 83)) × (cond y 73 (cond z 79 83) < 256)
    go true z = (omega arith, omega arith)
    go false true = (omega arith, omega arith)
    go false false = (omega arith, omega arith)
