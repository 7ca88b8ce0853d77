-- The words that the functions make of sets of codes, bit by bit. Assumes nothing.
use mathlib.Core.Path.{◌≡◌, refl, sym, ◌∙◌, ap, ap₂}
use mathlib.Core.Bool.{Bool, true, false, ◌&&◌, ◌||◌}
use Prim.Native.Nat.{ℕ, zero, suc, ◌+◌, ◌*◌, ◌/◌, ◌%◌, ◌<◌}
use native.Mathlib.Omega.{arith}
use lib.Dec.{eqb}
use lib.Bits.{bit_and, bit_or, bit_xor, or_lt}
use Rattle.sets.specs.Numbers.{Numbers, union, without, only_if, downs}
use Rattle.sets.specs.Words.{bits}
use Rattle.sets.proofs.Members.{ext}
use Rattle.sets.proofs.Words.{bits_first, bits_suc, bits_or, is_set, is_bits, is_without}

same_first : (x y : ℕ) → x % 2 ≡ y % 2 → bits x 0 ≡ bits y 0
same_first x y e = bits_first x ∙ ap (λ (z : ℕ). eqb z 1) e ∙ sym (bits_first y)

pub lowered_digit : (c : ℕ) → bit_or (c % 2) (c / 4 % 2) < 2
lowered_digit c = or_lt 1 (c % 2) (c / 4 % 2) (omega arith) (omega arith)

pub lowered_is : (c : ℕ) → bits (c / 8 * 4 + c / 2 % 2 * 2 + bit_or (c % 2) (c / 4 % 2)) ≡ downs (bits c)
unfolding downs
lowered_is c = ext go
  where
    z : ℕ
    z = bit_or (c % 2) (c / 4 % 2)

    small : z < 2
    small = lowered_digit c

    r : ℕ
    r = c / 8 * 4 + c / 2 % 2 * 2 + z

    third : bits c 2 ≡ bits (c / 4) 0
    third = bits_suc c 1 ∙ bits_suc (c / 2) 0 ∙ ap (λ (x : ℕ). bits x 0) (omega arith)

    first : bits r 0 ≡ (bits c 0 || bits c 2)
    first =
        same_first r z (omega (arith, small)) ∙ bits_or (c % 2) (c / 4 % 2) 0
        ∙ ap₂ (λ (x y : Bool). x || y) (same_first (c % 2) c (omega arith)) (same_first (c / 4 % 2) (c / 4) (omega arith) ∙ sym third)

    next : bits r 1 ≡ bits c 1
    next = bits_suc r 0 ∙ same_first (r / 2) (c / 2) (omega (arith, small)) ∙ sym (bits_suc c 0)

    go : (n : ℕ) → bits r n ≡ downs (bits c) n
    go zero = first
    go (suc zero) = next
    go (suc (suc n)) =
        bits_suc r (suc n) ∙ bits_suc (r / 2) n ∙ ap (λ (x : ℕ). bits x n) (omega (arith, small))
        ∙ sym (bits_suc (c / 2 / 2) n) ∙ sym (bits_suc (c / 2) (suc n)) ∙ sym (bits_suc c (suc (suc n)))

pub without_zero_is : (c : ℕ) → bits (bit_and c (bit_xor c 1)) ≡ without 0 (bits c)
without_zero_is c = is_set (is_without 0 (is_bits c))

pub union_is : (x y : ℕ) → bits (bit_or x y) ≡ union (bits x) (bits y)
union_is x y = ext (bits_or x y)

-- A sequence's second part, by whether 0 is among the first's codes.
pub goes_on : (a b v : ℕ) → bits v ≡ without 0 (bits a) → bits a 0 ≡ true → bits (bit_or v b) ≡ union (without 0 (bits a)) (only_if (bits a 0) (bits b))
goes_on a b v e t = ext λ n. bits_or v b n ∙ ap₂ (λ (x y : Bool). x || y) (ap (λ (f : Numbers). f n) e) (ap (λ (t : Bool). t && bits b n) (sym t))

or_false : (x : Bool) → (x || false) ≡ x
or_false true = refl
or_false false = refl

pub stops : (a b v : ℕ) → bits v ≡ without 0 (bits a) → bits a 0 ≡ false → bits v ≡ union (without 0 (bits a)) (only_if (bits a 0) (bits b))
stops a b v e t = ext λ n. ap (λ (f : Numbers). f n) e ∙ sym (or_false (without 0 (bits a) n)) ∙ ap (λ (t : Bool). without 0 (bits a) n || (t && bits b n)) (sym t)
