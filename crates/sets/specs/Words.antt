-- A set of numbers as a machine word of any width: bit n is set exactly when n is a member. Assumes nothing.
use Rattle.std.specs.Prelude.{cond, List, ℕ, zero, suc, ◌+◌, ◌-◌, ◌/◌, ◌%◌, ◌^◌, eqb, ltb, get_or}
use Rattle.sets.specs.Numbers.{Numbers}

-- The set of a word's bits.
unfoldable pub bits : ℕ → Numbers
bits w n = eqb (w / 2 ^ n % 2) 1

-- The word that has, below the width, the bits of a set.
unfoldable pub word : ℕ → Numbers → ℕ
word zero a = 0
word (suc n) a = cond (a n) (2 ^ n) 0 + word n a

-- A set as two words of a width each: the first has the members below the width, the second those from it on.
unfoldable pub two_words : ℕ → ℕ → ℕ → Numbers
two_words w low high n = cond (ltb n w) (bits low n) (bits high (n - w))

-- The set of an array of two 64-bit words: bit n of the 128 for the number n.
abbrev pub set_of : List ℕ → Numbers
set_of ws = two_words 64 (get_or ws 0 0) (get_or ws 1 0)
