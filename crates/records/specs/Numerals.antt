-- Little-endian numbers in bytes. Assumes nothing.
use Rattle.std.specs.Prelude.{List, [], ◌∷◌, ℕ, zero, suc, ◌+◌, ◌*◌, ◌/◌, ◌%◌, ◌<◌, get_or, take, drop}

-- Numbers that are bytes.
pub record Bytes (bs : List ℕ) : Type 0 where
  pub byte : (i : ℕ) → get_or bs i 0 < 256

-- A number as so many bytes, the lowest first.
unfoldable pub in_bytes : ℕ → ℕ → List ℕ
in_bytes zero x = []
in_bytes (suc n) x = x % 256 ∷ in_bytes n (x / 256)

-- The number of some bytes.
unfoldable pub as_number : List ℕ → ℕ
as_number [] = 0
as_number (b ∷ bs) = b + 256 * as_number bs

-- The number in n bytes from a place on.
unfoldable pub field : List ℕ → ℕ → ℕ → ℕ
unfolding as_number
field bs at n = as_number (take n (drop at bs))
