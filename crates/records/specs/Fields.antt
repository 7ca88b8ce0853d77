-- Records of fixed fields: their widths in bytes, the bytes of their values, and the value of a field in some bytes. Assumes nothing.
use Rattle.std.specs.Prelude.{◌≡◌, List, [], ◌∷◌, ◌++◌, ℕ, ◌+◌, ◌^◌, ◌<◌, length, get_or, take, drop}
use Rattle.records.specs.Numerals.{in_bytes, as_number, field}

-- How many bytes fields of these widths have.
abbrev pub size : List ℕ → ℕ
size [] = 0
size (w ∷ ws) = w + size ws

-- Where field i begins.
abbrev pub place : List ℕ → ℕ → ℕ
place ws i = size (take i ws)

-- The values one after the other, each in as many bytes as its field has, the lowest first. A value that is missing is 0.
unfoldable pub laid : List ℕ → List ℕ → List ℕ
unfolding in_bytes
laid [] xs = []
laid (w ∷ ws) [] = in_bytes w 0 ++ laid ws []
laid (w ∷ ws) (x ∷ xs) = in_bytes w x ++ laid ws xs

-- The value of field i.
abbrev pub value : List ℕ → ℕ → List ℕ → ℕ
value ws i bs = field bs (place ws i) (get_or ws i 0)

-- The values of all fields.
unfoldable pub values : List ℕ → List ℕ → List ℕ
unfolding as_number
values [] bs = []
values (w ∷ ws) bs = as_number (take w bs) ∷ values ws (drop w bs)

-- Each value is a number of as many bytes as its field has.
pub record Fit (ws xs : List ℕ) : Type 0 where
  pub as_many : length xs ≡ length ws
  pub fits : (i : ℕ) → i < length ws → get_or xs i 0 < 256 ^ get_or ws i 0
