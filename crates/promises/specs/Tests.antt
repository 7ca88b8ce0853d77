-- Tests in an order, and the first that applies. Assumes nothing.
use Rattle.std.specs.Prelude.{◌≡◌, ◌⊎◌, List, [], ◌∷◌, ℕ}

-- A test: the number that is given back, and when it applies.
pub record Test : Type 1 where
  pub number : ℕ
  pub Applies : Type 0

-- The number of the first test of a list that applies, and 0 where none does.
abbrev pub First : List Test → ℕ → Type 0
First [] n = n ≡ 0
First (t ∷ ts) n = (t.Applies × (n ≡ t.number)) ⊎ ((t.Applies → ⊥) × First ts n)
