-- Input runs, and what a comparison of two things under every input run may find: a difference that a run shows, the first of those, and the
-- pairs that short runs reach. For any two things that take a step at each input set. Assumes nothing.
use Rattle.std.specs.Prelude.{◌≡◌, Bool, false, ◌||◌, List, [], ◌∷◌, ◌++◌, ℕ, suc, ◌+◌, ◌*◌, ◌≤◌, ◌<◌, T}

infixl 40 ◌▸◌
-- An input run: no instant yet, or a run and then one more instant with an input set.
pub data Run : Type 0 where
  start : Run
  ◌▸◌ : Run → ℕ → Run

-- How many sets it has.
unfoldable pub size : Run → ℕ
size start = 0
size (r ▸ s) = suc (size r)

-- As it is written: one byte a set, the first set first.
unfoldable pub bytes_of : Run → List ℕ
bytes_of start = []
bytes_of (r ▸ s) = bytes_of r ++ (s ∷ [])

-- For numeric order: the number that these bytes make, the first one its highest.
unfoldable pub numeric : Run → ℕ
numeric start = 0
numeric (r ▸ s) = numeric r * 256 + s

-- Two things compared: the pairs of their states, the first pair, what a set leads to from a pair, and whether a set makes a difference there.
-- The sets are the numbers below `sets`.
pub record Comparison : Type 1 where
  pub Pairs : Type 0
  pub first_pair : Pairs
  pub leads : Pairs → ℕ → Pairs
  pub differs : Pairs → ℕ → Bool
  pub sets : ℕ

-- A run of a comparison has only its sets.
unfoldable pub Input : Comparison → Run → Type 0
Input m start = Unit {0}
Input m (r ▸ s) = Input m r × (s < m.sets)

-- The pair that a run reaches.
unfoldable pub reach : (m : Comparison) → Run → m.Pairs
reach m start = m.first_pair
reach m (r ▸ s) = m.leads (reach m r) s

-- A run shows a difference: in some instant of it the two differ.
unfoldable pub shows : Comparison → Run → Bool
unfolding reach
shows m start = false
shows m (r ▸ s) = shows m r || m.differs (reach m r) s

-- A shortest run that shows one, and the first in numeric order among those.
pub record First (m : Comparison) (w : Run) : Type 0 where
  pub is_input : Input m w
  pub is_shown : T (shows m w)
  pub shortest : (v : Run) → Input m v → T (shows m v) → size w ≤ size v
  pub first : (v : Run) → Input m v → T (shows m v) → size v ≡ size w → numeric w ≤ numeric v

-- A run shorter than a shortest showing one; every run, if none shows.
pub record Short (m : Comparison) (r : Run) : Type 0 where
  pub is_input : Input m r
  pub shorter : (v : Run) → Input m v → T (shows m v) → size r < size v

-- Such runs reach over so many different pairs.
pub record Over (most : ℕ) (m : Comparison) : Type 0 where
  pub runs : ℕ → Run
  pub short : (i : ℕ) → i ≤ most → Short m (runs i)
  pub different : (i j : ℕ) → i < j → j ≤ most → reach m (runs i) ≡ reach m (runs j) → ⊥

-- No run shows a difference.
pub record Same (m : Comparison) : Type 0 where
  pub none_shows : (r : Run) → Input m r → shows m r ≡ false
