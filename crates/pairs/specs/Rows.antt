-- The rows that the search keeps, and how its pairs stand for pairs of states. Assumes nothing.
use Rattle.std.specs.Prelude.{◌≡◌, true, false, List, ℕ, ◌+◌, ◌^◌, ◌<◌, [], ◌∷◌, Option, None, Some, get_or, set, length}
use Rattle.sets.specs.Words.{set_of}
use Rattle.rules.specs.Statements.{Block}
use Rattle.rules.specs.States.{active_of}
use Rattle.rules.specs.Rounds.{Answer}
use Rattle.theorems.specs.Traces.{after}
use Rattle.evaluate.specs.Reacts.{state_of}
use Rattle.records.specs.declared.state.Phase.TheVariants.{Fresh}
use Rattle.pairs.specs.Blocks.{States, told_alike, both_after, told_apart}
use Rattle.pairs.specs.declared.rows.Pair.{Pair}
use Rattle.pairs.specs.declared.rows.Rows.{Rows}

-- The pair of two fresh blocks.
abbrev pub both_fresh : Pair
both_fresh = record { phase = Fresh; first = 0 ∷ 0 ∷ []; second = 0 ∷ 0 ∷ [] }

-- What stands past the rows.
abbrev pub no_pair : Pair
no_pair = record { phase = Fresh; first = []; second = [] }

-- The pair of row k.
abbrev pub row_at : Rows → ℕ → Pair
row_at rows k = get_or rows.pairs k no_pair

-- A pair has none of the first so many rows.
abbrev pub NotAmong : Rows → ℕ → Pair → Type 0
NotAmong rows n p = (k : ℕ) → k < n → row_at rows k ≡ p → ⊥

-- A pair's first row is found, or it has none.
unfoldable pub Finds : Rows → Pair → Option ℕ → Type 0
Finds rows p None = NotAmong rows rows.count p
Finds rows p (Some k) = (k < rows.count) × (row_at rows k ≡ p) × NotAmong rows k p

-- A pair gets the next row.
pub record Pushed (rows : Rows) (p : Pair) (rows' : Rows) : Type 0 where
  pub new_pairs : rows'.pairs ≡ set rows.pairs rows.count p
  pub new_count : rows'.count ≡ rows.count + 1

-- Two words as an array of them: they fit their type.
pub record Words (a : List ℕ) : Type 0 where
  pub two : length a ≡ 2
  pub low_fits : get_or a 0 0 < 2 ^ 64
  pub high_fits : get_or a 1 0 < 2 ^ 64

-- A pair stands for two states.
pub record Holds (x : States) (p : Pair) : Type 0 where
  pub first_is : x.of_first ≡ state_of p.phase (set_of p.first)
  pub second_is : x.of_second ≡ state_of p.phase (set_of p.second)
  pub first_active : active_of x.of_first ≡ set_of p.first
  pub second_active : active_of x.of_second ≡ set_of p.second
  pub first_words : Words p.first
  pub second_words : Words p.second

-- Two answers from a pair: they are told apart, or both go on to a pair.
unfoldable pub Told : Block → Block → Pair → Answer → Answer → Option Pair → Type 0
Told b d p a c None = told_alike b a d c ≡ false
Told b d p a c (Some q) = (told_alike b a d c ≡ true) × ((x : States) → Holds x p → Holds (record { of_first = after x.of_first a; of_second = after x.of_second c }) q)

-- One step of both blocks from a pair: they are told apart, or both go on.
unfoldable pub Stepped : Block → Block → Pair → ℕ → Option Pair → Type 0
Stepped b d p set None = (x : States) → Holds x p → told_apart b d x set ≡ true
Stepped b d p set (Some q) = (x : States) → Holds x p → (told_apart b d x set ≡ false) × Holds (both_after b d x set) q
