-- Whether two blocks are told alike, over the calls: what is promised of each answer of `alike`, and the tests of the call in their order. Assumes nothing.
use Rattle.std.specs.Prelude.{◌≡◌, ◌⊎◌, ◌≢◌, List, [], ◌∷◌, ◌++◌, map, ℕ, ◌<◌, length, take, drop}
use Rattle.refusals.specs.Refusals.{number}
use Rattle.block.specs.Format.{Good, good, reading}
use Rattle.reaction.specs.declared.Given.TheVariants.{All}
use Rattle.foldheron.specs.Answers.{Instant}
use Rattle.reaction.specs.Instants.{ROOM, block_of}
use Rattle.pairs.specs.Runs.{Over}
use Rattle.pairs.specs.Blocks.{comparison}
use Rattle.alike.specs.Ends.{most}
use Rattle.alike.specs.Calls.{INTERFACE, WIDE, PAIRS}
use Rattle.foldheron.specs.Answers.{Likeness}
use Rattle.alike.specs.declared.NotCompared.TheVariants as told
use Rattle.std.specs.Prelude.{Ok, Err, Some, None}
use Rattle.promises.specs.Tests.{Test}
use Rattle.promises.specs.FirstRecord.{Decides}
use Rattle.promises.specs.Demand1.{block_tests}
use Rattle.promises.specs.Beside.{Ran, Each, ButTheLast, Agree}

-- Under a run of input sets both blocks, called from fresh, agree in every instant;
abbrev pub AgreeUnder : (first second ws : List ℕ) → Type 0
AgreeUnder first second ws = (rs rs' : List Instant) → Ran first (map All ws) rs → Ran second (map All ws) rs' → Each Agree rs rs'

-- or they agree in every instant but the last, and not in the last.
abbrev pub PartUnder : (first second ws : List ℕ) → Type 0
PartUnder first second ws = (rs rs' : List Instant) → Ran first (map All ws) rs → Ran second (map All ws) rs' → ButTheLast Agree rs rs'

-- Numeric order of runs of one length: by the first set, and where that is the same by those after it.
abbrev pub Before : List ℕ → List ℕ → Type 0
Before [] ws = ⊥
Before (v ∷ vs) [] = ⊥
Before (v ∷ vs) (w ∷ ws) = (v < w) ⊎ ((v ≡ w) × Before vs ws)

-- The run shows a difference, in its last instant; no shorter run shows one, nor one of its length that is before it.
pub record FirstDifference (first second ws : List ℕ) : Type 0 where
  pub shown : PartUnder first second ws
  pub none_shorter : (vs : List ℕ) → length vs < length ws → AgreeUnder first second vs
  pub none_before : (vs : List ℕ) → length vs ≡ length ws → Before vs ws → AgreeUnder first second vs

-- What is promised of an answer, and of the lent bytes. Alike: under every run, whatever its sets; an undeclared one is told 11 by both, which keeps their states.
-- Different: the first n bytes are now the run, one byte a set, and those behind them stay.
abbrev pub TrueLikeness : (first second run : List ℕ) → Likeness → List ℕ → Type 0
TrueLikeness first second run (Ok None) run' = ((ws : List ℕ) → AgreeUnder first second ws) × (run' ≡ run)
TrueLikeness first second run (Ok (Some n)) run' = FirstDifference first second (take n run') × (length (take n run') ≡ n) × (drop n run' ≡ drop n run)
TrueLikeness first second run (Err (told.First r)) run' = Decides first (number r.why) r.place × (run' ≡ run)
TrueLikeness first second run (Err (told.Second r)) run' = ((g : Good) × (reading first ≡ good g)) × Decides second (number r.why) r.place × (run' ≡ run)
TrueLikeness first second run (Err (told.Both w)) run' = run' ≡ run

-- The number of an answer, 0 where it is no refusal.
abbrev pub likeness_number : Likeness → ℕ
likeness_number (Ok None) = 0
likeness_number (Ok (Some n)) = 0
likeness_number (Err (told.First r)) = number r.why
likeness_number (Err (told.Second r)) = number r.why
likeness_number (Err (told.Both w)) = number w

-- Two good blocks of these bytes.
pub record BothGood (first second : List ℕ) : Type 0 where
  pub one : Good
  pub other : Good
  pub one_read : reading first ≡ good one
  pub other_read : reading second ≡ good other

-- 23 INTERFACE: another number of inputs, or of outputs.
pub record OtherInterface (first second : List ℕ) : Type 0 where
  pub both : BothGood first second
  pub differs : (both.one.header.inputs ≢ both.other.header.inputs) ⊎ (both.one.header.outputs ≢ both.other.header.outputs)

-- 24 WIDE: over 6 inputs.
pub record TooWide (first : List ℕ) : Type 0 where
  pub block : Good
  pub is_good : reading first ≡ good block
  pub over : 6 < block.header.inputs

-- 25 PAIRS: runs shorter than a shortest showing one (all runs, if none shows) reach over 1,024 different pairs of states.
pub record TooManyPairs (first second : List ℕ) : Type 0 where
  pub both : BothGood first second
  pub over : Over most (comparison (block_of both.one) (block_of both.other))

-- The tests in the written order: 1 to 8 for the first block, then the second, 23, 24, 12 for fewer than 1,024 lent bytes, 25.
abbrev pub alike_tests : (first second run : List ℕ) → List Test
alike_tests first second run =
    block_tests first
    ++ (block_tests second
    ++ record { number = INTERFACE; Applies = OtherInterface first second }
    ∷ record { number = WIDE; Applies = TooWide first }
    ∷ record { number = ROOM; Applies = length run < most }
    ∷ record { number = PAIRS; Applies = TooManyPairs first second }
    ∷ [])
