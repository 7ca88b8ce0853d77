-- A run of a block from fresh, as a caller makes it, and the answers of two runs side by side. Assumes nothing.
use Rattle.std.specs.Prelude.{◌≡◌, List, [], ◌∷◌, ℕ}
use Rattle.std.specs.Prelude.{Ok}
use Rattle.reaction.specs.declared.Given.{Given}
use Rattle.foldheron.specs.Answers.{Instant}
use Rattle.reaction.specs.Instants.{Told}
use Rattle.reaction.specs.Answers.{instant_told}
use Rattle.promises.specs.Calls.{FreshCalled, Calls}

-- `fresh` wrote a state for the block b, and calls of `instant` and `instant_heard` for these inputs, each on the state's bytes that the call before left, gave these answers.
pub record Ran (b : List ℕ) (ws : List Given) (rs : List Instant) : Type 0 where
  pub lent : List ℕ
  pub begun : List ℕ
  pub left : List ℕ
  pub fresh_called : FreshCalled b lent (Ok tt) begun
  pub instants_called : Calls b begun ws rs left

-- In every instant the two answers are as R says.
pub data Each (R : Told → Told → Type 0) : List Instant → List Instant → Type 0 where
  at_end : Each R [] []
  and_then : {r r' : Instant} {rs rs' : List Instant} → R (instant_told r) (instant_told r') → Each R rs rs' → Each R (r ∷ rs) (r' ∷ rs')

-- In every instant but the last they are, and in the last they are not.
pub data ButTheLast (R : Told → Told → Type 0) : List Instant → List Instant → Type 0 where
  the_last : {r r' : Instant} → (R (instant_told r) (instant_told r') → ⊥) → ButTheLast R (r ∷ []) (r' ∷ [])
  and_then : {r r' : Instant} {rs rs' : List Instant} → R (instant_told r) (instant_told r') → ButTheLast R rs rs' → ButTheLast R (r ∷ rs) (r' ∷ rs')

-- The same number, so the same 13, and where both are answered the same outputs and the same code. Rounds are not compared, nor what a 13 reports beside its number.
pub record Agree (t t' : Told) : Type 0 where
  pub same_number : t.number ≡ t'.number
  pub same_outputs : t.number ≡ 0 → t.present_outputs ≡ t'.present_outputs
  pub same_code : t.number ≡ 0 → t.code ≡ t'.code

-- The same number and place, outputs of each status, code and rounds: all but how many pauses are active.
pub record SameButActive (t t' : Told) : Type 0 where
  pub same_number : t.number ≡ t'.number
  pub same_place : t.place ≡ t'.place
  pub same_present : t.present_outputs ≡ t'.present_outputs
  pub same_absent : t.absent_outputs ≡ t'.absent_outputs
  pub same_undecided : t.undecided_outputs ≡ t'.undecided_outputs
  pub same_code : t.code ≡ t'.code
  pub same_rounds : t.rounds ≡ t'.rounds
