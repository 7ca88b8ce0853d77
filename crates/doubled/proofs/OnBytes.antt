-- The claim on bytes: what is written reads back good, as the doubled block with its header, and from fresh any run of it and of the block
-- that was read is the same; over a limit the reading is 4. By what a good reading gives, and by reading back what was written. Assumes nothing.
use mathlib.Core.Path.{◌≡◌, refl, sym, ap, ◌∙◌, subst}
use mathlib.Core.Bool.{Bool, true, false, cond}
use mathlib.Core.List.{List, map}
use Prim.Native.Nat.{ℕ}
use native.Mathlib.Omega.{arith}
use lib.Dec.{T}
use Rattle.sets.proofs.Members.{of_true, of_false}
use Rattle.rules.specs.States.{fresh}
use Rattle.theorems.specs.Traces.{InputSet, run}
use Rattle.block.specs.Format.{LIMIT, Good, good, turned_down, reading}
use Rattle.block.proofs.GoodReadings.{sound}
use Rattle.likeness.specs.Runs.{SameRun}
use Rattle.likeness.proofs.Runs.{heard_there}
use Rattle.records.specs.Numerals.{Bytes}
use Rattle.writing.specs.Answers.{Writing, writes, refuses}
use Rattle.writing.specs.Written.{block_bytes, written}
use Rattle.writing.proofs.Same.{good_writable}
use Rattle.writing.proofs.Back.{read_back, read_over}
use Rattle.doubled.specs.Copies.{doubled, doubled_header, within_limits, doubled_writing, doubling, doubling_of}
use Rattle.doubled.proofs.Runs.{Sane, block_of, doubled_orderly, doubled_writable, writable_within, from_fresh_any_run_is_the_same}

-- What is written for a good block.
writes_limit : {P : Type 0} {bs : List ℕ} → refuses LIMIT 0 ≡ writes bs → P
writes_limit e = let z : ◌≡◌ {A = ℕ} 0 1 = cc in absurd (omega arith)

written_is : (z : Bool) (bs cs : List ℕ) → cond z (writes cs) (refuses LIMIT 0) ≡ writes bs → (z ≡ true) × (cs ≡ bs)
written_is true bs cs e = (refl, cc)
written_is false bs cs e = writes_limit e

module _ (b : List ℕ) (bytes : Bytes b) (g : Good) (read : reading b ≡ good g) where
  pub sane : Sane g.header g.body
  sane = record { writable = good_writable b bytes g read; apart = (sound b g read).locals_apart }

  -- From fresh, any run of the block and of its doubled block is the same: final statuses, codes, rounds and NOT CONSTRUCTIVE.
  pub runs_are_the_same : (givens : List (InputSet (block_of g.header g.body)))
      → SameRun (run (block_of g.header g.body) fresh givens)
      (run (block_of g.header (doubled g.header g.body)) fresh (map (heard_there (block_of g.header g.body) (doubled g.header g.body)) givens))
  runs_are_the_same = from_fresh_any_run_is_the_same g.header g.body sane

  -- Where the doubled block passes a limit, reading its bytes gives 4.
  pub over_a_limit_reads_4 : within_limits (doubled_header g.header g.body) (doubled g.header g.body) ≡ false
      → (at : ℕ) × (reading (block_bytes (doubled_header g.header g.body) (doubled g.header g.body)) ≡ turned_down LIMIT at)
  over_a_limit_reads_4 e =
      read_over (doubled_header g.header g.body) (doubled g.header g.body) (doubled_orderly g.header g.body sane)
      (λ w. of_false e (writable_within g.header g.body sane w))

  module _ (bs : List ℕ) (w : doubling b ≡ writes bs) where
    its_writing : (within_limits (doubled_header g.header g.body) (doubled g.header g.body) ≡ true)
        × (block_bytes (doubled_header g.header g.body) (doubled g.header g.body) ≡ bs)
    unfolding doubling doubling_of doubled_writing
    its_writing = written_is _ bs _ (sym (ap doubling_of read) ∙ w)

    -- What was written reads back good, as the doubled block.
    pub reads_back_good : reading bs ≡ good (written (doubled_header g.header g.body) (doubled g.header g.body))
    reads_back_good =
        subst (λ (x : List ℕ). reading x ≡ good (written (doubled_header g.header g.body) (doubled g.header g.body))) its_writing.1
        (read_back (doubled_header g.header g.body) (doubled g.header g.body) (doubled_writable g.header g.body sane (of_true its_writing.0)))
