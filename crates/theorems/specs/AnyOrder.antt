-- Settling one justified output at a time, in any order until none is left. Assumes nothing.
use Rattle.std.specs.Prelude.{◌≡◌, ◌↔◌, List, ℕ, suc, ◌+◌, ◌<◌, T, length, get_or, set}
use Rattle.rules.specs.Statements.{Block}
use Rattle.rules.specs.Events.{Status, present, absent, unknown, event, Hearing}
use Rattle.rules.specs.Instant.{Step}
use Rattle.rules.specs.MustCan.{plus, must, can, gives}
use Rattle.rules.specs.States.{State, step}
use Rattle.rules.specs.Rounds.{final_of, undecided}

-- Settling the undecided output i is justified: present if in must, absent if not in can under plus, at the statuses of that moment.
pub data Justifies (b : Block) (p : Step) (heard : Hearing) (vs : List Status) : ℕ → Status → Type 0 where
  in_must : {i : ℕ} → i < length vs → get_or vs i unknown ≡ unknown
      → T ((gives must p (event b heard vs)).signals (b.inputs + i)) → Justifies b p heard vs i present
  not_in_can : {i : ℕ} → i < length vs → get_or vs i unknown ≡ unknown
      → (T ((gives (can plus) p (event b heard vs)).signals (b.inputs + i)) → ⊥) → Justifies b p heard vs i absent

-- An order of settling, from these statuses on: n justified outputs, one at a time, and the statuses that they lead to.
pub data Order (b : Block) (p : Step) (heard : Hearing) (from : List Status) : ℕ → List Status → Type 0 where
  none_yet : Order b p heard from 0 from
  one_more : {n i : ℕ} {vs : List Status} {v : Status} → Order b p heard from n vs → Justifies b p heard vs i v
      → Order b p heard from (suc n) (set vs i v)

-- No output is left whose settling is justified.
abbrev pub NoneLeft : Block → Step → Hearing → List Status → Type 0
NoneLeft b p heard vs = (i : ℕ) (v : Status) → Justifies b p heard vs i v → ⊥

-- Some output is left.
pub record OneLeft (b : Block) (p : Step) (heard : Hearing) (vs : List Status) : Type 0 where
  pub output : ℕ
  pub status : Status
  pub justified : Justifies b p heard vs output status

-- Where an order ends, after n steps: the statuses of the rounds, the same code where there is one and none where there is none, and a
-- step for each output that is decided.
pub record EndsAsRounds (b : Block) (st : State) (heard : Hearing) (n : ℕ) (vs : List Status) : Type 0 where
  pub same_statuses : vs ≡ (final_of b st heard).statuses
  pub same_code : (c : ℕ) → T ((gives must (step b.body st) (event b heard vs)).codes c)
      ↔ T ((gives must (step b.body st) (event b heard (final_of b st heard).statuses)).codes c)
  pub a_step_each : n + undecided vs ≡ b.outputs

-- An order can be gone on with until none is left: so many further steps, to these statuses.
pub record GoesOn (b : Block) (p : Step) (heard : Hearing) (vs : List Status) : Type 0 where
  pub steps : ℕ
  pub end : List Status
  pub further : Order b p heard vs steps end
  pub none_left : NoneLeft b p heard end
