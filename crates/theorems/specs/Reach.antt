-- The statuses that come about when any part of the outputs is settled at a time. Rounds settle all that they can. Assumes nothing.
use Rattle.std.specs.Prelude.{◌≡◌, ◌⊎◌, List, ℕ, suc, ◌≤◌, ◌<◌, length, get_or}
use Rattle.rules.specs.Statements.{Block}
use Rattle.rules.specs.Events.{Status, unknown, Hearing}
use Rattle.rules.specs.Instant.{Step}
use Rattle.rules.specs.States.{State, step}
use Rattle.rules.specs.Rounds.{round, begin, Rounds, final_of}

-- Each output keeps its status or gets the one that a round gives it: present if in must, absent if not in can under plus.
pub record Settling (b : Block) (p : Step) (heard : Hearing) (vs ws : List Status) : Type 0 where
  pub same_length : length ws ≡ length vs
  pub each : (i : ℕ) → i < length vs → (get_or ws i unknown ≡ get_or vs i unknown) ⊎ (get_or ws i unknown ≡ get_or (round b p heard vs) i unknown)

-- From all outputs unknown.
pub data Reached (b : Block) (p : Step) (heard : Hearing) : List Status → Type 0 where
  at_first : Reached b p heard (begin b)
  settling : {vs ws : List Status} → Reached b p heard vs → Settling b p heard vs ws → Reached b p heard ws

-- The rounds of an instant end, and `final_of` computes where: at least 1 of them, at most outputs plus 1, and the last is the first
-- that changes nothing.
pub record Final (b : Block) (st : State) (heard : Hearing) : Type 0 where
  pub ends : Rounds b (step b.body st) heard (begin b) (final_of b st heard).rounds (final_of b st heard).statuses
  pub at_least : 1 ≤ (final_of b st heard).rounds
  pub at_most : (final_of b st heard).rounds ≤ suc b.outputs
