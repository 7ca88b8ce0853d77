-- Two blocks that answer the same, instant for instant. Assumes nothing.
use Rattle.std.specs.Prelude.{List, [], ◌∷◌, ℕ}
use Rattle.sets.specs.Numbers.{Numbers}
use Rattle.rules.specs.Statements.{Block}
use Rattle.rules.specs.Events.{Status}
use Rattle.rules.specs.States.{State, fresh, running, finished}
use Rattle.rules.specs.Rounds.{Answer, answered, not_constructive}

-- The same final statuses, the same code and the same number of rounds, or both NOT CONSTRUCTIVE with the same. The next states are the
-- blocks' own and not compared.
pub data SameAnswer : Answer → Answer → Type 0 where
  both_answered : {vs : List Status} {c n : ℕ} {st st' : State} → SameAnswer (answered vs c st n) (answered vs c st' n)
  both_refused : {vs : List Status} {n : ℕ} → SameAnswer (not_constructive vs n) (not_constructive vs n)

-- The same answers, one by one.
pub data SameRun : List Answer → List Answer → Type 0 where
  at_end : SameRun [] []
  and_then : {a a' : Answer} {more more' : List Answer} → SameAnswer a a' → SameRun more more' → SameRun (a ∷ more) (a' ∷ more')

-- The states are in the same phase, with related sets of active pauses.
pub data SamePhase (R : Numbers → Numbers → Type 0) : State → State → Type 0 where
  both_fresh : SamePhase R fresh fresh
  both_running : {A A' : Numbers} → R A A' → SamePhase R (running A) (running A')
  both_finished : SamePhase R finished finished
