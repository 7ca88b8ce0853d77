-- What an answer given with unknown inputs promises. Assumes nothing.
use Rattle.std.specs.Prelude.{◌≡◌, List, ℕ}
use Rattle.rules.specs.Events.{Status}
use Rattle.rules.specs.States.{State}
use Rattle.rules.specs.Rounds.{Answer, answered, not_constructive}

-- An answer with these outputs, this code and this next state; its rounds may differ.
unfoldable pub SameButRounds : List Status → ℕ → State → Answer → Type 0
SameButRounds vs c st (answered ws d st' n) = (ws ≡ vs) × (d ≡ c) × (st' ≡ st)
SameButRounds vs c st (not_constructive ws n) = ⊥
