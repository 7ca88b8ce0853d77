-- What is answered to a question about an instant, on the caller's bytes: the tests before the rules in their written order, then the reason, or QUESTION where the
-- thing asked about is not so. Assumes nothing.
use Rattle.std.specs.Prelude.{List, [], ◌∷◌, ℕ, Ok, Err}
use Rattle.std.proofs.Math.Option.{Option, none, some}
use Rattle.refusals.specs.Refusals.{number}
use Rattle.rules.specs.States.{State}
use Rattle.rules.specs.Reasons.{Asked, reason_of}
use Rattle.block.specs.Format.{Good}
use Rattle.reaction.specs.Fronts.{Front, stopped, clashing, ready, front}
use Rattle.reaction.specs.Instants.{CLASH, block_of, heard_of}
use Rattle.reaction.specs.declared.Given.TheVariants.{Two}
use Rattle.reaction.specs.declared.Stopped.TheVariants.{Clash, Refused}
use Rattle.foldheron.specs.Answers.{Reason}

abbrev pub QUESTION : ℕ
QUESTION = 16

-- An answer: number and place, the pair of a clash, and the statement that is named.
unfoldable pub reason_values : Reason → List ℕ
reason_values (Ok n) = 0 ∷ 0 ∷ 0 ∷ 0 ∷ n ∷ []
reason_values (Err (Clash m n)) = CLASH ∷ 0 ∷ m ∷ n ∷ 0 ∷ []
reason_values (Err (Refused r)) = number r.why ∷ r.place ∷ 0 ∷ 0 ∷ 0 ∷ []

-- The statement that is the reason; none, where the thing asked about is not so.
unfoldable pub named_owed : Option ℕ → List ℕ
named_owed (some n) = 0 ∷ 0 ∷ 0 ∷ 0 ∷ n ∷ []
named_owed none = QUESTION ∷ 0 ∷ 0 ∷ 0 ∷ 0 ∷ []

-- 1 to 8, then 9, 17, 10 with its pair, and 11; where all are passed, what is said of the block and the state that were found.
unfoldable pub past_tests : Front → (Good → State → Option ℕ) → List ℕ
past_tests (stopped n at) said = n ∷ at ∷ 0 ∷ 0 ∷ 0 ∷ []
past_tests (clashing pair) said = CLASH ∷ 0 ∷ pair.first ∷ pair.second ∷ 0 ∷ []
past_tests (ready g st) said = named_owed (said g st)

-- The answer owed, for a block's bytes, a state's bytes, the inputs present and the inputs absent.
abbrev pub reason_owed : List ℕ → List ℕ → ℕ → ℕ → Asked → List ℕ
reason_owed b s p a asked = past_tests (front b s (Two p a)) (λ g st. reason_of (block_of g) st (heard_of g (Two p a)) asked)
