-- Two blocks under every input run, in the words of Ticket 10. Assumes nothing.
use Rattle.std.specs.Prelude.{Bool, true, false, not, ◌&&◌, ℕ, ◌^◌, eqb}
use Rattle.sets.specs.Words.{bits, word}
use Rattle.rules.specs.Statements.{Block}
use Rattle.rules.specs.Events.{present, all_heard}
use Rattle.rules.specs.States.{State, fresh}
use Rattle.rules.specs.Rounds.{outputs_with, Answer, answered, not_constructive, react}
use Rattle.theorems.specs.Traces.{after}
use Rattle.pairs.specs.Runs.{Comparison}

-- Two instants are told alike: both are 13, or both are answered with the same outputs present and the same code. Rounds are not compared, nor
-- what a 13 reports beside its number.
unfoldable pub told_alike : Block → Answer → Block → Answer → Bool
told_alike b (answered outs c st n) d (answered pres e su k) =
    eqb (word 64 (outputs_with present b outs)) (word 64 (outputs_with present d pres)) && eqb c e
told_alike b (answered outs c st n) d (not_constructive pres k) = false
told_alike b (not_constructive outs n) d (answered pres e su k) = false
told_alike b (not_constructive outs n) d (not_constructive pres k) = true

-- What a block answers from a state to an input set.
abbrev pub says : Block → State → ℕ → Answer
says b st set = react b st (all_heard b (bits set))

-- The states of the two blocks.
pub record States : Type 0 where
  pub of_first : State
  pub of_second : State

-- Both go on: an answered instant gives the next state, and after a 13 the state is kept.
unfoldable pub both_after : Block → Block → States → ℕ → States
both_after b d x set = record {
  of_first = after x.of_first (says b x.of_first set);
  of_second = after x.of_second (says d x.of_second set);
}

unfoldable pub told_apart : Block → Block → States → ℕ → Bool
told_apart b d x set = not (told_alike b (says b x.of_first set) d (says d x.of_second set))

-- From fresh, under the sets of the declared inputs.
abbrev pub comparison : Block → Block → Comparison
comparison b d = record {
  Pairs = States;
  first_pair = record { of_first = fresh; of_second = fresh };
  leads = both_after b d;
  differs = told_apart b d;
  sets = 2 ^ b.inputs;
}
