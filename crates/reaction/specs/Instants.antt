-- One instant on the caller's bytes, with and without a log: the whole answer and every lent byte. Assumes nothing.
use Rattle.std.specs.Prelude.{Bool, false, cond, List, ℕ, ◌+◌}
use Rattle.sets.specs.Numbers.{count}
use Rattle.sets.specs.Words.{bits, word}
use Rattle.rules.specs.Statements.{Block}
use Rattle.rules.specs.Events.{present, absent, Hearing, all_heard}
use Rattle.rules.specs.States.{active_of}
use Rattle.rules.specs.Rounds.{outputs_with, undecided, Answer, answered, not_constructive, react}
use Rattle.block.specs.Format.{Good}
use Rattle.records.specs.StateRecord.{version_in, statements_in, state_record, Pair}
use Rattle.records.specs.LogRecord.{log_size, no_room, logged_at}
use Rattle.reaction.specs.declared.Given.{Given}
use Rattle.reaction.specs.declared.Given.TheVariants.{All, Two}
use Rattle.reaction.specs.Fronts.{Front, stopped, clashing, ready, front}

-- The numbers given back besides those of the tests before the rules.
abbrev pub CLASH : ℕ
CLASH = 10

abbrev pub ROOM : ℕ
ROOM = 12

abbrev pub NOT_CONSTRUCTIVE : ℕ
NOT_CONSTRUCTIVE = 13

-- The block that the rules speak of.
abbrev pub block_of : Good → Block
block_of g = record { inputs = g.header.inputs; outputs = g.header.outputs; body = g.body }

-- What is heard of a block's inputs: of one set, that its inputs are present and the other ones absent; of two, that those of the first are present
-- and those of the second absent, and of the rest nothing.
abbrev pub heard_in : Block → Given → Hearing
heard_in b (All set) = all_heard b (bits set)
heard_in b (Two p a) = record { heard_present = bits p; heard_absent = bits a }

abbrev pub heard_of : Good → Given → Hearing
heard_of g given = heard_in (block_of g) given

-- What an instant comes to: turned down with a number and a place, a clash with its pair, or the rules' reaction.
pub data Verdict : Type 0 where
  refused : ℕ → ℕ → Verdict
  clash : Pair → Verdict
  reacted : Block → Answer → Verdict

-- After the tests: 12 where a log without room is lent; then the reaction.
unfoldable pub goes_on : Given → Bool → Front → Verdict
goes_on given roomless (stopped n at) = refused n at
goes_on given roomless (clashing pair) = clash pair
goes_on given roomless (ready g st) = cond roomless (refused ROOM 0) (reacted (block_of g) (react (block_of g) st (heard_of g given)))

-- All in their order: the block's 1 to 8, then 9, 17, 10, 11, and 12; then the reaction.
unfoldable pub verdict : List ℕ → List ℕ → Given → Bool → Verdict
verdict b s given roomless = goes_on given roomless (front b s given)

-- Every field of an answer; all fields not named are 0.
pub record Told : Type 0 where
  pub number : ℕ
  pub place : ℕ
  pub first : ℕ
  pub second : ℕ
  pub present_outputs : ℕ
  pub absent_outputs : ℕ
  pub undecided_outputs : ℕ
  pub rounds : ℕ
  pub code : ℕ
  pub active : ℕ

abbrev pub told_refusal : ℕ → ℕ → ℕ → ℕ → Told
told_refusal n at m k = record {
  number = n;
  place = at;
  first = m;
  second = k;
  present_outputs = 0;
  absent_outputs = 0;
  undecided_outputs = 0;
  rounds = 0;
  code = 0;
  active = 0;
}

abbrev pub told_reaction : Block → Answer → Told
told_reaction b (answered outs c st r) = record {
  number = 0;
  place = 0;
  first = 0;
  second = 0;
  present_outputs = word 64 (outputs_with present b outs);
  absent_outputs = 0;
  undecided_outputs = 0;
  rounds = r;
  code = c;
  active = count 128 (active_of st);
}
told_reaction b (not_constructive outs r) = record {
  number = NOT_CONSTRUCTIVE;
  place = 0;
  first = 0;
  second = 0;
  present_outputs = word 64 (outputs_with present b outs);
  absent_outputs = word 64 (outputs_with absent b outs);
  undecided_outputs = undecided outs;
  rounds = r;
  code = 0;
  active = 0;
}

unfoldable pub told : Verdict → Told
told (refused n at) = told_refusal n at 0 0
told (clash pair) = told_refusal CLASH 0 pair.first pair.second
told (reacted b a) = told_reaction b a

-- The state's bytes afterwards: an answered instant writes the next state, which names the same block; anything else leaves every byte.
abbrev pub state_by : List ℕ → Answer → List ℕ
state_by s (answered outs c st r) = state_record (version_in s) (statements_in s) st
state_by s (not_constructive outs r) = s

unfoldable pub state_after : List ℕ → Verdict → List ℕ
state_after s (refused n at) = s
state_after s (clash pair) = s
state_after s (reacted b a) = state_by s a

-- The log's bytes and its end afterwards; a refusal leaves every byte and gives end 0.
abbrev pub log_by : List ℕ → ℕ → Given → Block → Answer → List ℕ
log_by log end given b (answered outs c st r) =
    logged_at log end (record {
      inputs_present = word 64 (heard_in b given).heard_present;
      inputs_absent = word 64 (heard_in b given).heard_absent;
      outputs_present = word 64 (outputs_with present b outs);
      code = c;
      rounds = r;
    })
log_by log end given b (not_constructive outs r) = log

unfoldable pub log_after : List ℕ → ℕ → Given → Verdict → List ℕ
log_after log end given (refused n at) = log
log_after log end given (clash pair) = log
log_after log end given (reacted b a) = log_by log end given b a

abbrev pub end_by : ℕ → Answer → ℕ
end_by end (answered outs c st r) = end + log_size
end_by end (not_constructive outs r) = 0

unfoldable pub end_after : ℕ → Verdict → ℕ
end_after end (refused n at) = 0
end_after end (clash pair) = 0
end_after end (reacted b a) = end_by end a

-- The instant with one input set, without a log and with one;
abbrev pub instant_verdict : List ℕ → List ℕ → ℕ → Verdict
instant_verdict b s set = verdict b s (All set) false

abbrev pub logged_verdict : List ℕ → List ℕ → ℕ → List ℕ → ℕ → Verdict
logged_verdict b s set log end = verdict b s (All set) (no_room log end)

-- and with the inputs present and the inputs absent.
abbrev pub heard_verdict : List ℕ → List ℕ → ℕ → ℕ → Verdict
heard_verdict b s p a = verdict b s (Two p a) false

abbrev pub heard_logged_verdict : List ℕ → List ℕ → ℕ → ℕ → List ℕ → ℕ → Verdict
heard_logged_verdict b s p a log end = verdict b s (Two p a) (no_room log end)
