-- How the code's answer and the words beside it stand for what an instant comes to, and what it finds before the rules for what the tests come to. Assumes nothing.
use Rattle.std.specs.Prelude.{◌≡◌, List, ℕ, Result, Ok, Err, IfOk}
use Rattle.refusals.specs.Refusals.{number}
use Rattle.refusals.specs.declared.Why.{Why}
use Rattle.sets.specs.Words.{word, set_of}
use Rattle.rules.specs.States.{State, active_of}
use Rattle.rules.specs.Rounds.{answered, not_constructive}
use Rattle.tables.specs.Table.{Has}
use Rattle.tables.specs.declared.Table.{Table}
use Rattle.block.specs.Format.{Good, good, reading}
use Rattle.block.specs.Told.{summary_of, Full}
use Rattle.block.specs.declared.whole.Summary.{Summary}
use Rattle.records.specs.StateRecord.{state_record}
use Rattle.records.specs.Held.{phase_number, state_bytes}
use Rattle.records.specs.declared.state.Phase.{Phase}
use Rattle.evaluate.specs.Reacts.{state_of}
use Rattle.reaction.specs.declared.Reaction.{Reaction}
use Rattle.reaction.specs.declared.Unanswered.{Unanswered}
use Rattle.reaction.specs.declared.Unanswered.TheVariants.{Refused, Clash, NotConstructive}
use Rattle.reaction.specs.declared.Stopped.{Stopped}
use Rattle.reaction.specs.declared.Stopped.TheVariants as stopped
use Rattle.reaction.specs.declared.Grounds.{Grounds}
use Rattle.reaction.specs.declared.Outcome.{Outcome}
use Rattle.reaction.specs.Answers.{instant_told}
use Rattle.reaction.specs.Fronts as fronts
use Rattle.reaction.specs.Fronts.{Front}
use Rattle.reaction.specs.Instants.{Verdict, refused, clash, reacted, heard_in, told}
use Rattle.reaction.specs.declared.Given.{Given}

-- The answer, without what stands beside it.
abbrev pub answer_in : Result Outcome Unanswered → Result Reaction Unanswered
answer_in (Ok o) = Ok o.reaction
answer_in (Err u) = Err u

-- Where the instant is answered, the phase and the two words make the next state's record, whatever block it names.
unfoldable pub Writes : Verdict → Result Outcome Unanswered → Type 0
Writes (refused n at) a = Unit {0}
Writes (clash pair) a = Unit {0}
Writes (reacted b (answered outs c st r)) a = IfOk a (λ o. (v n : ℕ) → state_bytes v n (phase_number o.phase) o.kept ≡ state_record v n st)
Writes (reacted b (not_constructive outs r)) a = Unit {0}

-- And the two sets beside it are the inputs heard present and the inputs heard absent.
unfoldable pub Hears : Given → Verdict → Result Outcome Unanswered → Type 0
Hears given (refused n at) a = Unit {0}
Hears given (clash pair) a = Unit {0}
Hears given (reacted b (answered outs c st r)) a =
    IfOk a (λ o. (o.heard.present ≡ word 64 (heard_in b given).heard_present) × (o.heard.absent ≡ word 64 (heard_in b given).heard_absent))
Hears given (reacted b (not_constructive outs r)) a = Unit {0}

-- Which of the four cases it is.
unfoldable pub case_of : Result Reaction Unanswered → ℕ
case_of (Err (Refused r)) = 0
case_of (Err (Clash m n)) = 1
case_of (Ok r) = 2
case_of (Err (NotConstructive d)) = 3

unfoldable pub case_for : Verdict → ℕ
case_for (refused n at) = 0
case_for (clash pair) = 1
case_for (reacted b (answered outs c st r)) = 2
case_for (reacted b (not_constructive outs r)) = 3

pub record Comes (given : Given) (v : Verdict) (a : Result Outcome Unanswered) : Type 0 where
  pub same_case : case_of (answer_in a) ≡ case_for v
  pub told_is : instant_told (answer_in a) ≡ told v
  pub writes : Writes v a
  pub hears : Hears given v a

-- A block was read: its tree stands in the table, and the summary is the reading's.
pub record Opened (tab : Table) (s : Summary) (g : Good) : Type 0 where
  pub bytes : List ℕ
  pub its_reading : reading bytes ≡ good g
  pub stands : Has tab 0 g.body
  pub summed : s ≡ summary_of g

-- The state that a phase and two words stand for.
pub record Begins (st : State) (phase : Phase) (set : List ℕ) : Type 0 where
  pub state_is : st ≡ state_of phase (set_of set)
  pub set_is : set_of set ≡ active_of st

-- All tests are passed: the block stands in the table, and the phase and the active pauses are the state's.
pub record Passed (g : Good) (st : State) (tab : Table) (r : Result Grounds Stopped) : Type 0 where
  pub grounds : Grounds
  pub is_ready : r ≡ Ok grounds
  pub opened : Opened tab grounds.summary g
  pub begins : Begins st grounds.phase grounds.active

-- One of them turns the instant down, with its number and its place.
pub record Turned (n at : ℕ) (r : Result Grounds Stopped) : Type 0 where
  pub why : Why
  pub is_refused : r ≡ Err (stopped.Refused (record { why = why; place = at }))
  pub its_number : number why ≡ n

-- What the code finds is what the tests come to.
unfoldable pub Means : Front → Table → Result Grounds Stopped → Type 0
Means (fronts.stopped n at) tab r = Turned n at r
Means (fronts.clashing pair) tab r = r ≡ Err (stopped.Clash pair.first pair.second)
Means (fronts.ready g st) tab r = Passed g st tab r

pub record Meets (f : Front) (tab : Table) (r : Result Grounds Stopped) : Type 0 where
  pub means : Means f tab r

-- And the table keeps its length.
pub record Tested (f : Front) (tab : Table) (r : Result Grounds Stopped) : Type 0 where
  pub meets : Meets f tab r
  pub full : Full tab
