-- How the code's words and numbers stand for the answer to an instant. Assumes nothing.
use Rattle.std.specs.Prelude.{◌≡◌, Some, None, Bool, true, false, ◌&&◌, List, [], ◌∷◌, ℕ, zero, suc, ◌+◌, leb, ltb}
use Rattle.sets.specs.Numbers.{Numbers, count}
use Rattle.sets.specs.Words.{bits, set_of}
use Rattle.rules.specs.Statements.{Block}
use Rattle.rules.specs.Events.{Status, present, absent, Hearing}
use Rattle.rules.specs.Instant.{Step}
use Rattle.rules.specs.MustCan.{marked}
use Rattle.rules.specs.States.{State, fresh, running, finished, active_of, next}
use Rattle.rules.specs.Rounds.{round, begin, settle, outputs_with, Answer, answered, not_constructive, react, undecided}
use Rattle.tables.specs.declared.Table.{Table}
use Rattle.words.specs.declared.events.Heard.{Heard}
use Rattle.words.specs.declared.given.MustCan.{MustCan}
use Rattle.forms.specs.declared.form.Going.{Going}
use Rattle.forms.specs.declared.form.Going.TheVariants.{Started, Resumed, Idle}
use Rattle.forms.specs.declared.form.Task.{Task}
use Rattle.evaluate.specs.declared.rounds.Ended.{Ended}
use Rattle.records.specs.declared.state.Phase.{Phase}
use Rattle.records.specs.declared.state.Phase.TheVariants.{Fresh, Running, Finished}
use Rattle.evaluate.specs.declared.rounds.Done.{Done}
use Rattle.evaluate.specs.declared.rounds.Reacted.{Reacted}
use Rattle.words.specs.Words.{event_of, hearing_of}
use Rattle.forms.specs.Forms.{Live, Does}

-- The outputs' signals: n of them from i on.
abbrev pub outs_from : ℕ → ℕ → Numbers
outs_from i n k = leb i k && ltb k (i + n)

-- The statuses of n signals from s on, as the words have them.
unfoldable pub statuses : ℕ → ℕ → Heard → List Status
statuses s zero m = []
statuses s (suc n) m = event_of m s ∷ statuses (suc s) n m

abbrev pub marks_of : Block → Heard → List Status
marks_of b m = statuses b.inputs b.outputs m

-- Words that mark only signals of a set, and none both present and absent.
pub record Fine (S : Numbers) (m : Heard) : Type 0 where
  pub in_present : (k : ℕ) → bits m.present k ≡ (S k && bits m.present k)
  pub in_absent : (k : ℕ) → bits m.absent k ≡ (S k && bits m.absent k)
  pub apart : (k : ℕ) → (bits m.present k && bits m.absent k) ≡ false

-- A round's marks over the signals of a set.
pub record Marks (S : Numbers) (m : Heard) (a : MustCan) (r : Heard) : Type 0 where
  pub fine : Fine S m → Fine S r
  pub marks : (k : ℕ) → S k ≡ true → event_of r k ≡ marked (bits a.must.signals k) (bits a.can.signals k) (event_of m k)

-- The block that the code is given, by its numbers of inputs and outputs.
pub record Sized (b : Block) (i n : ℕ) : Type 0 where
  pub its_inputs : b.inputs ≡ i
  pub its_outputs : b.outputs ≡ n

-- One round, for whatever the task asks.
pub record Rounded (tab : Table) (live : List Bool) (c : Task) (i n : ℕ) (given : Heard) (m r : Heard) : Type 0 where
  pub fine : Fine (outs_from i n) m → Fine (outs_from i n) r
  pub rounds : (A : Numbers) → Live tab A live → (p : Step) → Does tab A c p → (b : Block) → Sized b i n → Fine (outs_from i n) m
      → marks_of b r ≡ round b p (hearing_of given) (marks_of b m)

-- All rounds.
pub record Ends (tab : Table) (live : List Bool) (c : Task) (i n : ℕ) (given : Heard) (r : Ended) : Type 0 where
  pub fine : Fine (outs_from i n) r.marks
  pub statuses_are : (A : Numbers) → Live tab A live → (p : Step) → Does tab A c p → (b : Block) → Sized b i n
      → marks_of b r.marks ≡ (settle b p (hearing_of given) (suc n) (begin b)).statuses
  pub rounds_are : (A : Numbers) → Live tab A live → (p : Step) → Does tab A c p → (b : Block) → Sized b i n
      → r.rounds ≡ (settle b p (hearing_of given) (suc n) (begin b)).rounds

-- The state of a phase and a set.
abbrev pub state_of : Phase → Numbers → State
state_of Fresh A = fresh
state_of Running A = running A
state_of Finished A = finished

-- How the root is taken in a phase.
abbrev pub going_by : Phase → Going
going_by Fresh = Started
going_by Running = Resumed
going_by Finished = Idle

pub record OutputsAre (b : Block) (outs : List Status) (n : ℕ) (r : Reacted) : Type 0 where
  pub present_is : bits r.marks.present ≡ outputs_with present b outs
  pub absent_is : bits r.marks.absent ≡ outputs_with absent b outs
  pub undecided_is : r.undecided ≡ undecided outs
  pub rounds_is : r.rounds ≡ n

-- What is done: the code, and the pauses that the next state keeps.
pub record DoneAs (c : ℕ) (st : State) (d : Done) : Type 0 where
  pub code_is : d.code.0 ≡ c
  pub kept_is : set_of d.kept ≡ active_of st
  pub state_is : st ≡ next c (set_of d.kept)
  pub active_is : d.active ≡ count 128 (set_of d.kept)

-- An answer, and its words and numbers: every field is settled.
pub record Answered (b : Block) (outs : List Status) (c : ℕ) (st : State) (n : ℕ) (r : Reacted) : Type 0 where
  pub outputs_are : OutputsAre b outs n r
  pub done : Done
  pub done_is : r.done ≡ Some done
  pub done_as : DoneAs c st done

pub record Undecided (b : Block) (outs : List Status) (n : ℕ) (r : Reacted) : Type 0 where
  pub outputs_are : OutputsAre b outs n r
  pub done_is : r.done ≡ None

unfoldable pub IsAnswer : Block → Answer → Reacted → Type 0
IsAnswer b (answered outs c st n) r = Answered b outs c st n r
IsAnswer b (not_constructive outs n) r = Undecided b outs n r

-- The code's answer is the definition's.
unfoldable pub Reacts : Block → Phase → Numbers → Hearing → Reacted → Type 0
unfolding IsAnswer react
Reacts b ph A heard r = IsAnswer b (react b (state_of ph A) heard) r
