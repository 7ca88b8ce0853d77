-- What the walk of the reasons marks, and what its words stand for. Assumes nothing.
use Rattle.std.specs.Prelude as prelude
use Rattle.std.specs.Prelude.{◌≡◌, Bool, Some, None, true, false, not, ◌&&◌, List, ℕ, ◌+◌, ◌<◌, eqb, leb, ltb, length, get_or}
use Rattle.std.proofs.Math.Option.{Option, none, some}
use Rattle.sets.specs.Numbers.{Numbers, empty, union}
use Rattle.sets.specs.Words.{bits}
use Rattle.rules.specs.Statements.{Stmt}
use Rattle.rules.specs.Events.{Event}
use Rattle.rules.specs.MustCan.{must, gives}
use Rattle.rules.specs.Taken.{Wanted, every, emit_of, undecided_test, wants, wants_emit, wants_test, taken_started, taken_resumed}
use Rattle.rules.specs.Reasons.{Asked, refused, is_present, not_executed}
use Rattle.tables.specs.declared.Table.{Table}
use Rattle.words.specs.declared.events.Heard.{Heard}
use Rattle.words.specs.Words.{event_of}
use Rattle.forms.specs.declared.form.Going.{Going}
use Rattle.forms.specs.declared.form.Going.TheVariants.{Started, Resumed, Held, Idle}
use Rattle.forms.specs.declared.form.Task.{Task}
use Rattle.forms.specs.declared.form.Form.{Form}
use Rattle.forms.specs.declared.form.Form.TheVariants.{Done, Stay, Keep, Say, Leave, Test, Catch, Scope, Chain, Beside, Same}
use Rattle.forms.specs.Forms.{At, Live, step_of}
use Rattle.reasons.specs.declared.wanted.Wanted as code
use Rattle.reasons.specs.declared.wanted.Wanted.TheVariants.{Every, EmitOf, UndecidedTest}
use Rattle.reasons.specs.declared.asked.Asked as question
use Rattle.reasons.specs.declared.asked.Asked.TheVariants.{Refused, Present, NotExecuted}

-- The code's words for what is asked, what is wanted and what is named.
abbrev pub wanted_of : code.Wanted → Wanted
wanted_of Every = every
wanted_of (EmitOf s) = emit_of s
wanted_of UndecidedTest = undecided_test

abbrev pub asked_of : question.Asked → Asked
asked_of Refused = refused
asked_of (Present s) = is_present s
asked_of (NotExecuted n) = not_executed n

abbrev pub named_of : prelude.Option ℕ → Option ℕ
named_of (Some n) = some n
named_of None = none

-- Started or resumed: the statement is reached.
abbrev pub goes : Going → Bool
goes Started = true
goes Resumed = true
goes Held = false
goes Idle = false

-- A statement that is reached is asked for, by its form.
unfoldable pub hit : Wanted → Form → Event → Bool
hit w Done E = wants w
hit w (Stay n) E = wants w
hit w (Keep i) E = wants w
hit w (Say s) E = wants_emit w s
hit w (Leave d) E = wants w
hit w (Test s c d) E = wants_test w (E s)
hit w (Catch c) E = wants w
hit w (Scope s c) E = wants w
hit w (Chain c d) E = wants w
hit w (Beside c d) E = wants w
hit w (Same c) E = wants w

-- A test's signal fits a word.
unfoldable pub Narrow : Form → Type 0
Narrow Done = Unit {0}
Narrow (Stay n) = Unit {0}
Narrow (Keep i) = Unit {0}
Narrow (Say s) = Unit {0}
Narrow (Leave d) = Unit {0}
Narrow (Test s c d) = s < 64
Narrow (Catch c) = Unit {0}
Narrow (Scope s c) = Unit {0}
Narrow (Chain c d) = Unit {0}
Narrow (Beside c d) = Unit {0}
Narrow (Same c) = Unit {0}

-- What is taken of a statement of number i, by how it is taken.
unfoldable pub taken_of : Going → Wanted → Numbers → ℕ → Stmt → Event → Numbers
unfolding taken_started taken_resumed
taken_of Started w A i t E = taken_started w i t E
taken_of Resumed w A i t E = taken_resumed w A i t E
taken_of Held w A i t E = empty
taken_of Idle w A i t E = empty

-- The marks of a list, and a list with the marks of a set more.
abbrev pub marked_in : List Bool → Numbers
marked_in ms n = get_or ms n false

pub record Marked (before : List Bool) (X : Numbers) (left : List Bool) : Type 0 where
  pub as_long : length left ≡ length before
  pub adds : length before ≡ 512 → marked_in left ≡ union (marked_in before) X

-- The walk: must's codes, and what is taken marked.
pub record TakenAs (w : Wanted) (A : Numbers) (c : Task) (t : Stmt) (E : Event) (before left : List Bool) (codes : ℕ) : Type 0 where
  pub codes_are : bits codes ≡ (gives must (step_of c.going A t) E).codes
  pub marks_are : length before ≡ 512 → marked_in left ≡ union (marked_in before) (taken_of c.going w A c.at t E)

pub record Taking (tab : Table) (live : List Bool) (w : Wanted) (c : Task) (e : Heard) (before left : List Bool) (codes : ℕ) : Type 0 where
  pub as_long : length left ≡ length before
  pub at : (A : Numbers) → Live tab A live → (t : Stmt) → At tab c.at t → TakenAs w A c t (event_of e) before left codes

-- Statement n is in this row or below it, by the row's size; and the rows of a path that are not among the executed.
abbrev pub passes : ℕ → ℕ → ℕ → Bool
passes n row size = leb row n && ltb n (row + size)

unfoldable pub cut_rows : List ℕ → ℕ → Numbers → Numbers
cut_rows sizes n executed k = passes n k (get_or sizes k 0) && not (executed k)

-- Row n is one of so many, an emit, and not marked.
unfoldable pub open_emit : List ℕ → List Bool → ℕ → ℕ → Bool
open_emit kinds executed count n = ltb n count && (eqb (get_or kinds n 0) 18 && not (get_or executed n false))
