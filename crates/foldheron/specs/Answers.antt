-- What the calls that read a block answer: document 01's number and values for each case. All fields not named are 0. Assumes nothing.
use Rattle.std.specs.Prelude.{cond, List, [], ◌∷◌, ℕ, eqb, ltb, length, Option, Result, Ok, Err}
use Rattle.std.specs.Borrow.{Bor}
use Rattle.refusals.specs.Refusals.{number}
use Rattle.refusals.specs.declared.Why.{Why}
use Rattle.rules.specs.States.{fresh}
use Rattle.block.specs.Format.{Reading, good, turned_down, preorder, numbered, bytes, offset}
use Rattle.block.specs.declared.whole.Summary.{Summary}
use Rattle.refusals.specs.declared.Refused.{Refused}
use Rattle.reaction.specs.declared.Reaction.{Reaction}
use Rattle.reaction.specs.declared.Stopped.{Stopped}
use Rattle.reaction.specs.declared.Unanswered.{Unanswered}
use Rattle.alike.specs.declared.NotCompared.{NotCompared}
use Rattle.maze.specs.declared.Rooms.{Rooms}
use Rattle.maze.specs.declared.Corridor.{Corridor}
use Rattle.records.specs.StateRecord.{state_size, state_record}
use Rattle.foldheron.specs.declared.Part.{Part}
use Rattle.foldheron.specs.declared.Logged.{Logged}

-- What the calls answer, by name: what they come to, or the refusal.
abbrev pub Checked : Type 0
Checked = Result Summary Refused

abbrev pub Begun : Type 0
Begun = Result (Unit {0}) Refused

abbrev pub FoundPart : Type 0
FoundPart = Result Part Refused

abbrev pub Excerpt : Type 0
Excerpt = Result (Bor (List ℕ)) Refused

abbrev pub Instant : Type 0
Instant = Result Reaction Unanswered

abbrev pub Logging : Type 0
Logging = Result Logged Unanswered

abbrev pub Reason : Type 0
Reason = Result ℕ Stopped

abbrev pub Wrote : Type 0
Wrote = Result ℕ Refused

abbrev pub Likeness : Type 0
Likeness = Result (Option ℕ) NotCompared

abbrev pub Maze : Type 0
Maze = Result Rooms Refused

abbrev pub FoundCorridor : Type 0
FoundCorridor = Result Corridor Refused

-- A refusal at a place.
abbrev pub refusal_at : Why → ℕ → Refused
refusal_at w at = record { why = w; place = at }

-- A check's answer: number and place, then version, inputs, outputs, locals, statements and pauses.
unfoldable pub check_values : Checked → List ℕ
check_values (Ok s) = 0 ∷ 0 ∷ s.version ∷ s.inputs ∷ s.outputs ∷ s.locals ∷ s.statements ∷ s.pauses ∷ []
check_values (Err r) = number r.why ∷ r.place ∷ 0 ∷ 0 ∷ 0 ∷ 0 ∷ 0 ∷ 0 ∷ []

unfoldable pub check_owed : Reading → List ℕ
check_owed (good g) =
    0 ∷ 0 ∷ g.header.version ∷ g.header.inputs ∷ g.header.outputs ∷ g.header.locals ∷ g.statements ∷ g.pauses ∷ []
check_owed (turned_down n at) = n ∷ at ∷ 0 ∷ 0 ∷ 0 ∷ 0 ∷ 0 ∷ 0 ∷ []

-- A fresh state: number and place.
unfoldable pub begun_values : Begun → List ℕ
begun_values (Ok _) = 0 ∷ 0 ∷ []
begun_values (Err r) = number r.why ∷ r.place ∷ []

-- After 1 to 8, a state of another size than the record's gets 9.
unfoldable pub begun_owed : Reading → List ℕ → List ℕ
begun_owed (good g) state = cond (eqb (length state) state_size) (0 ∷ 0 ∷ []) (9 ∷ 0 ∷ [])
begun_owed (turned_down n at) state = n ∷ at ∷ []

-- The state's bytes after the call: a fresh record that names the block, or as they were.
unfoldable pub state_owed : Reading → List ℕ → List ℕ
state_owed (good g) state = cond (eqb (length state) state_size) (state_record g.header.version g.statements fresh) state
state_owed (turned_down n at) state = state

-- Where a part lies, or the number and place of a refusal, which has none.
pub record PartTold : Type 0 where
  pub number : ℕ
  pub place : ℕ
  pub offset : ℕ
  pub size : ℕ

abbrev pub absent_part : ℕ → ℕ → PartTold
absent_part k at = record { number = k; place = at; offset = 0; size = 0 }

unfoldable pub part_told : FoundPart → PartTold
part_told (Ok p) = record { number = 0; place = 0; offset = p.offset; size = p.size }
part_told (Err r) = absent_part (number r.why) r.place

-- The part of the block that holds statement n and all below it: 1 to 8, then INDEX for a statement number at or above the count.
unfoldable pub part_owed : Reading → ℕ → PartTold
part_owed (good g) n =
    cond (ltb n g.statements) (record { number = 0; place = 0; offset = offset g.body n; size = bytes (preorder (numbered g.body n)) })
    (absent_part 14 0)
part_owed (turned_down k at) n = absent_part k at

-- What an excerpt tells: number and place, and the bytes of the part that is handed back, none of a refusal.
pub record Excerpted : Type 0 where
  pub number : ℕ
  pub place : ℕ
  pub part : List ℕ

unfoldable pub excerpted_as : Excerpt → Excerpted
excerpted_as (Ok part) = record { number = 0; place = 0; part = part.now }
excerpted_as (Err r) = record { number = number r.why; place = r.place; part = [] }

-- The values of a part.
abbrev pub part_values : PartTold → List ℕ
part_values p = p.number ∷ p.place ∷ p.offset ∷ p.size ∷ []

-- The answer of an instant with a log: the instant's own, and the log's new end, 0 where nothing was logged.
unfoldable pub answer_in : Logging → Instant
answer_in (Ok l) = Ok l.reaction
answer_in (Err u) = Err u

unfoldable pub end_in : Logging → ℕ
end_in (Ok l) = l.end
end_in (Err u) = 0
