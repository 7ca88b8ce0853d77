-- The maze view over the calls: what is promised of the rooms and corridors that are told, and the tests of the two calls in their order. Assumes nothing.
use Rattle.std.specs.Prelude.{◌≡◌, ◌↔◌, cond, ◌||◌, List, [], ◌∷◌, ◌++◌, ℕ, ◌+◌, ◌<◌, T, eqb, ltb}
use Rattle.refusals.specs.Refusals.{number}
use Rattle.sets.specs.Words.{bits}
use Rattle.rules.specs.Events.{Status, present, absent, unknown, known}
use Rattle.block.specs.Format.{Good, good, reading}
use Rattle.reaction.specs.declared.Given.TheVariants.{All}
use Rattle.reaction.specs.Instants.{NOT_CONSTRUCTIVE, block_of, Told}
use Rattle.mazes.specs.Mazes.{OfForm, Room, maze_of, nth}
use Rattle.maze.specs.Views.{FORM, Shows}
use Rattle.maze.specs.Ways.{Way, no_room, way_by, has_room}
use Rattle.maze.specs.declared.Rooms.{Rooms}
use Rattle.foldheron.specs.Answers.{Maze}
use Rattle.std.specs.Prelude.{Ok, Err}
use Rattle.foldheron.specs.Answers.{FoundCorridor}
use Rattle.promises.specs.Tests.{Test}
use Rattle.promises.specs.Demand1.{block_tests, input_test}

-- How signal n stands in an instant that is told: an input as the set has it; an output as it is told, where of an answered instant an output that is not present is absent.
unfoldable pub told_status : Good → ℕ → Told → ℕ → Status
told_status g set t n =
    cond (ltb n g.header.inputs) (known (bits set n))
    (cond (bits t.present_outputs n) present (cond (bits t.absent_outputs n || eqb t.number 0) absent unknown))

-- The rooms told are those of the block's maze, and beside them the instant from fresh with the same set: a declared signal's room wins exactly where the instant has it present,
-- loses where absent, and draws where undecided; and some room draws exactly where the instant is 13.
pub record TrueMaze (b : List ℕ) (set : ℕ) (rooms : Rooms) (t : Told) : Type 0 where
  pub block : Good
  pub is_good : reading b ≡ good block
  pub its_maze : Shows (block_of block) (bits set) rooms
  pub wins_where_present : (n : ℕ) → n < block.header.inputs + block.header.outputs → T (bits rooms.winning n) ↔ (told_status block set t n ≡ present)
  pub loses_where_absent : (n : ℕ) → n < block.header.inputs + block.header.outputs → T (bits rooms.losing n) ↔ (told_status block set t n ≡ absent)
  pub draws_where_undecided : (n : ℕ) → n < block.header.inputs + block.header.outputs → T (bits rooms.drawn n) ↔ (told_status block set t n ≡ unknown)
  pub some_draw_is_13 : ((n : ℕ) × T (bits rooms.drawn n)) ↔ (t.number ≡ NOT_CONSTRUCTIVE)

-- The answer about a corridor of a maze: no such room, none of that number, or the corridor.
abbrev pub way_of : Good → ℕ → Room → ℕ → Way
way_of g set room n = cond (has_room (block_of g) room) (way_by (nth (maze_of (block_of g) (bits set) room) n)) no_room

-- 26 FORM: the block is not made of emit, parallel, and present with nothing in one branch.
pub record OtherForm (b : List ℕ) : Type 0 where
  pub block : Good
  pub is_good : reading b ≡ good block
  pub no_form : OfForm block.body → ⊥

-- The tests in the written order: 1 to 8, 11, 26.
abbrev pub maze_tests : List ℕ → ℕ → List Test
maze_tests b set = block_tests b ++ input_test b (All set) ∷ record { number = FORM; Applies = OtherForm b } ∷ []

abbrev pub maze_number : Maze → ℕ
maze_number (Ok r) = 0
maze_number (Err e) = number e.why

abbrev pub maze_place : Maze → ℕ
maze_place (Ok r) = 0
maze_place (Err e) = e.place

abbrev pub corridor_number : FoundCorridor → ℕ
corridor_number (Ok c) = 0
corridor_number (Err e) = number e.why

abbrev pub corridor_place : FoundCorridor → ℕ
corridor_place (Ok c) = 0
corridor_place (Err e) = e.place
