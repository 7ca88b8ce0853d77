-- The values of the calls on whole blocks, in their order: two blocks compared, loops doubled, edition 2 converted, blocks as text, the maze and its corridors. Assumes nothing.
use Rattle.std.specs.Prelude.{◌≡◌, cond, List, [], ◌∷◌, ℕ, eqb, length, Some, None, Ok, Err}
use Rattle.std.proofs.Math.Option.{Option, none, some}
use Rattle.refusals.specs.Refusals.{number}
use Rattle.mazes.specs.Mazes.{Room, signal, part, gate, dungeon, visible, secret}
use Rattle.writing.specs.Answers.{roomed, wrote_owed, out_owed}
use Rattle.doubled.specs.Copies.{doubling}
use Rattle.converting.specs.Conversions.{converting}
use Rattle.text.specs.Reader.{text_read}
use Rattle.write_text.specs.WriteText.{text_writing}
use Rattle.alike.specs.Calls.{front, Owed}
use Rattle.alike.specs.declared.NotCompared.TheVariants.{First, Second, Both}
use Rattle.maze.specs.Views.{View, refused, shown, view, Views}
use Rattle.maze.specs.Ways.{Way, turned, no_room, no_more, leads, way_in}
use Rattle.foldheron.specs.Answers.{Likeness, Maze}

-- A comparison's: number, place, which block is turned down (1 the first, 2 the second), and the size of the run, 0 where the two are alike.
unfoldable pub likeness_values : Likeness → List ℕ
likeness_values (Ok None) = 0 ∷ 0 ∷ 0 ∷ 0 ∷ []
likeness_values (Ok (Some n)) = 0 ∷ 0 ∷ 0 ∷ n ∷ []
likeness_values (Err (First r)) = number r.why ∷ r.place ∷ 1 ∷ 0 ∷ []
likeness_values (Err (Second r)) = number r.why ∷ r.place ∷ 2 ∷ 0 ∷ []
likeness_values (Err (Both w)) = number w ∷ 0 ∷ 0 ∷ 0 ∷ []

-- Values are those of an answer that two blocks and a run are owed, and the run's bytes are as it says afterwards.
pub record Compares (first second run after values : List ℕ) : Type 0 where
  pub likeness : Likeness
  pub owed : Owed (front first second run) likeness run after
  pub its_values : values ≡ likeness_values likeness

-- Number, place, and how many bytes the doubled block has; and the lent bytes that are left.
abbrev pub doubling_owed : List ℕ → List ℕ → List ℕ
doubling_owed b out = wrote_owed (roomed (doubling b) (length out))

abbrev pub doubling_leaves : List ℕ → List ℕ → List ℕ
doubling_leaves b out = out_owed (roomed (doubling b) (length out)) out

-- The same of a block of edition 2 written in edition 1.
abbrev pub conversion_owed : List ℕ → List ℕ → List ℕ
conversion_owed b out = wrote_owed (roomed (converting b) (length out))

abbrev pub conversion_leaves : List ℕ → List ℕ → List ℕ
conversion_leaves b out = out_owed (roomed (converting b) (length out)) out

-- The same of the text that is written for a block.
abbrev pub text_owed : List ℕ → List ℕ → List ℕ
text_owed b out = wrote_owed (roomed (text_writing b) (length out))

abbrev pub text_leaves : List ℕ → List ℕ → List ℕ
text_leaves b out = out_owed (roomed (text_writing b) (length out)) out

-- And of the block that a text stands for.
abbrev pub block_owed : List ℕ → List ℕ → List ℕ
block_owed text out = wrote_owed (roomed (text_read text) (length out))

abbrev pub block_leaves : List ℕ → List ℕ → List ℕ
block_leaves text out = out_owed (roomed (text_read text) (length out)) out

-- A maze's: number, place, and the signals whose rooms win, lose and draw.
unfoldable pub maze_values : Maze → List ℕ
maze_values (Ok r) = 0 ∷ 0 ∷ r.winning ∷ r.losing ∷ r.drawn ∷ []
maze_values (Err r) = number r.why ∷ r.place ∷ 0 ∷ 0 ∷ 0 ∷ []

-- Values are those of an answer that is the maze view of a block with an input set.
pub record ShowsMaze (b : List ℕ) (given : ℕ) (values : List ℕ) : Type 0 where
  pub answer : Maze
  pub views : Views (view b given) answer
  pub its_values : values ≡ maze_values answer

-- The room that is named by number: 0, a signal's; 1, a part's; 2, a gate's; 3, the dungeon. No other number names a room.
abbrev pub room_by : ℕ → ℕ → ℕ → Option Room
room_by n x y =
    cond (eqb n 0) (some (signal x)) (cond (eqb n 1) (some (part x y)) (cond (eqb n 2) (some (gate x y)) (cond (eqb n 3) (some dungeon) none)))

-- Where no room is named there is none, after the same tests.
abbrev pub way_from : View → Option Room → ℕ → Way
way_from v (some r) k = way_in v r k
way_from (refused n at) none k = turned n at
way_from (shown b given) none k = no_room

-- The same numbers of a room that is told.
abbrev pub room_values : Room → List ℕ
room_values (signal s) = 0 ∷ s ∷ 0 ∷ []
room_values (part i a) = 1 ∷ i ∷ a ∷ []
room_values (gate i a) = 2 ∷ i ∷ a ∷ []
room_values dungeon = 3 ∷ 0 ∷ 0 ∷ []

-- A corridor's: number, place, 1 for a visible and 2 for a secret one, and the room that it leads to; 0 in its place where there is no more, 3 where there is no such room.
unfoldable pub way_values : Way → List ℕ
way_values (turned n at) = n ∷ at ∷ 0 ∷ 0 ∷ 0 ∷ 0 ∷ []
way_values no_room = 0 ∷ 0 ∷ 3 ∷ 0 ∷ 0 ∷ 0 ∷ []
way_values no_more = 0 ∷ 0 ∷ 0 ∷ 0 ∷ 0 ∷ 0 ∷ []
way_values (leads (visible r)) = 0 ∷ 0 ∷ 1 ∷ room_values r
way_values (leads (secret r)) = 0 ∷ 0 ∷ 2 ∷ room_values r

abbrev pub corridor_owed : List ℕ → ℕ → Option Room → ℕ → List ℕ
corridor_owed b given r k = way_values (way_from (view b given) r k)
