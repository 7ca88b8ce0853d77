-- The maze view on the caller's bytes: what the call comes to, and its answer. Assumes nothing.
use Rattle.std.specs.Prelude.{◌≡◌, ◌↔◌, cond, not, ◌&&◌, ◌||◌, List, ℕ, ◌+◌, ◌<◌, T, ltb, Result, Ok, Err}
use Rattle.refusals.specs.Refusals.{number}
use Rattle.sets.specs.Numbers.{Numbers}
use Rattle.sets.specs.Words.{bits}
use Rattle.rules.specs.Statements.{Block}
use Rattle.block.specs.Format.{Good, Reading, good, turned_down, reading}
use Rattle.records.specs.StateRecord.{undeclared_input}
use Rattle.words.specs.declared.events.Heard.{Heard}
use Rattle.reaction.specs.Fronts.{INPUT}
use Rattle.reaction.specs.Instants.{block_of}
use Rattle.mazes.specs.Mazes.{of_form, signal, maze_of, Wins, Loses, Draws}
use Rattle.maze.specs.declared.Rooms.{Rooms}
use Rattle.refusals.specs.declared.Refused.{Refused}

abbrev pub FORM : ℕ
FORM = 26

-- What the call comes to: turned down with a number and a place, or the maze of a block with the inputs of a set present.
pub data View : Type 0 where
  refused : ℕ → ℕ → View
  shown : Block → Numbers → View

-- FORM, the last of the tests;
unfoldable pub try_form : Good → ℕ → View
unfolding of_form
try_form g given = cond (of_form g.body) (shown (block_of g) (bits given)) (refused FORM 0)

-- INPUT before it, for a block that was read;
unfoldable pub try_inputs : Good → ℕ → View
unfolding try_form
try_inputs g given = cond (undeclared_input g.header.inputs given) (refused INPUT 0) (try_form g given)

unfoldable pub try_block : ℕ → Reading → View
unfolding try_inputs
try_block given (turned_down n at) = refused n at
try_block given (good g) = try_inputs g given

-- and the block's 1 to 8 before them.
unfoldable pub view : List ℕ → ℕ → View
unfolding try_block
view b given = try_block given (reading b)

-- Bit n is set exactly where n is a declared signal and its room wins, loses, draws.
pub record Shows (b : Block) (given : Numbers) (r : Rooms) : Type 0 where
  pub wins : (n : ℕ) → T (bits r.winning n) ↔ ((n < b.inputs + b.outputs) × Wins (maze_of b given) (signal n))
  pub loses : (n : ℕ) → T (bits r.losing n) ↔ ((n < b.inputs + b.outputs) × Loses (maze_of b given) (signal n))
  pub draws : (n : ℕ) → T (bits r.drawn n) ↔ ((n < b.inputs + b.outputs) × Draws (maze_of b given) (signal n))

-- The whole answer.
unfoldable pub Views : View → Result Rooms Refused → Type 0
Views (refused n at) (Err r) = (number r.why ≡ n) × (r.place ≡ at)
Views (refused n at) (Ok r) = ⊥
Views (shown b given) (Err r) = ⊥
Views (shown b given) (Ok r) = Shows b given r

-- How the words are made: what is heard of the inputs and the outputs' marks, and of the declared signals the rest.
pub record EndsOf (inputs outputs : ℕ) (heard : Heard) (present absent : ℕ) (r : Rooms) : Type 0 where
  pub winning_is : (n : ℕ) → bits r.winning n ≡ (bits heard.present n || bits present n)
  pub losing_is : (n : ℕ) → bits r.losing n ≡ (bits heard.absent n || bits absent n)
  pub drawn_is : (n : ℕ) → bits r.drawn n ≡ (ltb n (inputs + outputs) && not (bits r.winning n || bits r.losing n))
