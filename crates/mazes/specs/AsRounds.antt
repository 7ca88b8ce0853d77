-- The maze beside the rounds: winning and losing equal present and absent in the final round, and draw equals undecided. Assumes nothing.
use Rattle.std.specs.Prelude.{◌≡◌, ◌↔◌, ℕ}
use Rattle.sets.specs.Numbers.{Numbers}
use Rattle.rules.specs.Statements.{Block}
use Rattle.rules.specs.Events.{Status, present, absent, unknown, all_heard, event}
use Rattle.rules.specs.States.{fresh}
use Rattle.rules.specs.Rounds.{final_of}
use Rattle.mazes.specs.Mazes.{signal, maze_of, Wins, Loses, Draws}

-- A signal's status in the final round of the first instant, with the inputs of a set present and the other inputs absent.
unfoldable pub final_status : Block → Numbers → ℕ → Status
unfolding event final_of
final_status b given s = event b (all_heard b given) (final_of b fresh (all_heard b given)).statuses s

pub record AsRounds (b : Block) (given : Numbers) (s : ℕ) : Type 0 where
  pub winning_is_present : Wins (maze_of b given) (signal s) ↔ (final_status b given s ≡ present)
  pub losing_is_absent : Loses (maze_of b given) (signal s) ↔ (final_status b given s ≡ absent)
  pub draw_is_undecided : Draws (maze_of b given) (signal s) ↔ (final_status b given s ≡ unknown)
