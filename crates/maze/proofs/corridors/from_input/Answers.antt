-- `maze::corridors::from_input` meets its contract: the first corridor by the bit, and no other.
-- Assumes nothing.
use mathlib.Core.Path.{sym, ◌∙◌, ap}
use Rattle.sets.specs.Words.{bits}
use Rattle.maze.specs.Ways.{room_of, way_by, corridor_told}
use Rattle.maze.proofs.GateLaws.{one_given, none_given, past_given}
use Rattle.maze.proofs.corridors.from_input.Goals as goal
use Rattle.maze.proofs.corridors.from_input.Goals.{else-n-eq0-via-then-n-eq0+else-is_given, else-n-eq0-via-else-n-eq0}

pub returns-then-is_given : goal.returns-then-is_given
unfolding corridor_told room_of
returns-then-is_given c =
    ap way_by (sym (one_given (bits c.args.given c.args.s) c.args.n (sym c.is_given.ensures ∙ c.if-is_given.true) c.if-n-eq0.true))

pub returns : goal.returns
unfolding corridor_told
returns c = elim c.else-n-eq0.branch [
  | else-n-eq0-via-then-n-eq0+else-is_given w ↦ ap way_by (sym (none_given (bits c.args.given c.args.s) c.args.n (sym w.is_given.ensures ∙ w.if-is_given.false)))
  | else-n-eq0-via-else-n-eq0 w ↦ ap way_by (sym (past_given (bits c.args.given c.args.s) c.args.n w.if-n-eq0.false))
]
