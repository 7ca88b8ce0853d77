-- `maze::corridors::then_gate` meets its contract: by the number of the corridor.
-- Assumes nothing.
use mathlib.Core.Path.{sym, ap}
use Rattle.mazes.specs.Mazes.{visible, signal, part}
use Rattle.maze.specs.Ways.{room_of, way_by, corridor_told}
use Rattle.maze.proofs.GateLaws.{first_way, second_way, past_both}
use Rattle.maze.proofs.corridors.then_gate.Goals as goal

pub returns-in-0 : goal.returns-in-0
unfolding corridor_told room_of
returns-in-0 c = ap way_by (sym (first_way (visible (signal c.args.s)) (visible (part c.args.p c.args.a)) c.args.n c.in-0.is))

pub returns-in-1 : goal.returns-in-1
unfolding corridor_told room_of
returns-in-1 c = ap way_by (sym (second_way (visible (signal c.args.s)) (visible (part c.args.p c.args.a)) c.args.n c.in-1.is))

pub returns-in_default : goal.returns-in_default
unfolding corridor_told
returns-in_default c =
    ap way_by (sym (past_both (visible (signal c.args.s)) (visible (part c.args.p c.args.a)) c.args.n c.in_default.in_default-own.rest.0.1 c.in_default.in_default-own.rest.1))
