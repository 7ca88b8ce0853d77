-- `maze::corridors::given_by` meets its contract: by the kind.
-- Assumes nothing.
use mathlib.Core.Path.{sym, ap}
use mathlib.Core.Bool.{Bool, cond}
use borrow.Author.Tests.{eq-eqb, ne_eqb}
use Rattle.mazes.specs.Mazes.{visible, gate, dungeon, nth}
use Rattle.maze.specs.Ways.{room_of, leads, corridor_told}
use Rattle.maze.proofs.corridors.given_by.Goals as goal

pub returns-then-kind-eq19 : goal.returns-then-kind-eq19
unfolding corridor_told nth room_of
returns-then-kind-eq19 c = ap (λ (z : Bool). leads (visible (cond z (gate c.args.at c.args.a) dungeon))) (sym (eq-eqb _ 19 c.if-kind-eq19.true))

pub returns : goal.returns
unfolding corridor_told nth room_of
returns c = ap (λ (z : Bool). leads (visible (cond z (gate c.args.at c.args.a) dungeon))) (sym (ne_eqb _ 19 c.if-kind-eq19.false))
