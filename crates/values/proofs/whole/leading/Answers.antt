-- `values::whole::leading`: each case as its definition says it. Assumes nothing.
use mathlib.Core.Path.{sym, ap}
use mathlib.Core.List.{◌∷◌}
use Rattle.maze.specs.declared.Room.{Room}
use Rattle.maze.specs.Ways.{room_of}
use Rattle.values.specs.Whole.{room_values}
use Rattle.values.proofs.whole.leading.Goals as goal

pub returns-in-Signal : goal.returns-in-Signal
unfolding room_of
returns-in-Signal c = ap (λ (r : Room). 0 ∷ 0 ∷ c.args.way ∷ room_values (room_of r)) (sym c.in-Signal.is)

pub returns-in-Part : goal.returns-in-Part
unfolding room_of
returns-in-Part c = ap (λ (r : Room). 0 ∷ 0 ∷ c.args.way ∷ room_values (room_of r)) (sym c.in-Part.is)

pub returns-in-Gate : goal.returns-in-Gate
unfolding room_of
returns-in-Gate c = ap (λ (r : Room). 0 ∷ 0 ∷ c.args.way ∷ room_values (room_of r)) (sym c.in-Gate.is)

pub returns-in-Dungeon : goal.returns-in-Dungeon
unfolding room_of
returns-in-Dungeon c = ap (λ (r : Room). 0 ∷ 0 ∷ c.args.way ∷ room_values (room_of r)) (sym c.in-Dungeon.is)
