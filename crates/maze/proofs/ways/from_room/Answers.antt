-- `maze::ways::from_room` meets its contract: by the room that is named.
-- Assumes nothing.
use Rattle.maze.proofs.WayLaws.{dungeon_room, signal_named, part_named, gate_named, dungeon_named}
use Rattle.maze.proofs.ways.from_room.Goals as goal

pub returns-in-Signal : goal.returns-in-Signal
returns-in-Signal c = λ g o f. signal_named _ _ _ c.in-Signal.is (c.of_signal.ensures g o f)

pub returns-in-Part : goal.returns-in-Part
returns-in-Part c = λ g o f. part_named _ _ _ _ c.in-Part.is (c.of_part.ensures g c.args.inputs o f)

pub returns-in-Gate : goal.returns-in-Gate
returns-in-Gate c = λ g o f. gate_named _ _ _ _ c.in-Gate.is (c.of_gate.ensures g c.args.inputs o)

pub returns-in-Dungeon : goal.returns-in-Dungeon
returns-in-Dungeon c = λ g o f. dungeon_named _ _ c.in-Dungeon.is (dungeon_room o c.args.inputs c.args.n)
