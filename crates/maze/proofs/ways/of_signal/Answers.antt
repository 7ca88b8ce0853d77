-- `maze::ways::of_signal` meets its contract: an input by its bit, another signal by the whole body.
-- Assumes nothing.
use Rattle.sets.proofs.Members.{of_true}
use Rattle.reaction.proofs.Fronts.{placed}
use Rattle.mazes.proofs.Forms.{of_form_is}
use Rattle.maze.proofs.WayLaws.{no_signal, input_room, output_room}
use Rattle.maze.proofs.ways.of_signal.Goals as goal

pub returns-then-a-wide : goal.returns-then-a-wide
returns-then-a-wide c =
    λ g o f. input_room o c.args.inputs c.args.n c.args.a c.declared.ensures c.if-not-declared.false c.wide.ensures.0 c.if-a-wide.true c.from_input.ensures

pub from_part-requires : goal.from_part-requires
from_part-requires c = (c.requires.0.body, placed c.requires.1)

pub returns : goal.returns
returns c =
    λ g o f. output_room o c.args.inputs c.args.n c.args.a c.declared.ensures c.if-not-declared.false c.wide.ensures.0 c.if-a-wide.false
    (c.from_part.ensures g.body (placed o) (of_form_is g.body (of_true f)))

pub returns-then-not-declared : goal.returns-then-not-declared
returns-then-not-declared c = λ g o f. no_signal o c.args.inputs c.args.n c.args.a c.declared.ensures c.if-not-declared.true
