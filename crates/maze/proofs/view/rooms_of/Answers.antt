-- `maze::view::rooms_of` meets its contract: the rounds tell who wins, by the maze's theorem.
-- Assumes nothing.
use native.Mathlib.Omega.{arith}
use Rattle.evaluate.specs.Reacts.{Reacts}
use Rattle.reaction.proofs.Fronts.{placed, few_signals}
use Rattle.maze.proofs.ViewLaws.{rooms_way}
use Rattle.maze.proofs.view.rooms_of.Goals as goal

pub all_heard-heard-requires : goal.all_heard-heard-requires
all_heard-heard-requires c = omega (arith, few_signals c.requires.1)

pub react-r-requires : goal.react-r-requires
react-r-requires c = (few_signals c.requires.1, record { tree = c.requires.0.body; there = placed c.requires.1 })

pub ends_of-requires : goal.ends_of-requires
ends_of-requires c = few_signals c.requires.1

pub returns : goal.returns
unfolding Reacts
returns c =
    λ g o u f. rooms_way o c.args.inputs c.react-r.result c.all_heard-heard.ensures
    (c.react-r.ensures g.body (placed o)) c.ends_of.ensures u f
