-- `maze::view::ends_of` meets its contract: bit by bit.
-- Assumes nothing.
use Rattle.maze.proofs.ViewLaws.{ends_are}
use Rattle.maze.proofs.view.ends_of.Goals as goal

pub returns : goal.returns
returns c = ends_are c.args.inputs c.args.outputs c.args.heard c.args.present c.args.absent c.below-all.result c.below-all.ensures
