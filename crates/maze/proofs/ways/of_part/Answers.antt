-- `maze::ways::of_part` meets its contract: a part of the form by its rows, a nothing by its kind.
-- Assumes nothing.
use Rattle.rules.specs.Statements.{numbered}
use Rattle.maze.proofs.WayLaws.{stands_at, below_count, no_part, nothing_part, some_part}
use Rattle.maze.proofs.ways.of_part.Goals as goal

pub returns-then-is_nothing : goal.returns-then-is_nothing
returns-then-is_nothing c =
    λ g given o f. nothing_part o given c.args.n c.args.i c.args.a c.is_there.ensures c.if-not-is_there.false c.is_nothing.ensures c.if-is_nothing.true

pub from_part-requires : goal.from_part-requires
from_part-requires c =
    (numbered c.requires.0.body c.args.i, stands_at c.requires.1 c.args.i (below_count c.requires.1 0 0 c.args.i c.args.a c.is_there.ensures c.if-not-is_there.false))

pub returns : goal.returns
returns c =
    λ g given o f. some_part o given c.args.n c.args.i c.args.a c.is_there.ensures f c.if-not-is_there.false c.is_nothing.ensures c.if-is_nothing.false
    c.from_part.ensures

pub returns-then-not-is_there : goal.returns-then-not-is_there
returns-then-not-is_there c = λ g given o f. no_part o given c.args.n c.args.i c.args.a c.is_there.ensures c.if-not-is_there.true
