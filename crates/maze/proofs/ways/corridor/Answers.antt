-- `maze::ways::corridor` meets its contract: a block that cannot be read is turned down as its reading says, another goes on.
-- Assumes nothing.
use Rattle.std.proofs.lemmas.Result.{err_from_is_err_and}
use Rattle.reaction.proofs.Fronts.{block_reads}
use Rattle.maze.proofs.ViewLaws.{block_fails}
use Rattle.maze.proofs.WayLaws.{refused_told, read_told}
use Rattle.maze.proofs.ways.corridor.Goals as goal

pub past_reading-requires : goal.past_reading-requires
past_reading-requires c = let r = block_reads _ c.read_block.ensures c.in_ok-s.was in (r.0, r.1)

pub returns-in_err-s : goal.returns-in_err-s
returns-in_err-s c =
    let p = err_from_is_err_and c.from_residual.result c.from_residual.ensures.1 in
    rw (p.1, p.2) (refused_told _ _ _ _ (block_fails _ _ c.read_block.ensures c.in_err-s.was))

pub returns : goal.returns
returns c =
    let r = block_reads _ c.read_block.ensures c.in_ok-s.was in
    read_told _ _ _ _ r.2 (c.past_reading.ensures r.0 r.1)
