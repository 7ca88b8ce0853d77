-- `tests::front` meets its contract: a block that cannot be read is turned down as its reading says, another goes on.
use Rattle.reaction.proofs.Fronts.{block_fails, block_reads, block_way}
use Rattle.std.proofs.lemmas.Result.{err_from_is_err_and}
use Rattle.reaction.proofs.tests.front.Goals as goal

pub at_state-requires : goal.at_state-requires
at_state-requires c = let r = block_reads _ c.read_block.ensures c.in_ok-summary.was in (r.0, r.1)

pub returns-in_err-summary : goal.returns-in_err-summary
returns-in_err-summary c =
    let p = err_from_is_err_and c.from_residual.result c.from_residual.ensures.1 in
    rw (p.1, p.2) (record { meets = block_fails _ c.read_block.ensures c.args.state.now c.args.given c.in_err-summary.was; full = c.read_block.ensures.full })

pub returns : goal.returns
returns c =
    let r = block_reads _ c.read_block.ensures c.in_ok-summary.was in
    record { meets = block_way _ c.read_block.ensures _ _ r.2 (c.at_state.ensures r.0 r.1); full = c.read_block.ensures.full }
