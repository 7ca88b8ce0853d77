-- `whole::read_block` meets its contract: each return is one end of the reading, and its lemma stands in Ends.
-- Assumes nothing.
use Rattle.std.proofs.lemmas.Result.{err_from_is_err_and}
use Rattle.block.specs.Format.{header_fault}
use Rattle.block.proofs.Ends.{over_size, bad_header, good_header, ready_start, few_read, tree_refused, tree_ends}
use Rattle.block.proofs.Ways.{with_moved}
use Rattle.block.proofs.whole.read_block.Goals as goal

pub returns-then-b-gt3086 : goal.returns-then-b-gt3086
returns-then-b-gt3086 c = rw c.at.ensures (over_size _ c.if-b-gt3086.true c.requires)

pub returns-in_err-header_fault : goal.returns-in_err-header_fault
unfolding header_fault
returns-in_err-header_fault c =
    let p = err_from_is_err_and c.from_residual.result c.from_residual.ensures.1 in
    rw (p.1, p.2) (bad_header _ c.if-b-gt3086.false c.header_fault.ensures c.in_err-header_fault.was c.requires)

pub read_at-requires : goal.read_at-requires
unfolding header_fault
read_at-requires c = (ready_start _ c.if-b-gt3086.false _ c.declared-d.ensures (good_header _ c.header_fault.ensures c.in_ok-header_fault.was), c.requires)

pub returns-in_err-read_at : goal.returns-in_err-read_at
unfolding header_fault
returns-in_err-read_at c =
    let p = err_from_is_err_and c.from_residual-in_err-read_at.result c.from_residual-in_err-read_at.ensures.1 in
    rw (p.1, p.2)
    (tree_refused _ c.if-b-gt3086.false _ c.declared-d.ensures (good_header _ c.header_fault.ensures c.in_ok-header_fault.was) c.read_at.ensures (with_moved _ c.in_err-read_at.was))

pub finished-requires : goal.finished-requires
unfolding header_fault
finished-requires c =
    few_read _ c.if-b-gt3086.false _ c.declared-d.ensures (good_header _ c.header_fault.ensures c.in_ok-header_fault.was) c.read_at.ensures (with_moved _ c.in_ok-read_at.was)

pub returns : goal.returns
unfolding header_fault
returns c =
    tree_ends _ c.if-b-gt3086.false _ c.declared-d.ensures (good_header _ c.header_fault.ensures c.in_ok-header_fault.was) c.read_at.ensures (with_moved _ c.in_ok-read_at.was)
    c.finished.ensures
