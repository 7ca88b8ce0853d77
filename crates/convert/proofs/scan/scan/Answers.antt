-- `scan::scan` meets its contract: each return is one end of the reading, and its lemma stands in ScanEnds. Assumes nothing.
use Rattle.convert.proofs.ScanWays.{passed_on}
use Rattle.convert.proofs.ScanEnds.{over_size, no_fault, bad_header, ready_start, signals_fit, small_bytes, tree_refused, tree_ends}
use Rattle.convert.proofs.scan.scan.Goals as goal

pub returns-then-b-gt3086 : goal.returns-then-b-gt3086
returns-then-b-gt3086 c = rw c.at.ensures (over_size _ c.if-b-gt3086.true)

pub returns-in_err-header_fault : goal.returns-in_err-header_fault
returns-in_err-header_fault c =
    bad_header _ c.if-b-gt3086.false c.header_fault.ensures c.in_err-header_fault.was (passed_on c.from_residual.result c.from_residual.ensures)

pub scan_at-requires : goal.scan_at-requires
scan_at-requires c =
    let f = no_fault _ c.header_fault.ensures c.in_ok-header_fault.was in
    ready_start _ c.if-b-gt3086.false _ c.declared-d.ensures f

pub returns-in_err-tree : goal.returns-in_err-tree
returns-in_err-tree c =
    let f = no_fault _ c.header_fault.ensures c.in_ok-header_fault.was in
    tree_refused _ c.if-b-gt3086.false _ c.declared-d.ensures f c.scan_at.ensures c.in_err-tree.was (passed_on c.from_residual-in_err-tree.result c.from_residual-in_err-tree.ensures)

pub ended-requires : goal.ended-requires
ended-requires c =
    let f = no_fault _ c.header_fault.ensures c.in_ok-header_fault.was in
    (small_bytes _ c.if-b-gt3086.false _ c.declared-d.ensures f c.scan_at.ensures c.in_ok-tree.was, signals_fit _ c.if-b-gt3086.false _ c.declared-d.ensures f)

pub returns : goal.returns
returns c =
    let f = no_fault _ c.header_fault.ensures c.in_ok-header_fault.was in
    tree_ends _ c.if-b-gt3086.false _ c.declared-d.ensures f c.scan_at.ensures c.in_ok-tree.was _ c.ended.ensures
