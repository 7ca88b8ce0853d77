-- `scan::abort_sizes`: the longer path is told by the call. Assumes nothing.
use Rattle.convert.proofs.ScanMeasures.{abort_is}
use Rattle.convert.proofs.scan.abort_sizes.Goals as goal

pub returns : goal.returns
returns c = abort_is _ _ c.longer.ensures
