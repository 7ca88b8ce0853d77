-- `scan::both_sizes`: the longer of two are told by the calls. Assumes nothing.
use Rattle.convert.proofs.ScanMeasures.{both_is}
use Rattle.convert.proofs.scan.both_sizes.Goals as goal

pub returns : goal.returns
returns c = both_is _ _ _ _ _ _ c.longer.ensures c.longer-2.ensures c.longer-3.ensures
