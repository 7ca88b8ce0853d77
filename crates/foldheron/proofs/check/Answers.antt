-- `check` meets its contract: what is read has the values of the reading.
-- Assumes nothing.
use Rattle.foldheron.proofs.Owed.{check_is}
use Rattle.foldheron.proofs.check.Goals as goal

pub returns : goal.returns
returns c = check_is _ c.read_block.ensures
