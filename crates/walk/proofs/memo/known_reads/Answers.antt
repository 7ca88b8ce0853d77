-- `walk::memo::known_reads` meets its contract: bit by bit.
-- Assumes nothing.
use Rattle.walk.proofs.Entries.{known_word}
use Rattle.walk.proofs.memo.known_reads.Goals as goal

pub returns : goal.returns
returns c = known_word c.args.e c.args.reads
