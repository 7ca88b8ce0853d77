-- `walk::must_can` meets its contract: a memory of one word has no entry.
-- Assumes nothing.
use lib.Dec.{lit<}
use Rattle.walk.proofs.Entries.{no_words}
use Rattle.walk.proofs.Steps.{walked_here}
use Rattle.walk.proofs.must_can.Goals as goal

pub walk-a-requires : goal.walk-a-requires
walk-a-requires c = (c.requires, no_words _ (lit< tt))

pub returns : goal.returns
returns c = walked_here c.walk-a.ensures.0
