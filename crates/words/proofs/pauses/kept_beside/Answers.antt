-- `words::pauses::kept_beside` meets its contract: the larger codes, and both sets of pauses.
-- Assumes nothing.
use Rattle.words.proofs.PauseLaws.{kept_of}
use Rattle.words.proofs.pauses.kept_beside.Goals as goal

pub returns : goal.returns
returns c = kept_of c.kept_with.ensures.0 c.kept_with.ensures.1 c.larger.ensures c.joined.ensures
