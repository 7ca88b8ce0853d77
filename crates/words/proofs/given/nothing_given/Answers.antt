-- `words::given::nothing_given` meets its contract: two empty words.
-- Assumes nothing.
use Rattle.words.proofs.WordLaws.{nothing_is}
use Rattle.words.proofs.given.nothing_given.Goals as goal

pub returns : goal.returns
returns c = nothing_is
