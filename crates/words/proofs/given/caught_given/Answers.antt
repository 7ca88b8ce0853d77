-- `words::given::caught_given` meets its contract: the codes are those of `lowered`.
-- Assumes nothing.
use Rattle.words.proofs.WordLaws.{caught_is}
use Rattle.words.proofs.given.caught_given.Goals as goal

pub returns : goal.returns
returns c = caught_is c.args.a c.lowered-codes.result c.lowered-codes.ensures
