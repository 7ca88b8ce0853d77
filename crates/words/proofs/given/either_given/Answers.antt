-- `words::given::either_given` meets its contract: the unions of two words.
-- Assumes nothing.
use Rattle.words.proofs.WordLaws.{either_is}
use Rattle.words.proofs.given.either_given.Goals as goal

pub returns : goal.returns
returns c = either_is c.args.a c.args.b
