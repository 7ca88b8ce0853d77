-- `words::given::both_given` meets its contract: the codes are those of `larger`.
-- Assumes nothing.
use Rattle.words.proofs.WordLaws.{both_is}
use Rattle.words.proofs.given.both_given.Goals as goal

pub returns : goal.returns
returns c = both_is c.args.a c.args.b c.larger-codes.result c.larger-codes.ensures
