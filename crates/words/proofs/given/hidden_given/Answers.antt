-- `words::given::hidden_given` meets its contract: a bit is cleared.
-- Assumes nothing.
use Rattle.words.proofs.WordLaws.{hidden_is}
use Rattle.words.proofs.given.hidden_given.Goals as goal

pub returns : goal.returns
returns c = λ h. hidden_is c.args.a c.bit-b.result c.args.s (c.bit-b.ensures h)
