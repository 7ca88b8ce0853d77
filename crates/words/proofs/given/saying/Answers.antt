-- `words::given::saying` meets its contract: the set of one signal, and code 0.
-- Assumes nothing.
use Rattle.words.proofs.WordLaws.{loud_is}
use Rattle.words.proofs.given.saying.Goals as goal

pub returns : goal.returns
returns c = λ h. loud_is c.bit-signals.result c.args.s (c.bit-signals.ensures h)
