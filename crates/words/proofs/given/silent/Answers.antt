-- `words::given::silent` meets its contract: no signal, and the set of one code.
-- Assumes nothing.
use Rattle.words.proofs.WordLaws.{quiet_is}
use Rattle.words.proofs.given.silent.Goals as goal

pub returns : goal.returns
returns c = λ h. quiet_is c.code_bit-codes.result c.args.c.0 (c.code_bit-codes.ensures h)
