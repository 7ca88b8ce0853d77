-- `words::given::gives_zero` meets its contract: bit 0 is the remainder by 2.
-- Assumes nothing.
use Rattle.sets.proofs.Words.{bits_first}
use mathlib.Core.Path.{sym}
use Rattle.words.proofs.given.gives_zero.Goals as goal

pub returns : goal.returns
returns c = sym (bits_first c.args.codes)
