-- `code_sets::without_zero` meets its contract: bit 0 is cleared.
-- Assumes nothing.
use Rattle.code_sets.proofs.Laws.{without_zero_is}
use Rattle.code_sets.proofs.without_zero.Goals as goal

pub returns : goal.returns
returns c = without_zero_is c.args.codes
