-- `words::pauses::kept_none` meets its contract: one code, and no pause.
-- Assumes nothing.
use Rattle.words.proofs.PauseLaws.{none_kept}
use Rattle.words.proofs.pauses.kept_none.Goals as goal

pub returns : goal.returns
returns c = (none_kept, c.code_bit-codes.ensures)
