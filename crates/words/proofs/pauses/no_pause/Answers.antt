-- `words::pauses::no_pause` meets its contract: two empty words.
-- Assumes nothing.
use Rattle.words.proofs.PauseLaws.{none_kept}
use Rattle.words.proofs.pauses.no_pause.Goals as goal

pub returns : goal.returns
returns c = none_kept
