-- `words::pauses::kept_unknown` meets its contract: two empty sets.
-- Assumes nothing.
use Rattle.words.proofs.PauseLaws.{none_kept}
use Rattle.words.proofs.WordLaws.{bits_none}
use Rattle.words.proofs.pauses.kept_unknown.Goals as goal

pub returns : goal.returns
returns c = (bits_none, none_kept)
