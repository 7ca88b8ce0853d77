-- `words::pauses::kept_here` meets its contract: code 1, and the pauses given.
-- Assumes nothing.
use Rattle.sets.proofs.Words.{is_set, is_single}
use mathlib.Core.Path.{refl}
use Rattle.words.proofs.pauses.kept_here.Goals as goal

pub returns : goal.returns
returns c = (is_set (is_single 1), refl)
