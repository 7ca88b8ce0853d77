-- `words::pauses::kept_again` meets its contract: the codes and pauses of the part.
-- Assumes nothing.
use Rattle.words.proofs.PauseLaws.{kept_of}
use mathlib.Core.Path.{refl}
use Rattle.words.proofs.pauses.kept_again.Goals as goal

pub returns : goal.returns
returns c = kept_of c.kept_with.ensures.0 c.kept_with.ensures.1 refl refl
