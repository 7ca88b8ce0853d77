-- `words::pauses::kept_caught` meets its contract: the codes are lowered.
-- Assumes nothing.
use Rattle.words.proofs.PauseLaws.{kept_of}
use mathlib.Core.Path.{refl}
use Rattle.words.proofs.pauses.kept_caught.Goals as goal

pub returns : goal.returns
returns c = kept_of c.kept_with.ensures.0 c.kept_with.ensures.1 c.lowered.ensures refl
