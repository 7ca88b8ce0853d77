-- `words::pauses::kept_with` meets its contract: bit 1 of the codes decides.
-- Assumes nothing.
use Rattle.words.proofs.PauseLaws.{kept_one, kept_other}
use mathlib.Core.Path.{refl}
use Rattle.words.proofs.pauses.kept_with.Goals as goal

pub returns-then-codes-eq1 : goal.returns-then-codes-eq1
returns-then-codes-eq1 c = (refl, kept_one c.args.codes c.args.pauses c.if-codes-eq1.true)

pub returns-else-codes-eq1 : goal.returns-else-codes-eq1
returns-else-codes-eq1 c = (refl, kept_other c.args.codes c.args.pauses c.if-codes-eq1.false)
