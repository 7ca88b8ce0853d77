-- `forms::active::held_pauses` meets its contract: the rows passed have given their active pauses.
-- Assumes nothing.
use mathlib.Core.Path.{◌≡◌}
use Rattle.forms.specs.Forms.{pauses_in, among}
use Rattle.sets.specs.Words.{set_of}
use Rattle.forms.proofs.active.held_pauses.Given as goal

abbrev pub invariant-loop-n : goal.invariant-loop-n
invariant-loop-n l = set_of l.kept ≡ among (set_of l.set) (pauses_in l.table l.at l.n)
