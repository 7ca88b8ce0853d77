-- `forms::active::actives` meets its contract: behind the rows in use nothing is active, and the rows from i on are right; a row's children stand after it.
-- Assumes nothing.
use mathlib.Core.Path.{◌≡◌}
use lib.ListN.{length}
use Rattle.sets.specs.Words.{set_of}
use Rattle.forms.specs.Forms.{LiveFrom}
use Rattle.forms.proofs.active.actives.Given as goal

abbrev pub invariant-loop-i : goal.invariant-loop-i
invariant-loop-i l = (length l.live ≡ 512) × LiveFrom l.table (set_of l.set) l.live l.i
