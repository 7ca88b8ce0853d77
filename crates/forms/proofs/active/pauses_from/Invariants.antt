-- `forms::active::pauses_from` meets its contract: the count is 0 only while no row that was passed is a pause. Assumes nothing.
use mathlib.Core.Path.{◌≡◌}
use Prim.Native.Nat.{ℕ, ◌≤◌, ◌<◌}
use lib.ListN.{get_or}
use Rattle.forms.proofs.active.pauses_from.Given as goal

abbrev pub invariant-loop-i : goal.invariant-loop-i
invariant-loop-i l = (l.found ≤ l.i) × (l.found ≡ 0 → (j : ℕ) → l.from ≤ j → j < l.i → get_or l.table.kinds j 0 ≡ 17 → ⊥)
