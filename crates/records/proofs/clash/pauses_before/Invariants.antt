-- `clash::pauses_before`: the counter is the count of pauses before the place, and is kept at each. Assumes nothing.
use mathlib.Core.Path.{◌≡◌}
use Prim.Native.Nat.{ℕ, ◌≤◌, ◌<◌}
use lib.ListN.{length, get_or}
use Rattle.records.specs.Clashing.{before}
use Rattle.records.proofs.clash.pauses_before.Given as goal

abbrev pub invariant-loop-i : goal.invariant-loop-i
invariant-loop-i l = (length l.firsts ≡ 512) × (l.n ≤ l.i) × (l.n ≡ before l.table.kinds l.i) × ((j : ℕ) → j < l.i → get_or l.firsts j 0 ≡ before l.table.kinds j)
