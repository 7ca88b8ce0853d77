-- `clash::some_clash`: of the rows gone through, from the last on, each has its flag and no two active pauses clash. Assumes nothing.
use mathlib.Core.Path.{◌≡◌}
use lib.ListN.{length}
use Rattle.records.specs.Clashing.{Quiet}
use Rattle.records.proofs.clash.some_clash.Given as goal

abbrev pub invariant-loop-i : goal.invariant-loop-i
invariant-loop-i l = (length l.live ≡ 512) × Quiet l.table.kinds l.table.sizes l.count l.active l.live l.i
