-- `walk::walk_shelf`: the entries before the place are read, and the reading goes on from there. Assumes nothing.
use mathlib.Core.Path.{◌≡◌}
use Prim.Native.Nat.{◌-◌}
use lib.ListN.{length}
use Rattle.shelf.proofs.Walking.{Walking}
use Rattle.shelf.proofs.walk.walk_shelf.Given as goal

abbrev pub invariant-loop-at : goal.invariant-loop-at
invariant-loop-at l = Walking l.shelf l.at × (length l.shelf ≡ 65536)

abbrev pub decreases-loop-at : goal.decreases-loop-at
decreases-loop-at l = length l.shelf - l.at
