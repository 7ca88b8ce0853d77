-- `places::entry_of`: where the name is, counted from the entries that are still due. Assumes nothing.
use Prim.Native.Nat.{◌-◌}
use Rattle.shelf.proofs.Passing.{Sought}
use Rattle.shelf.proofs.places.entry_of.Given as goal

abbrev pub invariant-loop-at : goal.invariant-loop-at
invariant-loop-at l = Sought l.shelf l.end l.party l.name l.at

abbrev pub decreases-loop-at : goal.decreases-loop-at
decreases-loop-at l = l.end - l.at
