-- `places::held_of`: what is summed, and what the entries that are still due add to it. Assumes nothing.
use Prim.Native.Nat.{◌-◌}
use Rattle.shelf.proofs.Passing.{Summed}
use Rattle.shelf.proofs.places.held_of.Given as goal

abbrev pub invariant-loop-at : goal.invariant-loop-at
invariant-loop-at l = Summed l.shelf l.end l.party l.held l.at

abbrev pub decreases-loop-at : goal.decreases-loop-at
decreases-loop-at l = l.end - l.at
