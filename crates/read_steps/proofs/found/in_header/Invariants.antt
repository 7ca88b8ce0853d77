-- `found::in_header`: the names passed so far, and the one looked for among them. Assumes nothing.
use Prim.Native.Nat.{◌-◌}
use lib.ListN.{length}
use Rattle.read_steps.specs.Found.{word_at}
use Rattle.read_steps.proofs.FoundLaws.{Passing}
use Rattle.read_steps.proofs.found.in_header.Given as goal

abbrev pub invariant-loop-t : goal.invariant-loop-t
invariant-loop-t l = Passing l.text l.end (word_at l.text l.name) l.at l.p

abbrev pub decreases-loop-t : goal.decreases-loop-t
decreases-loop-t l = length l.text - l.at
