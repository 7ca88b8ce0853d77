-- `bytes::put_name`: what is left of the number is what is left to put. Assumes nothing.
use Rattle.write_text.proofs.Putting.{NameLeft}
use Rattle.write_text.proofs.bytes.put_name.Given as goal

abbrev pub invariant-loop-left : goal.invariant-loop-left
invariant-loop-left l = NameLeft l.initial.out l.out l.to l.name l.at l.left

abbrev pub decreases-loop-left : goal.decreases-loop-left
decreases-loop-left l = l.left
