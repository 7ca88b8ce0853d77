-- `names::digits`: the digits that are there and those to come are the number in decimal. Assumes nothing.
use Rattle.write_text.proofs.NameLaws.{DigitsLeft}
use Rattle.write_text.proofs.names.digits.Given as goal

abbrev pub invariant-loop-left : goal.invariant-loop-left
invariant-loop-left l = DigitsLeft l.n l.code l.left

abbrev pub decreases-loop-left : goal.decreases-loop-left
decreases-loop-left l = l.left
