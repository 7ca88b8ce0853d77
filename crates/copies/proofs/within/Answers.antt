-- `within`: the limits one after the other.
use Rattle.std.proofs.Common.{arith}
use Rattle.std.proofs.lemmas.Bool.Decides.{nat_tests}
use Rattle.copies.specs.Doubling.{size_within}
use Rattle.copies.proofs.within.Goals as goal

pub returns-then-size-le128 : goal.returns-then-size-le128
unfolding size_within
returns-then-size-le128 c = grind (arith, nat_tests)

pub returns-else-size-le128 : goal.returns-else-size-le128
unfolding size_within
returns-else-size-le128 c = grind (arith, nat_tests)
