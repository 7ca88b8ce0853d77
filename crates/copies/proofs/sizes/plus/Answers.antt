-- `sizes::plus`: the sum as far as the cap.
use Rattle.std.proofs.Common.{arith}
use Rattle.std.proofs.lemmas.Bool.Decides.{nat_tests}
use Rattle.copies.specs.Sizes.{capped}
use Rattle.copies.proofs.sizes.plus.Goals as goal

pub returns : goal.returns
unfolding capped
returns c = grind (arith, nat_tests)
