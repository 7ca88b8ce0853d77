-- `reasons::lowest::is_cut` meets its contract: the tests one after the other.
use Rattle.std.proofs.Common.{arith}
use Rattle.std.proofs.lemmas.Bool.Decides.{nat_tests}
use Rattle.reasons.specs.Taking.{cut_rows}
use Rattle.reasons.proofs.lowest.is_cut.Goals as goal

pub returns-then-n-row : goal.returns-then-n-row
unfolding cut_rows
returns-then-n-row c = grind (arith, nat_tests)

pub returns-else-n-row : goal.returns-else-n-row
unfolding cut_rows
returns-else-n-row c = grind (arith, nat_tests)
