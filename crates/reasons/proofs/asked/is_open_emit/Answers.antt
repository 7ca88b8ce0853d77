-- `reasons::asked::is_open_emit` meets its contract: the three tests one after the other.
use Rattle.std.proofs.Common.{rules, tests, arith}
use Rattle.std.proofs.lemmas.Bool.Decides.{nat_tests}
use Rattle.reasons.specs.Taking.{open_emit}
use Rattle.reasons.proofs.asked.is_open_emit.Goals as goal

pub returns-then-table-n-eq-EMIT : goal.returns-then-table-n-eq-EMIT
unfolding open_emit
returns-then-table-n-eq-EMIT c = grind (arith, nat_tests)

pub returns-else-table-n-eq-EMIT : goal.returns-else-table-n-eq-EMIT
unfolding open_emit
returns-else-table-n-eq-EMIT c = search (rules, tests)
