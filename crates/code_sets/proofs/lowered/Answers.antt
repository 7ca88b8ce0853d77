-- `code_sets::lowered` meets its contract: the digits are moved as the codes are.
-- Assumes nothing.
use native.Mathlib.Omega.{arith}
use Rattle.code_sets.proofs.Laws.{lowered_digit, lowered_is}
use Rattle.code_sets.proofs.lowered.Goals as goal

pub overflow_add-result-2 : goal.overflow_add-result-2
overflow_add-result-2 c = omega (arith, lowered_digit c.args.codes, c.ranges.codes)

pub returns : goal.returns
returns c = lowered_is c.args.codes
