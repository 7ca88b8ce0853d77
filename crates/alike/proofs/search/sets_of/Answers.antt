-- `search::sets_of` meets its contract: one bit.
-- Assumes nothing.
use native.Mathlib.Omega.{arith}
use Rattle.sets.proofs.Words.{shift_one}
use Rattle.alike.proofs.search.sets_of.Goals as goal

pub overflow_shl-result : goal.overflow_shl-result
overflow_shl-result c = omega (arith, c.requires)

pub returns : goal.returns
returns c = shift_one _ 8 (omega (arith, c.requires))
