-- `codes::codes_for`: a pause completes with 1, and the kinds that are left with 0. Assumes nothing.
use native.Mathlib.Omega.{arith}
use Rattle.sets.proofs.Words.{is_set, is_single}
use Rattle.tables.specs.Codes.{codes_for}
use Rattle.tables.proofs.CodeLaws.{code_zero}
use Rattle.tables.proofs.codes.codes_for.Goals as goal

pub returns-in-17 : goal.returns-in-17
unfolding codes_for
returns-in-17 c = λ h. rw c.in-17.is (is_set (is_single 1))

pub returns-in_default : goal.returns-in_default
returns-in_default c = λ h. let e = is_set (is_single 0) in grind (arith, code_zero)
