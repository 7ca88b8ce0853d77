-- `codes::code_bit` meets its contract: one bit is shifted to its place.
-- Assumes nothing.
use native.Mathlib.Omega.{arith}
use Rattle.sets.proofs.Words.{is_set, is_shift}
use Rattle.tables.proofs.codes.code_bit.Goals as goal

pub returns-then-n-lt32 : goal.returns-then-n-lt32
returns-then-n-lt32 c = λ h. is_set (is_shift 32 h)

pub returns-else-n-lt32 : goal.returns-else-n-lt32
returns-else-n-lt32 c = λ h. absurd (omega (arith, c.if-n-lt32.false, h))
