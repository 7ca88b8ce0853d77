-- `code_sets::has_code` meets its contract: the code reads the bit.
-- Assumes nothing.
use mathlib.Core.Path.{refl}
use Rattle.sets.specs.Words.{bits}
use Rattle.code_sets.proofs.has_code.Goals as goal

pub returns-then-n-lt32 : goal.returns-then-n-lt32
unfolding bits
returns-then-n-lt32 c = λ h. refl
