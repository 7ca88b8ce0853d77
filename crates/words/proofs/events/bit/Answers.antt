-- `words::events::bit` meets its contract: a shifted 1 is the set of one signal, and no signal lies beyond.
-- Assumes nothing.
use Rattle.words.proofs.WordLaws.{shifted}
use native.Mathlib.Omega.{arith}
use Rattle.words.proofs.events.bit.Goals as goal

pub returns-then-s-lt64 : goal.returns-then-s-lt64
returns-then-s-lt64 c = λ h. shifted 64 h

pub returns-else-s-lt64 : goal.returns-else-s-lt64
returns-else-s-lt64 c = λ h. absurd (omega arith)
