-- `words::pauses::one_pause` meets its contract: the word that has the pause goes by the bound 64.
-- Assumes nothing.
use Rattle.words.proofs.PauseLaws.{low_one, high_one}
use Rattle.words.proofs.WordLaws.{shifted}
use native.Mathlib.Omega.{arith}
use Rattle.words.proofs.pauses.one_pause.Goals as goal

pub returns-then-n-lt64 : goal.returns-then-n-lt64
returns-then-n-lt64 c = λ h. low_one _ c.args.n c.if-n-lt64.true (shifted 64 c.if-n-lt64.true)

pub returns-then-n-lt128 : goal.returns-then-n-lt128
returns-then-n-lt128 c = λ h. high_one _ c.args.n c.if-n-lt64.false (shifted 64 (omega arith))

pub returns : goal.returns
returns c = λ h. absurd (omega arith)
