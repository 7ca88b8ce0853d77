-- `words::pauses::has_pause` meets its contract: the word that has the pause goes by the bounds 64 and 128.
-- Assumes nothing.
use Rattle.words.proofs.PauseLaws.{low_test, high_test, no_test}
use Rattle.words.proofs.pauses.has_pause.Goals as goal

pub returns-then-n-lt64 : goal.returns-then-n-lt64
returns-then-n-lt64 c = low_test c.args.a c.args.n c.if-n-lt64.true

pub returns-then-n-lt128 : goal.returns-then-n-lt128
returns-then-n-lt128 c = high_test c.args.a c.args.n c.if-n-lt64.false c.if-n-lt128.true

pub returns : goal.returns
returns c = no_test c.args.a c.args.n c.if-n-lt128.false
