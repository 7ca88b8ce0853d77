-- `words::events::has_signal` meets its contract: the test of a mask is the test of the bit.
-- Assumes nothing.
use Rattle.words.proofs.WordLaws.{test_bit}
use Rattle.words.proofs.events.has_signal.Goals as goal

pub returns : goal.returns
returns c = λ h. test_bit c.args.w c.bit.result c.args.s (c.bit.ensures h)
