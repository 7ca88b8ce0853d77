-- `words::pauses::members_of` meets its contract: the ones of a word are its members.
-- Assumes nothing.
use lib.Count.{ones-le}
use Rattle.sets.proofs.Words.{ones_count}
use Rattle.words.proofs.pauses.members_of.Goals as goal

pub returns : goal.returns
returns c = (ones-le 64 c.args.w c.ranges.w.fits, ones_count 64 c.ranges.w.fits)
