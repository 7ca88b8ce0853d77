-- `evaluate::rounds::code_in` meets its contract: the trailing zeros of a set that has a member.
-- Assumes nothing.
use Rattle.sets.proofs.Words.{lowest_there}
use Rattle.evaluate.proofs.rounds.code_in.Goals as goal

pub returns : goal.returns
returns c = λ f. lowest_there 32 c.ranges.codes.fits f
