-- `words::pauses::joined` meets its contract: word by word.
-- Assumes nothing.
use Rattle.words.proofs.PauseLaws.{joined_is}
use Rattle.words.proofs.pauses.joined.Goals as goal

pub returns : goal.returns
returns c = joined_is c.args.a c.args.b
