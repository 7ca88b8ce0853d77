-- `evaluate::rounds::all_heard` meets its contract: the absent ones are the inputs without the set's, bit by bit.
-- Assumes nothing.
use Rattle.evaluate.proofs.RoundLaws.{heard_all}
use Rattle.evaluate.proofs.rounds.all_heard.Goals as goal

pub returns : goal.returns
returns c = λ b e. heard_all b c.below-first.result c.args.given c.below-first.ensures e
