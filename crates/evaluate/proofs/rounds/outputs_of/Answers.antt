-- `evaluate::rounds::outputs_of` meets its contract: the signals below inputs plus outputs without the inputs.
-- Assumes nothing.
use Rattle.evaluate.proofs.RoundLaws.{outs_is}
use Rattle.evaluate.proofs.rounds.outputs_of.Goals as goal

pub returns : goal.returns
returns c = outs_is c.args.inputs c.args.outputs c.below-first.result c.below-all.result c.below-first.ensures c.below-all.ensures
