-- `evaluate::rounds::marked_by` meets its contract: bit by bit.
-- Assumes nothing.
use Rattle.evaluate.proofs.RoundLaws.{marks_are}
use Rattle.evaluate.proofs.rounds.marked_by.Goals as goal

pub returns : goal.returns
returns c = marks_are c.args.outs c.args.marks c.args.a
