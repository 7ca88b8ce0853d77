-- `evaluate::rounds::round_of` meets its contract: the marks of must's and can's words are the definition's round.
-- Assumes nothing.
use native.Mathlib.Omega.{arith}
use Rattle.walk.proofs.Steps.{walked_here}
use Rattle.evaluate.proofs.RoundLaws.{rounded_is, same_set}
use Rattle.evaluate.proofs.rounds.round_of.Goals as goal

pub heard_in-e-requires : goal.heard_in-e-requires
heard_in-e-requires c = omega (arith, c.requires.0)

pub walk-a-requires : goal.walk-a-requires
walk-a-requires c = (c.requires.1, c.requires.2)

pub outputs_of-outs-requires : goal.outputs_of-outs-requires
outputs_of-outs-requires c = c.requires.0

pub returns : goal.returns
returns c =
    (rounded_is c.args.inputs c.args.outputs c.heard_in-e.ensures (walked_here c.walk-a.ensures.0) (same_set c.outputs_of-outs.ensures c.marked_by.ensures), c.walk-a.ensures.1)
