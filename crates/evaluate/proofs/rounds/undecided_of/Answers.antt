-- `evaluate::rounds::undecided_of` meets its contract: the outputs without a mark are counted.
-- Assumes nothing.
use Rattle.evaluate.proofs.RoundLaws.{undecided_is}
use mathlib.Core.Path.{refl, ◌∙◌}
use Rattle.evaluate.proofs.rounds.undecided_of.Goals as goal

pub returns : goal.returns
returns c =
    c.members_of.ensures.1 ∙ undecided_is c.args.marks c.args.inputs c.args.outputs c.outputs_of-outs.result _ c.requires c.outputs_of-outs.ensures refl
