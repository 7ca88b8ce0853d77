-- `steps::when_step`: the operand of the suspend's record. Assumes nothing.
use Rattle.read_steps.specs.Moves.{made}
use Rattle.read_steps.proofs.StepLaws.{link_right, when_held}
use Rattle.read_steps.proofs.steps.when_step.Goals as goal

pub returns : goal.returns
unfolding made
returns c =
    λ levels name. record { does = λ text at g h ok. when_held text h c.args.signal (c.put_operand.ensures g.block g.here.link (link_right text h) h.written) }
