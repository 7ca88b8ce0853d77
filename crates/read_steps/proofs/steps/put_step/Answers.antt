-- `steps::put_step`: a record at the end. Assumes nothing.
use Rattle.read_steps.specs.Moves.{made}
use Rattle.read_steps.proofs.StepLaws.{put_held}
use Rattle.read_steps.proofs.steps.put_step.Goals as goal

pub returns : goal.returns
unfolding made
returns c =
    λ levels name. record { does = λ text at g h ok. put_held text h c.args.kind c.args.operand (c.append-size.ensures g.block h.written) }
