-- `steps::parallel_step`: a record before the last arm. Assumes nothing.
use Rattle.read_steps.specs.Moves.{made}
use Rattle.read_steps.proofs.StepLaws.{short_23, arm_right, parallel_held}
use Rattle.read_steps.proofs.steps.parallel_step.Goals as goal

pub insert-size-requires : goal.insert-size-requires
insert-size-requires c = record { out_len = c.requires; short = short_23 }

pub returns : goal.returns
unfolding made
returns c =
    λ levels name. record { does = λ text at g h ok. parallel_held text h short_23 (c.insert-size.ensures g.block g.here.arm (arm_right text h) h.written) }
