-- `steps::sequence_step`: a record before the last basic statement. Assumes nothing.
use Rattle.read_steps.specs.Moves.{made}
use Rattle.read_steps.proofs.StepLaws.{short_21, link_right, sequence_held}
use Rattle.read_steps.proofs.steps.sequence_step.Goals as goal

pub insert-size-requires : goal.insert-size-requires
insert-size-requires c = record { out_len = c.requires; short = short_21 }

pub returns : goal.returns
unfolding made
returns c =
    λ levels name. record { does = λ text at g h ok. sequence_held text h short_21 (c.insert-size.ensures g.block g.here.link (link_right text h) h.written) }
