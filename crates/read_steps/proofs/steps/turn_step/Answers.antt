-- `steps::turn_step`: the second part of a present. Assumes nothing.
use Rattle.read_steps.specs.Moves.{made}
use Rattle.read_steps.proofs.StepLaws.{turn_held}
use Rattle.read_steps.proofs.steps.turn_step.Goals as goal

pub returns : goal.returns
unfolding made
returns c = λ levels out name. record { does = λ text at g h ok. turn_held text h ok }
