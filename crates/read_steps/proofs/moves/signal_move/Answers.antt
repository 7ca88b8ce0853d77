-- `moves::signal_move`: a row for each arm. Assumes nothing.
use mathlib.Core.Path.{sym, ap}
use Rattle.read_steps.specs.Moves.{signal_move}
use Rattle.read_steps.specs.declared.modes.Mode.{Mode}
use Rattle.read_steps.proofs.MoveLaws.{signal_other}
use Rattle.read_steps.proofs.moves.signal_move.Goals as goal

pub returns-in-EmitName : goal.returns-in-EmitName
unfolding signal_move
returns-in-EmitName c = sym (ap (λ (m : Mode). signal_move m c.args.n) c.in-EmitName.is)

pub returns-in-PresentName : goal.returns-in-PresentName
unfolding signal_move
returns-in-PresentName c = sym (ap (λ (m : Mode). signal_move m c.args.n) c.in-PresentName.is)

pub returns-in-WhenName : goal.returns-in-WhenName
unfolding signal_move
returns-in-WhenName c = sym (ap (λ (m : Mode). signal_move m c.args.n) c.in-WhenName.is)

pub returns-in_default : goal.returns-in_default
returns-in_default c = signal_other c.args.mode c.args.n c.in_default.not-EmitName c.in_default.not-PresentName c.in_default.not-WhenName
