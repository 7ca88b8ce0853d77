-- `moves::new_move`: a row for each arm. Assumes nothing.
use mathlib.Core.Path.{sym, ap}
use Rattle.read_steps.specs.Moves.{new_move}
use Rattle.read_steps.specs.declared.modes.Mode.{Mode}
use Rattle.read_steps.proofs.MoveLaws.{new_other}
use Rattle.read_steps.proofs.moves.new_move.Goals as goal

pub returns-in-TrapName : goal.returns-in-TrapName
unfolding new_move
returns-in-TrapName c = sym (ap (λ (m : Mode). new_move m c.args.next) c.in-TrapName.is)

pub returns-in-SignalName : goal.returns-in-SignalName
unfolding new_move
returns-in-SignalName c = sym (ap (λ (m : Mode). new_move m c.args.next) c.in-SignalName.is)

pub returns-in_default : goal.returns-in_default
returns-in_default c = new_other c.args.mode c.args.next c.in_default.not-TrapName c.in_default.not-SignalName
