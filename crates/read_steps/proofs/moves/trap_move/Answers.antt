-- `moves::trap_move`: a row for each arm. Assumes nothing.
use mathlib.Core.Path.{sym, ap}
use Rattle.read_steps.specs.Moves.{trap_move}
use Rattle.read_steps.specs.declared.modes.Mode.{Mode}
use Rattle.read_steps.proofs.MoveLaws.{trap_other}
use Rattle.read_steps.proofs.moves.trap_move.Goals as goal

pub returns-in-ExitName : goal.returns-in-ExitName
unfolding trap_move
returns-in-ExitName c = sym (ap (λ (m : Mode). trap_move m c.args.d) c.in-ExitName.is)

pub returns-in_default : goal.returns-in_default
returns-in_default c = trap_other c.args.mode c.args.d c.in_default.not-ExitName
