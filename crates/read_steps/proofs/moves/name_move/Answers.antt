-- `moves::name_move`: by what the name stands for. Assumes nothing.
use mathlib.Core.Path.{sym, ap, ◌∙◌}
use Rattle.read_steps.specs.Moves.{found_move}
use Rattle.read_steps.proofs.moves.name_move.Goals as goal

pub returns-in-Nothing : goal.returns-in-Nothing
unfolding found_move
returns-in-Nothing c = c.new_move.ensures ∙ sym (ap (λ f. found_move c.args.mode f c.args.next) c.in-Nothing.is)

pub returns-in-Signal : goal.returns-in-Signal
unfolding found_move
returns-in-Signal c = c.signal_move.ensures ∙ sym (ap (λ f. found_move c.args.mode f c.args.next) c.in-Signal.is)

pub returns-in-Trap : goal.returns-in-Trap
unfolding found_move
returns-in-Trap c = c.trap_move.ensures ∙ sym (ap (λ f. found_move c.args.mode f c.args.next) c.in-Trap.is)
