-- `moves::sign_move`: a row for each arm. Assumes nothing.
use mathlib.Core.Path.{sym, ap, ◌∙◌}
use Rattle.read_steps.specs.Moves.{sign_move}
use Rattle.read_steps.specs.declared.modes.Mode.{Mode}
use Rattle.read_steps.proofs.MoveLaws.{sign_other}
use Rattle.read_steps.proofs.moves.sign_move.Goals as goal

pub returns-in-Due : goal.returns-in-Due
unfolding sign_move
returns-in-Due c = c.due_move.ensures ∙ sym (ap (λ (m : Mode). sign_move m c.args.closer c.args.sign) c.in-Due.is)

pub returns-in-After : goal.returns-in-After
unfolding sign_move
returns-in-After c = c.after_move.ensures ∙ sym (ap (λ (m : Mode). sign_move m c.args.closer c.args.sign) c.in-After.is)

pub returns-in-ThenDue : goal.returns-in-ThenDue
unfolding sign_move
returns-in-ThenDue c = c.expected.ensures ∙ sym (ap (λ (m : Mode). sign_move m c.args.closer c.args.sign) c.in-ThenDue.is)

pub returns-in-InDue : goal.returns-in-InDue
unfolding sign_move
returns-in-InDue c = c.expected-in-InDue.ensures ∙ sym (ap (λ (m : Mode). sign_move m c.args.closer c.args.sign) c.in-InDue.is)

pub returns-in_default : goal.returns-in_default
returns-in_default c = sign_other c.args.mode c.args.closer c.args.sign c.in_default.not-Due c.in_default.not-After c.in_default.not-ThenDue c.in_default.not-InDue
