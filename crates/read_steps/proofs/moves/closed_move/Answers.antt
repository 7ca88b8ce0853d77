-- `moves::closed_move`: a row for what opened the level. Assumes nothing.
use mathlib.Core.Path.{sym, ap, ◌∙◌}
use Rattle.read_steps.specs.Moves.{closed_move}
use Rattle.read_steps.specs.declared.levels.Scope.{Scope}
use Rattle.read_steps.proofs.moves.closed_move.Goals as goal

pub returns-in-Outermost : goal.returns-in-Outermost
unfolding closed_move
returns-in-Outermost c = sym (ap (λ (l : Scope). closed_move l c.args.sign) c.in-Outermost.is)

pub returns-in-ThenPart : goal.returns-in-ThenPart
unfolding closed_move
returns-in-ThenPart c = c.expected.ensures ∙ sym (ap (λ (l : Scope). closed_move l c.args.sign) c.in-ThenPart.is)

pub returns-in-SuspendBody : goal.returns-in-SuspendBody
unfolding closed_move
returns-in-SuspendBody c = c.expected-in-SuspendBody.ensures ∙ sym (ap (λ (l : Scope). closed_move l c.args.sign) c.in-SuspendBody.is)

pub returns-in-InBrackets : goal.returns-in-InBrackets
unfolding closed_move
returns-in-InBrackets c = c.expected-in-InBrackets.ensures ∙ sym (ap (λ (l : Scope). closed_move l c.args.sign) c.in-InBrackets.is)

pub returns-in-EndPart : goal.returns-in-EndPart
unfolding closed_move
returns-in-EndPart c = c.expected-in-EndPart.ensures ∙ sym (ap (λ (l : Scope). closed_move l c.args.sign) c.in-EndPart.is)

pub returns-in-TrapBody : goal.returns-in-TrapBody
unfolding closed_move
returns-in-TrapBody c = c.expected-in-TrapBody.ensures ∙ sym (ap (λ (l : Scope). closed_move l c.args.sign) c.in-TrapBody.is)

pub returns-in-SignalBody : goal.returns-in-SignalBody
unfolding closed_move
returns-in-SignalBody c = c.expected-in-SignalBody.ensures ∙ sym (ap (λ (l : Scope). closed_move l c.args.sign) c.in-SignalBody.is)
