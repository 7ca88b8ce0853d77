-- `steps::next_number`: one more where a signal is declared. Assumes nothing.
use mathlib.Core.Path.{◌≡◌, sym, ap, ◌∙◌}
use Prim.Native.Nat.{suc, ◌+◌}
use native.Mathlib.Omega.{arith}
use Rattle.read_steps.specs.Moves.{next_after}
use Rattle.read_steps.specs.declared.levels.Scope.{Scope}
use Rattle.read_steps.proofs.MoveLaws.{next_same}
use Rattle.read_steps.proofs.steps.next_number.Goals as goal

pub returns-in-SignalBody : goal.returns-in-SignalBody
unfolding next_after
returns-in-SignalBody c =
    let e : c.args.next + 1 ≡ suc c.args.next = omega arith in
    e ∙ sym (ap (λ (k : Scope). next_after k c.args.next) c.in-SignalBody.is)

pub returns-in_default : goal.returns-in_default
returns-in_default c = next_same c.args.kind c.args.next c.in_default.not-SignalBody
