-- `steps::close_step`: a bracket of the place, no place left, or the place. Assumes nothing.
use native.Mathlib.Omega.{arith}
use mathlib.Core.Path.{refl}
use Rattle.read_steps.specs.Moves.{made}
use Rattle.read_steps.proofs.StepLaws.{close_bracket, close_none, close_place}
use Rattle.read_steps.proofs.steps.close_step.Goals as goal

pub returns-then-top-gt0 : goal.returns-then-top-gt0
unfolding made
returns-then-top-gt0 c = λ out name. record { does = λ text at g h ok. close_bracket text h c.args.mode ok c.if-top-gt0.true refl }

pub returns-then-depth-eq0 : goal.returns-then-depth-eq0
unfolding made
returns-then-depth-eq0 c =
    λ out name. record { does = λ text at g h ok. close_none text h c.args.mode (omega (arith, c.if-top-gt0.false)) c.if-depth-eq0.true }

pub returns : goal.returns
unfolding made
returns c =
    λ out name. record { does = λ text at g h ok. close_place text h c.args.mode ok (omega (arith, c.if-top-gt0.false)) c.if-depth-eq0.false refl }
