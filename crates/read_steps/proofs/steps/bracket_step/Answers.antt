-- `steps::bracket_step`: one more of the same place, one place too many, or a new one. Assumes nothing.
use mathlib.Core.Path.{refl}
use Rattle.read_steps.specs.Moves.{made}
use Rattle.read_steps.specs.Holding.{state_of}
use native.Mathlib.Omega.{arith}
use Rattle.read_steps.proofs.StepLaws.{bracket_held, bracket_burst, bracket_opened}
use Rattle.read_steps.proofs.LevelLaws.{stored}
use Rattle.read_steps.proofs.steps.bracket_step.Goals as goal

pub returns-then-s : goal.returns-then-s
unfolding made state_of
returns-then-s c = λ out name. record { does = λ text at g h ok. bracket_held text h ok c.if-s.true refl }

pub returns-then-depth-eq1024 : goal.returns-then-depth-eq1024
unfolding made state_of
returns-then-depth-eq1024 c = λ out name. record { does = λ text at g h ok. bracket_burst text h ok c.if-s.false c.if-depth-eq1024.true }

pub returns : goal.returns
unfolding made state_of
returns c =
    λ out name. record { does = λ text at g h ok. bracket_opened text h ok c.if-s.false (stored c.args.levels.now c.args.s.depth c.args.s.top (omega arith)) c.if-depth-eq1024.false }
