-- `phase_after` meets its contract: code 1 keeps running, any other finishes.
use Rattle.reaction.proofs.Ways.{running_phase, finished_phase}
use Rattle.reaction.proofs.phase_after.Goals as goal

pub returns-then-code-eq1 : goal.returns-then-code-eq1
returns-then-code-eq1 c = λ A. running_phase c.args.code.0 c.if-code-eq1.true A

pub returns-else-code-eq1 : goal.returns-else-code-eq1
returns-else-code-eq1 c = λ A. finished_phase c.args.code.0 c.if-code-eq1.false A
