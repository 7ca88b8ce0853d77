-- `forms::form::arm` meets its contract: by the flag.
-- Assumes nothing.
use mathlib.Core.Path.{sym, ap}
use mathlib.Core.Bool.{cond}
use Rattle.forms.specs.declared.form.Task.{Task}
use Rattle.forms.specs.declared.form.Going.TheVariants.{Resumed, Idle}
use Rattle.forms.proofs.form.arm.Goals as goal

pub returns-then-active : goal.returns-then-active
returns-then-active c = ap {B = Task} (λ b. record { at = c.args.at; going = cond b Resumed Idle }) (sym c.if-active.true)

pub returns-else-active : goal.returns-else-active
returns-else-active c = ap {B = Task} (λ b. record { at = c.args.at; going = cond b Resumed Idle }) (sym c.if-active.false)
