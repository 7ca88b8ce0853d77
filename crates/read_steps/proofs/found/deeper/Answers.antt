-- `found::deeper`: one more trap for a trap. Assumes nothing.
use mathlib.Core.Path.{sym, ap, subst}
use native.Mathlib.Omega.{arith}
use Rattle.read_steps.specs.Found.{TrapBelow, beyond_trap}
use Rattle.read_steps.proofs.found.deeper.Goals as goal

pub overflow_add-result : goal.overflow_add-result
unfolding TrapBelow
overflow_add-result c = omega (arith, subst (TrapBelow 1025) c.in-Trap.is c.requires)

pub returns-in-Nothing : goal.returns-in-Nothing
unfolding beyond_trap
returns-in-Nothing c = sym (ap beyond_trap c.in-Nothing.is)

pub returns-in-Signal : goal.returns-in-Signal
unfolding beyond_trap
returns-in-Signal c = sym (ap beyond_trap c.in-Signal.is)

pub returns-in-Trap : goal.returns-in-Trap
unfolding beyond_trap
returns-in-Trap c = sym (ap beyond_trap c.in-Trap.is)
