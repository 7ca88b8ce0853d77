-- `faults::statement_fault` meets its contract: a record that is due is tested as one of its own kind. Assumes nothing.
use mathlib.Core.Path.{sym, ap, ◌∙◌}
use Prim.Native.Nat.{ℕ}
use Rattle.refusals.specs.Refusals.{number}
use Rattle.refusals.specs.declared.Why.TheVariants.{Shape}
use Rattle.block.specs.Told.{tested}
use Rattle.block.proofs.Tests.{at_fault, fault_shape, fault_due}
use Rattle.block.proofs.faults.statement_fault.Goals as goal

pub returns-then-b-at : goal.returns-then-b-at
unfolding number
returns-then-b-at c = at_fault Shape (fault_shape _ _ _ _ _ c.if-b-at.true) c.at.ensures

pub returns : goal.returns
returns c = c.fault_as.ensures ∙ sym (ap (λ (n : ℕ). tested n c.args.r.at) (fault_due _ _ _ _ _ c.if-b-at.false _ c.two_bytes-kind.ensures))
