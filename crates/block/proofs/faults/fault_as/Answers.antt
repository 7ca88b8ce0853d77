-- `faults::fault_as` meets its contract: at each return the tests before it passed and the last one failed. Assumes nothing.
use native.Mathlib.Omega.{arith}
use Rattle.refusals.specs.Refusals.{number}
use Rattle.refusals.specs.declared.Why.TheVariants.{Broken, Kind, Limit, Signal, Exit}
use Rattle.block.specs.Format.{fault_as}
use Rattle.block.proofs.Tests.{at_fault, no_fault_at}
use Rattle.block.proofs.faults.fault_as.Goals as goal

pub returns-then-broken : goal.returns-then-broken
unfolding fault_as number
returns-then-broken c = at_fault Broken (grind arith) c.at.ensures

pub returns-then-record_length-two_bytes : goal.returns-then-record_length-two_bytes
unfolding fault_as number
returns-then-record_length-two_bytes c = at_fault Kind (grind arith) c.at-then-record_length-two_bytes.ensures

pub returns-then-limit_passed : goal.returns-then-limit_passed
unfolding fault_as number
returns-then-limit_passed c = at_fault Limit (grind arith) c.at-then-limit_passed.ensures

pub returns-then-signal_wrong : goal.returns-then-signal_wrong
unfolding fault_as number
returns-then-signal_wrong c = at_fault Signal (grind arith) c.at-then-signal_wrong.ensures

pub returns-then-exit_wrong : goal.returns-then-exit_wrong
unfolding fault_as number
returns-then-exit_wrong c = at_fault Exit (grind arith) c.at-then-exit_wrong.ensures

pub returns : goal.returns
unfolding fault_as
returns c = no_fault_at _ (grind arith)
