-- `faults::header_fault` meets its contract: at each return the tests before it passed and the last one failed. Assumes nothing.
use native.Mathlib.Omega.{arith}
use Rattle.refusals.specs.Refusals.{number}
use Rattle.refusals.specs.declared.Why.TheVariants.{Broken, Kind, Edition, Limit}
use Rattle.block.specs.Format.{header_fault_in, header}
use Rattle.block.proofs.Tests.{at_fault, no_fault_at}
use Rattle.block.proofs.faults.header_fault.Goals as goal

pub returns-then-broken : goal.returns-then-broken
unfolding header_fault_in number
returns-then-broken c = at_fault Broken (grind arith) c.at.ensures

pub returns-then-two_bytes-ne1 : goal.returns-then-two_bytes-ne1
unfolding header_fault_in number
returns-then-two_bytes-ne1 c = at_fault Kind (grind arith) c.at-then-two_bytes-ne1.ensures

pub returns-then-two_bytes-edition : goal.returns-then-two_bytes-edition
unfolding header_fault_in number
returns-then-two_bytes-edition c = at_fault Edition (grind arith) c.at-then-two_bytes-edition.ensures

pub returns-then-signals_passed : goal.returns-then-signals_passed
unfolding header_fault_in header number
returns-then-signals_passed c = at_fault Limit (grind arith) c.at-then-signals_passed.ensures

pub returns : goal.returns
unfolding header_fault_in header
returns c = no_fault_at _ (grind arith)
