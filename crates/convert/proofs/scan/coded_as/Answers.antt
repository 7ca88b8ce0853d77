-- `scan::coded_as`: each arm by its number or its range. Assumes nothing.
use mathlib.Core.Path.{sym, ap}
use native.Mathlib.Omega.{arith}
use Rattle.convert.specs.Scans.{coded_as}
use Rattle.convert.proofs.ScanMeasures.{coded_stop, coded_plain}
use Rattle.convert.proofs.scan.coded_as.Goals as goal

pub returns-in-35 : goal.returns-in-35
unfolding coded_as
returns-in-35 c = sym (ap coded_as c.in-35.is)

pub returns-in-32-to-34 : goal.returns-in-32-to-34
returns-in-32-to-34 c = sym (coded_stop _ (omega arith) (omega arith))

pub returns-in_default : goal.returns-in_default
returns-in_default c = sym (coded_plain _ (λ e. omega arith) (λ e. omega arith) (λ e. omega arith) (λ e. omega arith))

pub returns-in_default-2 : goal.returns-in_default-2
returns-in_default-2 c = sym (coded_plain _ (λ e. omega arith) (λ e. omega arith) (λ e. omega arith) (λ e. omega arith))
