-- `scan::tested_as`: each arm by its number. Assumes nothing.
use mathlib.Core.Path.{sym, ap}
use native.Mathlib.Omega.{arith}
use Rattle.convert.specs.Scans.{tested_as}
use Rattle.convert.proofs.ScanTests.{tested_plain}
use Rattle.convert.proofs.scan.tested_as.Goals as goal

pub returns-in-32 : goal.returns-in-32
unfolding tested_as
returns-in-32 c = sym (ap tested_as c.in-32.is)

pub returns-in-33 : goal.returns-in-33
unfolding tested_as
returns-in-33 c = sym (ap tested_as c.in-33.is)

pub returns-in-34 : goal.returns-in-34
unfolding tested_as
returns-in-34 c = sym (ap tested_as c.in-34.is)

pub returns-in-35 : goal.returns-in-35
unfolding tested_as
returns-in-35 c = sym (ap tested_as c.in-35.is)

pub returns-in_default : goal.returns-in_default
returns-in_default c = sym (tested_plain _ (λ e. omega arith) (λ e. omega arith) (λ e. omega arith) (λ e. omega arith))
