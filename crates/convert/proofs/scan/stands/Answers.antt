-- `scan::stands`: a record that is due is tested as its likeness. Assumes nothing.
use mathlib.Core.Path.{sym, ap, ◌∙◌}
use Rattle.convert.proofs.ScanTests.{shape_told, tests_told, due_as}
use Rattle.block.specs.Format.{fault_as}
use Rattle.convert.specs.Scans.{tested_as}
use Rattle.convert.proofs.scan.stands.Goals as goal

pub returns-then-b-at : goal.returns-then-b-at
returns-then-b-at c = rw c.at.ensures (shape_told _ _ _ _ _ c.if-b-at.true)

pub returns : goal.returns
returns c =
    tests_told _ _ _ _ _ _ (ap (fault_as _ _ _ _ _) (c.tested_as.ensures ∙ ap tested_as c.two_bytes-kind.ensures) ∙ sym (due_as _ _ _ _ _ c.if-b-at.false))
    c.fault_as.ensures
