-- `scan::over_limits`: by the first limit that is passed. Assumes nothing.
use mathlib.Core.Path.{sym}
use Rattle.convert.proofs.ScanMeasures.{over_statements, over_pauses, over_traps, over_nested, over_path}
use Rattle.convert.proofs.scan.over_limits.Goals as goal

pub returns-then-s-gt512 : goal.returns-then-s-gt512
returns-then-s-gt512 c = sym (over_statements _ c.if-s-gt512.true)

pub returns-then-s-gt128 : goal.returns-then-s-gt128
returns-then-s-gt128 c = sym (over_pauses _ c.if-s-gt512.false c.if-s-gt128.true)

pub returns-then-s-gt16 : goal.returns-then-s-gt16
returns-then-s-gt16 c = sym (over_traps _ c.if-s-gt512.false c.if-s-gt128.false c.if-s-gt16.true)

pub returns-then-s-gt6 : goal.returns-then-s-gt6
returns-then-s-gt6 c = sym (over_nested _ c.if-s-gt512.false c.if-s-gt128.false c.if-s-gt16.false c.if-s-gt6.true)

pub returns : goal.returns
returns c = sym (over_path _ c.if-s-gt512.false c.if-s-gt128.false c.if-s-gt16.false c.if-s-gt6.false)
