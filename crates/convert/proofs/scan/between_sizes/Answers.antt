-- `scan::between_sizes`: each arm by its number. Assumes nothing.
use mathlib.Core.Path.{sym, ◌∙◌}
use native.Mathlib.Omega.{arith}
use Rattle.convert.proofs.ScanMeasures.{present_sizes, between_plain}
use Rattle.convert.proofs.scan.between_sizes.Goals as goal

pub returns-in-19 : goal.returns-in-19
returns-in-19 c = c.both_sizes.ensures ∙ present_sizes _ _ _ c.in-19.is

pub returns-in_default : goal.returns-in_default
returns-in_default c = c.both_sizes-in_default.ensures ∙ sym (between_plain _ _ _ (λ e. omega arith))
