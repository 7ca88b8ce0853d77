-- `scan::alone_sizes`: each arm by its number. Assumes nothing.
use mathlib.Core.Path.{sym, ap, ◌∙◌}
use native.Mathlib.Omega.{arith}
use Rattle.convert.specs.Scans.{alone_sizes}
use Rattle.convert.proofs.ScanMeasures.{alone_plain}
use Rattle.convert.proofs.scan.alone_sizes.Goals as goal

pub returns-in-17 : goal.returns-in-17
unfolding alone_sizes
returns-in-17 c = c.sized.ensures ∙ sym (ap alone_sizes c.in-17.is)

pub returns-in-18 : goal.returns-in-18
unfolding alone_sizes
returns-in-18 c = c.sized-in-18.ensures ∙ sym (ap alone_sizes c.in-18.is)

pub returns-in-25 : goal.returns-in-25
unfolding alone_sizes
returns-in-25 c = c.sized-in-25.ensures ∙ sym (ap alone_sizes c.in-25.is)

pub returns-in-32 : goal.returns-in-32
unfolding alone_sizes
returns-in-32 c = c.sized-in-32.ensures ∙ sym (ap alone_sizes c.in-32.is)

pub returns-in-33 : goal.returns-in-33
unfolding alone_sizes
returns-in-33 c = c.sized-in-33.ensures ∙ sym (ap alone_sizes c.in-33.is)

pub returns-in-34 : goal.returns-in-34
unfolding alone_sizes
returns-in-34 c = c.sized-in-34.ensures ∙ sym (ap alone_sizes c.in-34.is)

pub returns-in_default : goal.returns-in_default
returns-in_default c =
    c.sized-in_default.ensures ∙ sym (alone_plain _ (λ e. omega arith) (λ e. omega arith) (λ e. omega arith) (λ e. omega arith) (λ e. omega arith) (λ e. omega arith))
