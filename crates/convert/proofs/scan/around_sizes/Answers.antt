-- `scan::around_sizes`: each arm by its number. Assumes nothing.
use mathlib.Core.Path.{sym, ◌∙◌}
use native.Mathlib.Omega.{arith}
use Rattle.convert.proofs.ScanMeasures.{suspend_sizes, trap_sizes, local_sizes, form_sizes, around_plain}
use Rattle.convert.proofs.scan.around_sizes.Goals as goal

pub returns-in-20 : goal.returns-in-20
returns-in-20 c = c.onto.ensures ∙ suspend_sizes _ _ c.in-20.is

pub returns-in-24 : goal.returns-in-24
returns-in-24 c = c.onto-in-24.ensures ∙ trap_sizes _ _ c.in-24.is

pub returns-in-26 : goal.returns-in-26
returns-in-26 c = c.onto-in-26.ensures ∙ local_sizes _ _ c.in-26.is

pub returns-in-35 : goal.returns-in-35
returns-in-35 c = c.abort_sizes.ensures ∙ form_sizes _ _ c.in-35.is

pub returns-in_default : goal.returns-in_default
returns-in_default c =
    c.onto-in_default.ensures ∙ sym (around_plain _ _ (λ e. omega arith) (λ e. omega arith) (λ e. omega arith) (λ e. omega arith))
