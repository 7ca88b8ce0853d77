-- `copying::new_operand`: each arm by its numbers. Assumes nothing.
use mathlib.Core.Path.{◌∙◌}
use native.Mathlib.Omega.{arith}
use Rattle.copies.proofs.CopyLaws.{operand_next, operand_named, operand_kept}
use Rattle.copies.proofs.copying.new_operand.Goals as goal

pub returns-in-26 : goal.returns-in-26
returns-in-26 c = operand_next _ _ _ _ c.in-26.is

pub returns-in-18 : goal.returns-in-18
returns-in-18 c = c.name_of.ensures ∙ operand_named _ _ _ _ (omega arith) (omega arith)

pub returns-in_default : goal.returns-in_default
returns-in_default c = operand_kept _ _ _ _ (λ e. omega arith) (λ e. omega arith) (λ e. omega arith) (λ e. omega arith)

pub returns-in_default-2 : goal.returns-in_default-2
returns-in_default-2 c = operand_kept _ _ _ _ (λ e. omega arith) (λ e. omega arith) (λ e. omega arith) (λ e. omega arith)
