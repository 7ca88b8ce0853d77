-- `names::digits`: the digits that are there and those to come are the number in decimal. Assumes nothing.
use mathlib.Core.Path.{refl}
use native.Mathlib.Omega.{arith}
use Rattle.write_text.proofs.NameLaws.{digits_begun, code_small, digits_more, digits_ended}
use borrow.Author.Rules.{rules}
use Rattle.write_text.proofs.names.digits.Goals as goal

pub loop-left-init : goal.loop-left-init
loop-left-init c = digits_begun _ (search rules)

pub overflow_mul-code : goal.overflow_mul-code
overflow_mul-code c = let s = code_small c.loop-left.invariant in omega (arith, s)

pub overflow_add-code : goal.overflow_add-code
overflow_add-code c = let s = code_small c.loop-left.invariant in omega (arith, s)

pub overflow_add-code-in-loop-left : goal.overflow_add-code-in-loop-left
overflow_add-code-in-loop-left c = let s = code_small c.loop-left.invariant in omega (arith, s)

pub loop-left-preserved : goal.loop-left-preserved
loop-left-preserved c = digits_more c.loop-left.invariant c.loop-left-test.true refl

pub overflow_mul-result : goal.overflow_mul-result
overflow_mul-result c = let s = code_small c.loop-left.invariant in omega (arith, s)

pub overflow_add-result : goal.overflow_add-result
overflow_add-result c = let s = code_small c.loop-left.invariant in omega (arith, s, c.loop-left-test.false)

pub overflow_add-result-2 : goal.overflow_add-result-2
overflow_add-result-2 c = let s = code_small c.loop-left.invariant in omega (arith, s, c.loop-left-test.false)

pub returns : goal.returns
returns c =
    record { result_value = digits_ended c.loop-left.invariant (omega (arith, c.loop-left-test.false)) refl; upper_bound = omega (arith, code_small c.loop-left.invariant, c.loop-left-test.false) }
