-- `walk::inside`: a trap's mark, an abort's, or those that there were. Assumes nothing.
use native.Mathlib.Omega.{arith}
use Rattle.convert.proofs.MarkLaws.{word_small, inside_trap, inside_abort, inside_other}
use Rattle.convert.proofs.walk.inside.Goals as goal

pub overflow_mul-result : goal.overflow_mul-result
overflow_mul-result c = omega (arith, word_small c.requires)

pub overflow_add-result : goal.overflow_add-result
overflow_add-result c = omega (arith, word_small c.requires)

pub overflow_mul-result-in-35 : goal.overflow_mul-result-in-35
overflow_mul-result-in-35 c = omega (arith, word_small c.requires)

pub returns-in-24 : goal.returns-in-24
returns-in-24 c = inside_trap c.requires c.in-24.is

pub returns-in-35 : goal.returns-in-35
returns-in-35 c = inside_abort c.requires c.in-35.is

pub returns-in_default : goal.returns-in_default
returns-in_default c = inside_other c.requires c.in_default.in_default-own.rest.0.1 c.in_default.in_default-own.rest.1
