-- `faults::in_scope` meets its contract: a word has no bit at or above 64. Assumes nothing.
use mathlib.Core.Path.{sym, ◌∙◌}
use borrow.Author.Tests.{le-ltb}
use Rattle.sets.proofs.Words.{bits_high}
use Rattle.block.proofs.faults.in_scope.Goals as goal

pub returns-else-s-lt64 : goal.returns-else-s-lt64
returns-else-s-lt64 c = le-ltb _ _ c.if-s-lt64.false ∙ sym (bits_high 64 c.ranges.scope.fits c.if-s-lt64.false)
