-- `maze::corridors::is_given` meets its contract: the code reads the bit.
-- Assumes nothing.
use mathlib.Core.Path.{refl, sym, ◌∙◌}
use borrow.Author.Tests.{le-ltb}
use Rattle.sets.specs.Words.{bits}
use Rattle.sets.proofs.Words.{bits_high}
use Rattle.maze.proofs.corridors.is_given.Goals as goal

pub returns-then-s-lt64 : goal.returns-then-s-lt64
unfolding bits
returns-then-s-lt64 c = refl

pub returns-else-s-lt64 : goal.returns-else-s-lt64
returns-else-s-lt64 c = le-ltb _ _ c.if-s-lt64.false ∙ sym (bits_high 64 c.ranges.given.fits c.if-s-lt64.false)
