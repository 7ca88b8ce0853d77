-- `code_sets::larger` meets its contract: the two double shifts are the law of maxima in words of 32 bits, worked out in 64, and its result fits.
-- Assumes nothing.
use native.Mathlib.Omega.{arith}
use lib.Bits.{or_lt}
use lib.Count.{trailing_le}
use Rattle.sets.proofs.Words.{maxima_is, maxima_lt}
use Rattle.code_sets.proofs.larger.Goals as goal

pub overflow_cast-either : goal.overflow_cast-either
overflow_cast-either c = record { fits = omega (arith, or_lt 32 c.args.a c.args.b c.ranges.a.fits c.ranges.b.fits) }

pub overflow_cast-above : goal.overflow_cast-above
overflow_cast-above c = record { fits = omega (arith, trailing_le 32 c.args.a) }

pub overflow_shr-above : goal.overflow_shr-above
overflow_shr-above c = omega (arith, trailing_le 32 c.args.a)

pub overflow_cast-above-2 : goal.overflow_cast-above-2
overflow_cast-above-2 c = record { fits = omega (arith, trailing_le 32 c.args.a) }

pub overflow_shl-above : goal.overflow_shl-above
overflow_shl-above c = omega (arith, trailing_le 32 c.args.a)

pub overflow_cast-both : goal.overflow_cast-both
overflow_cast-both c = record { fits = omega (arith, trailing_le 32 c.args.b) }

pub overflow_shr-both : goal.overflow_shr-both
overflow_shr-both c = omega (arith, trailing_le 32 c.args.b)

pub overflow_cast-both-2 : goal.overflow_cast-both-2
overflow_cast-both-2 c = record { fits = omega (arith, trailing_le 32 c.args.b) }

pub overflow_shl-both : goal.overflow_shl-both
overflow_shl-both c = omega (arith, trailing_le 32 c.args.b)

pub overflow_cast-result : goal.overflow_cast-result
overflow_cast-result c = record { fits = maxima_lt 32 64 (omega arith) c.args.a c.args.b c.ranges.a.fits c.ranges.b.fits }

pub returns : goal.returns
returns c = maxima_is 32 64 (omega arith) c.args.a c.args.b c.ranges.a.fits c.ranges.b.fits
