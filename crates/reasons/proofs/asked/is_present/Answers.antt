-- `reasons::asked::is_present` meets its contract: the code reads the bit.
use mathlib.Core.Path.{refl}
use Rattle.std.proofs.Common.{arith, ◌≡◌, false}
use Rattle.std.proofs.lemmas.Bool.Decides.{nat_tests}
use Rattle.sets.specs.Words.{bits}
use Rattle.sets.proofs.Words.{bits_high}
use Rattle.reasons.proofs.asked.is_present.Goals as goal

pub returns-then-s-lt64-clause-value : goal.returns-then-s-lt64-clause-value
unfolding bits
returns-then-s-lt64-clause-value c = refl

pub returns-else-s-lt64-clause-value : goal.returns-else-s-lt64-clause-value
returns-else-s-lt64-clause-value c = let e : bits c.args.outputs c.args.s ≡ false = bits_high 64 c.ranges.outputs.fits (omega arith) in grind (arith, nat_tests)
