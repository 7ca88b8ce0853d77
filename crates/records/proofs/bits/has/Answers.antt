-- `bits::has`: the bit of the word that has it. Assumes nothing.
use mathlib.Core.Path.{sym}
use lib.ListN.{get_or}
use Rattle.sets.specs.Words.{bits}
use Rattle.records.proofs.TwoWords.{in_low, in_high}
use Rattle.records.proofs.bits.has.Goals as goal

pub returns-then-n-lt64 : goal.returns-then-n-lt64
unfolding bits
returns-then-n-lt64 c = sym (in_low (get_or c.args.active 0 0) (get_or c.args.active 1 0) c.if-n-lt64.true)

pub returns-else-n-lt64 : goal.returns-else-n-lt64
unfolding bits
returns-else-n-lt64 c = sym (in_high (get_or c.args.active 0 0) (get_or c.args.active 1 0) c.if-n-lt64.false)
