-- `bits::bit_from`: from 64 on the shifted word is 0. Assumes nothing.
use mathlib.Core.Path.{sym, ap, ◌∙◌}
use mathlib.Core.Bool.{not}
use Prim.Native.Nat.{ℕ}
use lib.Dec.{eqb}
use borrow.Author.Tests.{le-ltb}
use Rattle.records.proofs.TwoWords.{shifted_out}
use Rattle.records.proofs.bits.bit_from.Goals as goal

pub returns-else-from-lt64 : goal.returns-else-from-lt64
returns-else-from-lt64 c = le-ltb c.args.from 64 c.if-from-lt64.false ∙ sym (ap (λ (x : ℕ). not (eqb x 0)) (shifted_out c.ranges.word.fits c.if-from-lt64.false))
