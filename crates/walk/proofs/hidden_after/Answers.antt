-- `walk::hidden_after` meets its contract: both answers, and what was asked for in both walks, without the signal.
-- Assumes nothing.
use mathlib.Core.Path.{ap, ◌∙◌}
use lib.Bits.{bit_or}
use Rattle.sets.specs.Numbers.{Numbers, union, without}
use Rattle.sets.specs.Words.{bits}
use Rattle.sets.proofs.Members.{ext}
use Rattle.words.proofs.WordLaws.{union_is, without_bit}
use Rattle.walk.proofs.hidden_after.Goals as goal

pub returns : goal.returns
returns c =
    λ l. (
      record { in_must = c.hidden_given-must.ensures l; in_can = c.hidden_given-can.ensures l },
      ext (without_bit (bit_or c.known_reads.result c.args.a.reads) c.bit-b.result c.args.s (c.bit-b.ensures l))
          ∙ ap (without c.args.s) (union_is c.known_reads.result c.args.a.reads ∙ ap (λ (y : Numbers). union y (bits c.args.a.reads)) c.known_reads.ensures),
    )
