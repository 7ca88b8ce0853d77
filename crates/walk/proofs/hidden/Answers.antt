-- `walk::hidden` meets its contract: both answers, and what was asked for, without the signal.
-- Assumes nothing.
use Rattle.sets.proofs.Members.{ext}
use Rattle.words.proofs.WordLaws.{without_bit}
use Rattle.walk.proofs.hidden.Goals as goal

pub returns : goal.returns
returns c =
    λ l.
    (record { in_must = c.hidden_given-must.ensures l; in_can = c.hidden_given-can.ensures l }, ext (without_bit c.args.a.reads c.bit-b.result c.args.s (c.bit-b.ensures l)))
