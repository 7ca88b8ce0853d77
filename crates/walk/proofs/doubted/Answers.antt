-- `walk::doubted` meets its contract: both branches and the signal were asked for.
-- Assumes nothing.
use mathlib.Core.Path.{ap₂, ◌∙◌}
use lib.Bits.{bit_or}
use Rattle.sets.specs.Numbers.{union}
use Rattle.words.proofs.WordLaws.{union_is}
use Rattle.walk.proofs.doubted.Goals as goal

pub returns : goal.returns
returns c =
    (record { in_must = c.nothing_given-must.ensures; in_can = c.either_given-can.ensures }, λ l. union_is (bit_or c.args.p.reads c.args.q.reads) c.bit-b.result ∙ ap₂ union (union_is c.args.p.reads c.args.q.reads) (c.bit-b.ensures l))
