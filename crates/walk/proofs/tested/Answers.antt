-- `walk::tested` meets its contract: one signal more was asked for.
-- Assumes nothing.
use mathlib.Core.Path.{refl, ap, ◌∙◌}
use Rattle.sets.specs.Numbers.{union}
use Rattle.sets.specs.Words.{bits}
use Rattle.words.proofs.WordLaws.{union_is}
use Rattle.walk.proofs.tested.Goals as goal

pub returns : goal.returns
returns c = (refl, λ l. union_is c.args.a.reads c.bit-b.result ∙ ap (union (bits c.args.a.reads)) (c.bit-b.ensures l))
