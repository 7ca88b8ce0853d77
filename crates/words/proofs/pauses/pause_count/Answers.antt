-- `words::pauses::pause_count` meets its contract: the members of both words are added.
-- Assumes nothing.
use Rattle.words.proofs.PauseLaws.{pauses_counted}
use mathlib.Core.Path.{ap₂, ◌∙◌}
use Prim.Native.Nat.{ℕ, ◌+◌}
use Rattle.words.proofs.pauses.pause_count.Goals as goal

pub returns : goal.returns
returns c = ap₂ (λ (x y : ℕ). x + y) c.members_of.ensures.1 c.members_of-2.ensures.1 ∙ pauses_counted c.args.a
