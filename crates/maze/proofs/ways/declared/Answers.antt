-- `maze::ways::declared` meets its contract: the two counts are widened.
-- Assumes nothing.
use mathlib.Core.Path.{ap₂}
use Prim.Native.Nat.{ℕ, ◌+◌}
use lib.Dec.{ltb}
use Rattle.maze.proofs.ways.declared.Goals as goal

pub returns : goal.returns
returns c = ap₂ (λ (x y : ℕ). ltb c.args.a (x + y)) c.wide.ensures.0 c.wide-2.ensures.0
