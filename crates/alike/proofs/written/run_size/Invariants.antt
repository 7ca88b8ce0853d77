-- `written::run_size` meets its contract: the sets passed, and those that lead to the pair looked at.
-- Assumes nothing.
use mathlib.Core.Path.{◌≡◌}
use Prim.Native.Nat.{ℕ, ◌+◌, ◌≤◌}
use Rattle.pairs.specs.Runs.{Run, size}
use Rattle.alike.specs.Ends.{Linked}
use Rattle.alike.proofs.written.run_size.Given as goal

abbrev pub invariant-loop-k : goal.invariant-loop-k
invariant-loop-k l = (l.n + l.k ≤ l.at) × ((walk : ℕ → Run) → Linked l.links walk (l.at + 1) → l.n + size (walk l.k) ≡ size (walk l.at))

abbrev pub decreases-loop-k : goal.decreases-loop-k
decreases-loop-k l = l.k
