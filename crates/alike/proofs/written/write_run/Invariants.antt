-- `written::write_run` meets its contract: what stands in front of the bytes written is the run to the pair that is looked at.
-- Assumes nothing.
use mathlib.Core.Path.{◌≡◌}
use mathlib.Core.List.{◌++◌}
use Prim.Native.Nat.{ℕ, ◌+◌, ◌≤◌}
use lib.ListN.{drop}
use Rattle.pairs.specs.Runs.{Run, size, bytes_of}
use Rattle.alike.specs.Ends.{Linked}
use Rattle.alike.proofs.written.write_run.Given as goal

abbrev pub invariant-loop-i : goal.invariant-loop-i
invariant-loop-i l = (l.k ≤ l.fn.last.parent) × ((walk : ℕ → Run) → Linked l.links walk (l.fn.last.parent + 1) → (l.i ≡ size (walk l.k)) × (bytes_of (walk l.k) ++ drop l.i l.run ≡ bytes_of (walk l.fn.last.parent) ++ drop l.n l.initial.run))
