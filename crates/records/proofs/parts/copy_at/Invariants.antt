-- `parts::copy_at`: the bytes copied so far stand in place of those that were there. Assumes nothing.
use mathlib.Core.Path.{◌≡◌}
use lib.ListN.{length}
use lib.Seq.{paste}
use Rattle.records.proofs.parts.copy_at.Given as goal

abbrev pub invariant-loop-i : goal.invariant-loop-i
invariant-loop-i l = (length l.to ≡ length l.initial.to) × (l.to ≡ paste l.initial.to l.at l.from l.i)
