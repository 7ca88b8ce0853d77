-- `fields::put_fields`: the stores that are left make of the present bytes what all of them make of the first. Assumes nothing.
use mathlib.Core.Path.{◌≡◌}
use Prim.Native.Nat.{◌+◌}
use lib.ListN.{length, drop}
use lib.Seq.{sets}
use Rattle.records.specs.Fields.{size, laid}
use Rattle.records.proofs.fields.put_fields.Given as goal

abbrev pub invariant-loop-i : goal.invariant-loop-i
invariant-loop-i l = (length l.s ≡ length l.initial.s) × (l.to + size (drop l.i l.widths) ≡ l.at + size l.widths)
    × (sets l.s l.to (laid (drop l.i l.widths) (drop l.i l.values)) ≡ sets l.initial.s l.at (laid l.widths l.values))
