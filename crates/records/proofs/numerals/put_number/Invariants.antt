-- `numerals::put_number`: the stores that are left make of the present bytes what all of them make of the first. Assumes nothing.
use mathlib.Core.Path.{◌≡◌}
use Prim.Native.Nat.{◌+◌, ◌-◌}
use lib.ListN.{length}
use lib.Seq.{sets}
use Rattle.records.specs.Numerals.{in_bytes}
use Rattle.records.proofs.numerals.put_number.Given as goal

abbrev pub invariant-loop-i : goal.invariant-loop-i
invariant-loop-i l = (length l.s ≡ length l.initial.s) × (sets l.s (l.at + l.i) (in_bytes (l.n - l.i) l.rest) ≡ sets l.initial.s l.at (in_bytes l.n l.x))
