-- `layout::put_values`: the stores that are left make of the present bytes what all of them make of the first. Assumes nothing.
use mathlib.Core.Path.{◌≡◌}
use Prim.Native.Nat.{◌*◌}
use lib.ListN.{length, drop}
use lib.Seq.{sets}
use Rattle.exports.specs.Layout.{laid}
use Rattle.exports.proofs.layout.put_values.Given as goal

abbrev pub invariant-loop-i : goal.invariant-loop-i
invariant-loop-i l = (length l.answer ≡ length l.initial.answer) × (sets l.answer (8 * l.i) (laid (drop l.i l.values)) ≡ sets l.initial.answer 0 (laid l.values))
