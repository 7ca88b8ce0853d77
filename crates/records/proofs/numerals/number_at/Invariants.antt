-- `numerals::number_at`: the sum is the field of the bytes passed so far, from the highest down. Assumes nothing.
use mathlib.Core.Path.{◌≡◌}
use Prim.Native.Nat.{◌+◌, ◌-◌, ◌<◌, ◌^◌}
use Rattle.records.specs.Numerals.{field}
use Rattle.records.proofs.numerals.number_at.Given as goal

abbrev pub invariant-loop-k : goal.invariant-loop-k
invariant-loop-k l = (l.x ≡ field l.s (l.at + l.k) (l.n - l.k)) × (l.x < 256 ^ (l.n - l.k))
