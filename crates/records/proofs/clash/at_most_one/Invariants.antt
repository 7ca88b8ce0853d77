-- `clash::at_most_one`: none before the present one is active. Assumes nothing.
use Prim.Native.Nat.{ℕ, ◌-◌, ◌<◌}
use lib.Dec.{T}
use Rattle.sets.specs.Words.{set_of}
use Rattle.records.proofs.clash.at_most_one.Given as goal

abbrev pub invariant-loop-m : goal.invariant-loop-m
invariant-loop-m l = (k : ℕ) → k < l.m → T (set_of l.active k) → ⊥

abbrev pub decreases-loop-m : goal.decreases-loop-m
decreases-loop-m l = l.pauses - l.m
