-- `clash::named_clash`: no pair before the present one clashes, so that the pair at the label is the first. Assumes nothing.
use mathlib.Core.Path.{◌≡◌}
use Prim.Native.Nat.{◌-◌, ◌<◌}
use Rattle.std.specs.Prelude.{None}
use Rattle.sets.specs.Words.{set_of}
use Rattle.rules.specs.Statements.{Stmt}
use Rattle.records.specs.Clashing.{Searchable}
use Rattle.records.proofs.Pairs.{ClearFirst, ClearSecond}
use Rattle.records.proofs.clash.named_clash.Given as goal

abbrev pub invariant-loop-n : goal.invariant-loop-n
invariant-loop-n l = (l.found ≡ None) × (l.m < l.n) × ((t : Stmt) → Searchable l.table.kinds l.table.sizes l.count l.active t → ClearSecond t (set_of l.active) l.m l.n)

abbrev pub decreases-loop-n : goal.decreases-loop-n
decreases-loop-n l = l.pauses - l.n

abbrev pub invariant-pairs : goal.invariant-pairs
invariant-pairs l = (l.found ≡ None) × ((t : Stmt) → Searchable l.table.kinds l.table.sizes l.count l.active t → ClearFirst t (set_of l.active) l.m)

abbrev pub decreases-pairs : goal.decreases-pairs
decreases-pairs l = l.pauses - l.m
