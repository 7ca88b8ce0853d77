-- `clash::in_parallel`: the walk comes to the lowest statement above both. Assumes nothing.
use Prim.Native.Nat.{◌-◌}
use Rattle.rules.specs.Statements.{Stmt}
use Rattle.records.specs.Clashing.{Place}
use Rattle.records.proofs.Steps.{Reaches}
use Rattle.records.proofs.clash.in_parallel.Given as goal

abbrev pub invariant-loop-at : goal.invariant-loop-at
invariant-loop-at l = (t : Stmt) → Place l.table.kinds l.table.sizes l.firsts l.m l.n 0 t → Reaches l.table.kinds l.table.sizes l.firsts l.m l.n t l.at

abbrev pub decreases-loop-at : goal.decreases-loop-at
decreases-loop-at l = 512 - l.at
