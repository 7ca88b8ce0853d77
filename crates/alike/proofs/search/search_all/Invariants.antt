-- `search::search_all` meets its contract: what is known of the rows is kept by each step, and each end says what it must.
-- Assumes nothing.
use Prim.Native.Nat.{◌+◌, ◌-◌, ◌*◌}
use Rattle.alike.proofs.Turning.{Everywhere}
use Rattle.alike.proofs.search.search_all.Given as goal

abbrev pub invariant-loop-next : goal.invariant-loop-next
invariant-loop-next l = Everywhere l.table l.other l.inputs l.outputs l.rows l.links l.s

abbrev pub decreases-loop-next : goal.decreases-loop-next
decreases-loop-next l = 65536 - (l.s.at * 64 + l.s.set)
