-- `whole::offset_of` meets its contract. The invariant is `Summed`: the offset of statement i so far.
-- Assumes nothing.
use Rattle.block.proofs.Offsets.{Summed}
use Rattle.block.proofs.whole.offset_of.Given as goal

abbrev pub invariant-loop-kind : goal.invariant-loop-kind
invariant-loop-kind l = Summed l.table.kinds l.n l.at l.kind-index
