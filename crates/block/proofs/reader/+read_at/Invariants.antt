-- `reader::read_at` meets its contract. The invariant is `Children`: those read so far, from what stood before the loop. The measure
-- is the room on the path.
-- Assumes nothing.
use Rattle.block.proofs.Ways.{Children}
use Rattle.block.proofs.reader.+read_at.Given as goal

abbrev pub decreases-read_at : goal.decreases-read_at
decreases-read_at l = l.c.room

abbrev pub invariant-loop : goal.invariant-loop
invariant-loop l = Children l.fn.b l.fn.d l.around l.initial.r l.initial.table l.counter l.r l.table
