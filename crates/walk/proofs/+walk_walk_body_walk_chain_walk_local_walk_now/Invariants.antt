-- The proof of the cycle of calls of the walk: each way is a lemma of Steps, and the memory stays sound from call to call. The measure is four times the size of the
-- statement, with up to three more for the functions between two statements.
-- Assumes nothing.
use Prim.Native.Nat.{◌+◌, ◌*◌, max}
use lib.ListN.{get_or}
use Rattle.walk.proofs.+walk_walk_body_walk_chain_walk_local_walk_now.Given as goal

abbrev pub decreases-walk : goal.decreases-walk
decreases-walk l = 4 * get_or l.table.now.sizes l.task.at 0 + 1

abbrev pub decreases-walk_body : goal.decreases-walk_body
decreases-walk_body l = 4 * get_or l.table.now.sizes l.p.at 0 + 2

abbrev pub decreases-walk_chain : goal.decreases-walk_chain
decreases-walk_chain l = 4 * max (get_or l.table.now.sizes l.p.at 0) (get_or l.table.now.sizes l.q.at 0) + 2

abbrev pub decreases-walk_local : goal.decreases-walk_local
decreases-walk_local l = 4 * get_or l.table.now.sizes l.p.at 0 + 3

abbrev pub decreases-walk_now : goal.decreases-walk_now
decreases-walk_now l = 4 * get_or l.table.now.sizes l.task.at 0
