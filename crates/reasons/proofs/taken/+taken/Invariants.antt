-- The proof of the cycle of calls {taken}: each way is a lemma of TakenSteps; the measure is the subtree's size.
-- Assumes nothing.
use lib.ListN.{get_or}
use Rattle.reasons.proofs.taken.+taken.Given as goal

abbrev pub decreases-taken : goal.decreases-taken
decreases-taken l = get_or l.table.now.sizes l.task.at 0
