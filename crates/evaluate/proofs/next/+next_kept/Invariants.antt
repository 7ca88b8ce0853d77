-- The proof of the cycle of calls {next_kept}: each way is a lemma of KeptSteps; the measure is the subtree's size.
-- Assumes nothing.
use lib.ListN.{get_or}
use Rattle.evaluate.proofs.next.+next_kept.Given as goal

abbrev pub decreases-next_kept : goal.decreases-next_kept
decreases-next_kept l = get_or l.table.now.sizes l.task.at 0
