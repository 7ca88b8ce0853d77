-- `reasons::wanted::mark` meets its contract: the mark is stored, or left.
-- Assumes nothing.
use Rattle.reasons.proofs.LeafLaws.{mark_stored, mark_left}
use Rattle.reasons.proofs.wanted.mark.Goals as goal

pub returns-then-wanted : goal.returns-then-wanted
returns-then-wanted c = mark_stored c.args.marks.now c.args.at c.args.wanted c.requires c.if-wanted.true

pub returns-else-wanted : goal.returns-else-wanted
returns-else-wanted c = mark_left c.args.marks.now c.args.at c.args.wanted c.if-wanted.false
