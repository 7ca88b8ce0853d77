-- `write::close_gap`: the move and the zeros behind it. Assumes nothing.
use Rattle.shelf.proofs.Gaps.{gap_closed}
use Rattle.shelf.proofs.write.close_gap.Goals as goal

pub returns : goal.returns
returns c = gap_closed c.args.shelf.now c.args.at c.args.gap c.args.end c.requires.0 c.requires.1 c.copy_within.ensures.after (c.fill.ensures.after (λ y k. k))
