-- `evaluate::rounds::below` meets its contract: a power less 1 has all bits below; 64 is apart, since no shift is by the width.
-- Assumes nothing.
use Rattle.evaluate.proofs.RoundLaws.{shift_pos, below_is, below_all}
use Rattle.evaluate.proofs.rounds.below.Goals as goal

pub overflow_sub-result : goal.overflow_sub-result
overflow_sub-result c = shift_pos 64 c.args.n c.if-n-lt64.true

pub returns-then-n-lt64 : goal.returns-then-n-lt64
returns-then-n-lt64 c = below_is c.args.n c.if-n-lt64.true

pub returns-else-n-lt64 : goal.returns-else-n-lt64
returns-else-n-lt64 c = below_all c.args.n c.requires c.if-n-lt64.false
