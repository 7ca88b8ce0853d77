-- `walk::memo::recalls` meets its contract: both tests.
-- Assumes nothing.
use borrow.Author.Tests.{eqb-true}
use Rattle.walk.proofs.memo.recalls.Goals as goal

pub returns-then-old-tag : goal.returns-then-old-tag
returns-then-old-tag c = λ h. (c.if-old-tag.true, c.agree.ensures h)

pub returns-else-old-tag : goal.returns-else-old-tag
returns-else-old-tag c = λ h. absurd (c.if-old-tag.false (eqb-true c.args.old.tag c.args.tag h))
