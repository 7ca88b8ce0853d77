-- `walk::memo::agree` meets its contract: what the words differ in has no member of the set.
-- Assumes nothing.
use borrow.Author.Tests.{eqb-true}
use Rattle.walk.proofs.Entries.{words_agree}
use Rattle.walk.proofs.memo.agree.Goals as goal

pub returns : goal.returns
returns c = λ e. words_agree c.args.a c.args.b c.args.on (eqb-true _ 0 e)
