-- `walk::memo::settles` meets its contract: the three tests.
-- Assumes nothing.
use mathlib.Core.Path.{sym, subst, ◌∙◌}
use borrow.Author.Tests.{eqb-true}
use Rattle.sets.specs.Numbers.{Numbers}
use Rattle.sets.proofs.Members.{of_true, of_false}
use Rattle.theorems.specs.Order.{Agree}
use Rattle.words.specs.Words.{event_of}
use Rattle.walk.proofs.Entries.{known_seen, still_open}
use Rattle.walk.proofs.memo.settles.Goals as goal
use Rattle.walk.proofs.memo.settles.Goals.{then-old-tag, else-old-tag}

pub returns-then-agree : goal.returns-then-agree
returns-then-agree c = λ h. elim c.if-old-tag.branch [
  | then-old-tag w ↦ (
    w.if-old-tag.true,
    subst (λ (R : Numbers). Agree R (event_of c.args.old.event) (event_of c.args.doubt)) w.known_reads.ensures (w.agree.ensures (sym w.value-is ∙ c.if-agree.true)),
    λ l e. known_seen c.settled_for.result c.ne.ensures h (still_open c.settled_for.result (c.settled_for.ensures l ∙ e)),
  )
  | else-old-tag w ↦ absurd (w.if-old-tag.false (eqb-true c.args.old.tag c.args.tag (sym w.value-is ∙ c.if-agree.true)))
]

pub returns-else-agree : goal.returns-else-agree
returns-else-agree c = λ h. absurd (of_false c.if-agree.false (of_true h))
