-- `entries_end`: the party, then what the walk says. Assumes nothing.
use mathlib.Core.Path.{sym, subst}
use Rattle.shelf.specs.Answered.{Entered}
use Rattle.shelf.proofs.Stored.{third_enters, enters}
use Rattle.shelf.proofs.entries_end.Goals as goal

pub returns-then-party-gt1 : goal.returns-then-party-gt1
returns-then-party-gt1 c = third_enters c.if-party-gt1.true c.at.ensures

pub returns : goal.returns
returns c = subst (Entered c.args.shelf.now c.args.party) (sym c.ok_or.ensures.value) (enters c.if-party-gt1.false c.walk_shelf.ensures c.at-2.ensures)
