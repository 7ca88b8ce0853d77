-- `places::counted`: the party decides. Assumes nothing.
use Rattle.shelf.proofs.Passing.{read_if, none_if}
use Rattle.shelf.proofs.places.counted.Goals as goal

pub returns-then-number_at-party : goal.returns-then-number_at-party
returns-then-number_at-party c = read_if c.args.party c.number_at.ensures c.if-number_at-party.true c.number_at-then-number_at-party.ensures

pub returns-else-number_at-party : goal.returns-else-number_at-party
returns-else-number_at-party c = none_if _ c.args.party c.number_at.ensures c.if-number_at-party.false
