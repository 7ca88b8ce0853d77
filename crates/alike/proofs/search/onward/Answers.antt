-- `search::onward` meets its contract: one way after the other.
-- Assumes nothing.
use Rattle.alike.specs.Ends.{next_set, next_pair, next_level, ends_over, ends_same}
use Rattle.alike.proofs.search.onward.Goals as goal

pub returns-then-s-width : goal.returns-then-s-width
returns-then-s-width c = next_set c.if-s-width.true

pub returns-then-s : goal.returns-then-s
returns-then-s c = next_pair c.if-s-width.false c.if-s.true

pub returns-then-s-2 : goal.returns-then-s-2
returns-then-s-2 c = ends_over c.if-s-width.false c.if-s.false c.if-s-2.true

pub returns-then-s-count : goal.returns-then-s-count
returns-then-s-count c = next_level c.if-s-width.false c.if-s.false c.if-s-2.false c.if-s-count.true

pub returns : goal.returns
returns c = ends_same c.if-s-width.false c.if-s.false c.if-s-2.false c.if-s-count.false
