-- `walk::write_at`: by the statement that stands there. What was written for its record, for those below it and behind them is what is written for the
-- statement; the place that is read rises with each call. Assumes nothing.
use Rattle.convert.proofs.WalkLaws.{place_small, marks_few, falls_to, room_first, none_below, below_walks, room_last, one_below, second_walks, two_below}
use Rattle.convert.proofs.walk.+write_at.Goals as goal

pub head_at-h-requires : goal.head_at-h-requires
head_at-h-requires t c = place_small c.requires.1

pub put_first-to-requires : goal.put_first-to-requires
put_first-to-requires t c = room_first c.args.spot c.args.marks c.head_at-h.ensures c.requires.0 c.requires.1

pub returns-then-h-eq0 : goal.returns-then-h-eq0
returns-then-h-eq0 t c = none_below c.args.spot c.args.marks c.head_at-h.ensures c.put_first-to.ensures c.if-h-eq0.true

pub inside-inner-requires : goal.inside-inner-requires
inside-inner-requires t c = marks_few c.requires.1

pub write_at-below-requires : goal.write_at-below-requires
write_at-below-requires t c =
    let n = below_walks c.args.spot c.args.marks c.head_at-h.ensures c.put_first-to.ensures c.inside-inner.ensures c.if-h-eq0.false c.requires.0 c.requires.1 in
    (falls_to c.decreases n.0 (place_small n.1.1), n.1)

pub put_last-end-requires : goal.put_last-end-requires
put_last-end-requires t c =
    room_last c.args.spot c.args.marks c.head_at-h.ensures c.put_first-to.ensures c.inside-inner.ensures c.write_at-below.ensures c.if-h-eq1.true c.requires.0 c.requires.1

pub returns-then-h-eq1 : goal.returns-then-h-eq1
returns-then-h-eq1 t c =
    one_below c.args.spot c.args.marks c.head_at-h.ensures c.put_first-to.ensures c.inside-inner.ensures c.write_at-below.ensures c.put_last-end.ensures c.if-h-eq1.true

pub write_at-requires : goal.write_at-requires
write_at-requires t c =
    let n = second_walks c.args.spot c.args.marks c.head_at-h.ensures c.put_first-to.ensures c.inside-inner.ensures c.write_at-below.ensures c.if-h-eq0.false c.if-h-eq1.false c.requires.0 c.requires.1 in
    (falls_to c.decreases n.0 (place_small n.1.1), n.1)

pub returns : goal.returns
returns t c =
    two_below c.args.spot c.args.marks c.head_at-h.ensures c.put_first-to.ensures c.inside-inner.ensures c.write_at-below.ensures c.write_at.ensures c.if-h-eq0.false c.if-h-eq1.false
