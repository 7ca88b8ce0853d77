-- `places::entry_of`: where the name is, counted from the entries that are still due. Assumes nothing.
use native.Mathlib.Omega.{arith}
use mathlib.Core.Path.{sym, ◌∙◌}
use Rattle.shelf.proofs.Passing.{sought_begin, sought_found, sought_more, sought_end, room}
use Rattle.shelf.proofs.places.entry_of.Goals as goal

pub loop-at-init : goal.loop-at-init
loop-at-init c = sought_begin

pub is_named-requires : goal.is_named-requires
is_named-requires c = (room c.requires.1 (c.loop-at.invariant.reached c.requires.0 c.requires.1) c.loop-at-test.true).eight

pub number_at-requires : goal.number_at-requires
number_at-requires c =
    let r = room c.requires.1 (c.loop-at.invariant.reached c.requires.0 c.requires.1) c.loop-at-test.true in
    (omega (arith, r.eight), omega arith)

pub overflow_add-at : goal.overflow_add-at
overflow_add-at c =
    let r = room c.requires.1 (c.loop-at.invariant.reached c.requires.0 c.requires.1) c.loop-at-test.true in omega
    (arith, r.ends, c.number_at.ensures)

pub loop-at-smaller : goal.loop-at-smaller
loop-at-smaller c =
    let r = room c.requires.1 (c.loop-at.invariant.reached c.requires.0 c.requires.1) c.loop-at-test.true in omega
    (arith, r.ends, r.further, c.number_at.ensures)

pub loop-at-preserved : goal.loop-at-preserved
loop-at-preserved c = sought_more c.loop-at.invariant c.loop-at-test.true (sym c.if-is_named.false ∙ c.is_named.ensures) c.number_at.ensures

pub returns : goal.returns
returns c = sought_end c.loop-at.invariant c.loop-at-test.false

pub returns-then-is_named : goal.returns-then-is_named
returns-then-is_named c = sought_found c.loop-at.invariant c.loop-at-test.true (sym c.if-is_named.true ∙ c.is_named.ensures)
