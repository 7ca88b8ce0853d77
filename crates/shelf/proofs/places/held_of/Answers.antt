-- `places::held_of`: what is summed, and what the entries that are still due add to it. Assumes nothing.
use mathlib.Core.Path.{refl}
use native.Mathlib.Omega.{arith}
use Rattle.shelf.proofs.Passing.{summed_begin, summed_more, summed_fits, summed_end, room}
use Rattle.shelf.proofs.places.held_of.Goals as goal

pub loop-at-init : goal.loop-at-init
loop-at-init c = summed_begin

pub counted-held-requires : goal.counted-held-requires
counted-held-requires c = (room c.requires.1 (c.loop-at.invariant.reached c.requires.0 c.requires.1) c.loop-at-test.true).eight

pub overflow_add-held : goal.overflow_add-held
overflow_add-held c =
    omega (
      arith,
      summed_fits (summed_more c.loop-at.invariant c.loop-at-test.true refl c.counted-held.ensures) c.requires.0
          c.requires.1,
    )

pub number_at-requires : goal.number_at-requires
number_at-requires c =
    let r = room c.requires.1 (c.loop-at.invariant.reached c.requires.0 c.requires.1) c.loop-at-test.true in
    (omega (arith, r.eight), omega arith)

pub overflow_add-at : goal.overflow_add-at
overflow_add-at c =
    let r = room c.requires.1 (c.loop-at.invariant.reached c.requires.0 c.requires.1) c.loop-at-test.true in omega
    (arith, r.ends, c.number_at.ensures)

pub loop-at-smaller : goal.loop-at-smaller
loop-at-smaller c =
    let r = room c.requires.1 (c.loop-at.invariant.reached c.requires.0 c.requires.1) c.loop-at-test.true in omega
    (arith, r.ends, r.further, c.number_at.ensures)

pub loop-at-preserved : goal.loop-at-preserved
loop-at-preserved c = summed_more c.loop-at.invariant c.loop-at-test.true c.number_at.ensures c.counted-held.ensures

pub returns : goal.returns
returns c = summed_end c.loop-at.invariant c.loop-at-test.false
