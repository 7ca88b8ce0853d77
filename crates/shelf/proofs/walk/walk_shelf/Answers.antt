-- `walk::walk_shelf`: the entries before the place are read, and the reading goes on from there. Assumes nothing.
use mathlib.Core.Path.{sym, ◌∙◌, subst}
use native.Mathlib.Omega.{arith}
use Rattle.shelf.specs.Places.{Walks}
use Rattle.shelf.proofs.Walking.{walking_begin, walking_ends, walking_end, walking_more, forward, no_size}
use Rattle.shelf.proofs.walk.walk_shelf.Goals as goal

pub returns-then-shelf-ne65536 : goal.returns-then-shelf-ne65536
returns-then-shelf-ne65536 c = no_size _ c.if-shelf-ne65536.true

pub loop-at-init : goal.loop-at-init
loop-at-init c = (walking_begin _ c.if-shelf-ne65536.false, c.if-shelf-ne65536.false)

pub zeros_from-requires : goal.zeros_from-requires
zeros_from-requires c = c.loop-at.invariant.0.laid.within

pub entry_end-requires : goal.entry_end-requires
entry_end-requires c = (c.loop-at.invariant.0.before, c.loop-at.invariant.0.laid)

pub returns-in_err-at : goal.returns-in_err-at
returns-in_err-at c =
    subst (Walks c.args.shelf.now) (sym c.from_residual.ensures)
    (record { its_entries = tt; no_shelf = walking_ends c.loop-at.invariant.0 (sym (c.loop-at-test.true) ∙ c.zeros_from.ensures) c.entry_end.ensures c.in_err-at.was })

pub loop-at-smaller : goal.loop-at-smaller
loop-at-smaller c = omega (arith, forward c.loop-at.invariant.0 (sym (c.loop-at-test.true) ∙ c.zeros_from.ensures) c.entry_end.ensures c.in_ok-at.was)

pub loop-at-preserved : goal.loop-at-preserved
loop-at-preserved c = (
  walking_more c.loop-at.invariant.0 (sym (c.loop-at-test.true) ∙ c.zeros_from.ensures) c.entry_end.ensures c.in_ok-at.was
      (record { byte = λ i. (c.type_inv.shelf i).fits }),
  c.loop-at.invariant.1,
)

pub returns : goal.returns
returns c =
    record { its_entries = walking_end c.loop-at.invariant.0 c.loop-at.invariant.1 (sym (c.loop-at-test.false) ∙ c.zeros_from.ensures); no_shelf = tt }
