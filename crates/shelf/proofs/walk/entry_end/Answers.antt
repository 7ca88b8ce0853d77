-- `walk::entry_end`: the tests of an entry one after the other, and then whether it fits. Assumes nothing.
use mathlib.Core.Path.{◌∙◌}
use Prim.Native.Nat.{◌+◌}
use native.Mathlib.Omega.{arith}
use Rattle.shelf.proofs.OnlyShelf.{field_small}
use Rattle.shelf.proofs.Walking.{few_left, too_short, too_long, other_kind, ends_so}
use Rattle.shelf.proofs.walk.entry_end.Goals as goal
use Rattle.shelf.proofs.walk.entry_end.Goals.{then-size-lt8-via-then-size-lt8, then-size-lt8-via-else-size-lt8+then-left-size}

pub returns-then-left-lt8 : goal.returns-then-left-lt8
returns-then-left-lt8 c = few_left c.args.shelf.now c.args.at c.if-left-lt8.true

pub returns-then-size-lt8 : goal.returns-then-size-lt8
returns-then-size-lt8 c =
    elim c.then-size-lt8.branch [
      | then-size-lt8-via-then-size-lt8 w ↦ too_short c.args.shelf.now c.args.at c.number_at-size.ensures w.if-size-lt8.true
      | then-size-lt8-via-else-size-lt8+then-left-size w ↦ too_long c.args.shelf.now c.args.at c.number_at-size.ensures w.if-left-size.true
    ]

pub returns-then-number_at-ne5 : goal.returns-then-number_at-ne5
returns-then-number_at-ne5 c = other_kind c.args.shelf.now c.args.at c.number_at-size.ensures c.number_at.ensures c.if-number_at-ne5.true

pub fits_after-requires-clause-le_size : goal.fits_after-requires-clause-le_size
fits_after-requires-clause-le_size c =
    let small = field_small c.args.shelf.now (c.args.at + 6) (record { byte = λ i. (c.type_inv.shelf i).fits }) (omega (arith, c.if-left-lt8.false, c.requires.1.within)) in
    (c.if-size-lt8.false, omega (arith, c.if-left-size.false, c.requires.1.within), omega (arith, c.number_at-name.ensures, small))

pub returns : goal.returns
returns c =
    let e = ends_so c.args.shelf.now c.args.at c.number_at-size.ensures c.if-size-lt8.false c.if-left-size.false c.number_at.ensures c.if-number_at-ne5.false
    c.number_at-party.ensures c.number_at-name.ensures c.fits_after.ensures in
    λ es w. c.then_some.ensures ∙ e es w
