-- `walk::fits_after`: the first test that fails refuses; if none does the block decides. Assumes nothing.
use mathlib.Core.Path.{sym, ◌∙◌}
use native.Mathlib.Omega.{arith}
use Rattle.shelf.proofs.Legality.{quota}
use Rattle.shelf.proofs.Walking.{third_party, name_taken, over_quota, by_its_block}
use Rattle.shelf.proofs.walk.fits_after.Goals as goal

pub returns-then-party-gt1 : goal.returns-then-party-gt1
returns-then-party-gt1 c =
    third_party c.args.shelf.now c.args.at c.args.party c.args.name c.args.size c.requires.le_size.0 c.requires.le_size.1 c.if-party-gt1.true

pub returns-then-is_some : goal.returns-then-is_some
returns-then-is_some c =
    name_taken c.args.shelf.now c.args.at c.args.party c.args.name c.args.size c.requires.le_size.0 c.requires.le_size.1
    c.entry_of.ensures (sym c.is_some.ensures ∙ c.if-is_some.true)

pub overflow_add-held_of : goal.overflow_add-held_of
overflow_add-held_of c =
    omega
    (arith, c.held_of.ensures c.requires.laid_out.0 c.requires.laid_out.1, quota c.args.party c.requires.laid_out.0 c.requires.laid_out.1.legal, c.requires.le_size.1)

pub returns-then-held_of-size-gt32768 : goal.returns-then-held_of-size-gt32768
returns-then-held_of-size-gt32768 c =
    over_quota c.args.shelf.now c.args.at c.args.party c.args.name c.args.size c.requires.le_size.0 c.requires.le_size.1
    c.held_of.ensures c.if-held_of-size-gt32768.true

pub returns : goal.returns
returns c =
    by_its_block c.args.shelf.now c.args.at c.args.party c.args.name c.args.size c.requires.le_size.0 c.requires.le_size.1 c.requires.le_size.2
    c.if-party-gt1.false c.entry_of.ensures (sym c.is_some.ensures ∙ c.if-is_some.false) c.held_of.ensures c.if-held_of-size-gt32768.false c.good_block.ensures
