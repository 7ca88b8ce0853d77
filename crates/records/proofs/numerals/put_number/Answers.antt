-- `numerals::put_number`: the stores that are left make of the present bytes what all of them make of the first. Assumes nothing.
use mathlib.Core.Path.{sym, ◌∙◌, refl}
use borrow.Author.Rules.{rules}
use Rattle.records.proofs.Bytes.{stores_begin, stores_more, stores_end}
use Rattle.records.proofs.numerals.put_number.Goals as goal

pub loop-i-init : goal.loop-i-init
loop-i-init c = (refl, stores_begin _ _ _ _)

pub loop-i-preserved : goal.loop-i-preserved
loop-i-preserved c =
    (search rules, stores_more c.loop-i.s c.args.at c.args.n c.loop-i.i c.loop-i.rest c.loop-i-test.true ∙ c.loop-i.invariant.1)

pub returns : goal.returns
returns c = sym (stores_end c.loop-i.s c.args.at c.args.n c.loop-i.i c.loop-i.rest c.loop-i-test.false) ∙ c.loop-i.invariant.1
