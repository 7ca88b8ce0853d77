-- `layout::put_values`: the stores that are left make of the present bytes what all of them make of the first. Assumes nothing.
use mathlib.Core.Path.{refl, sym, ◌∙◌}
use native.Mathlib.Omega.{arith}
use Rattle.exports.proofs.Laid.{one_stored, all_stored}
use borrow.Author.Rules.{rules}
use Rattle.exports.proofs.layout.put_values.Goals as goal

pub loop-i-init : goal.loop-i-init
loop-i-init c = (refl, refl)

pub put_number-requires : goal.put_number-requires
put_number-requires c = omega (arith, c.loop-i-test.true, c.requires, c.loop-i.invariant.0)

pub loop-i-preserved : goal.loop-i-preserved
loop-i-preserved c = (search rules, one_stored c.args.values.now c.loop-i.answer c.loop-i.i c.loop-i-test.true c.put_number.ensures ∙ c.loop-i.invariant.1)

pub returns : goal.returns
returns c = sym (all_stored c.args.values.now c.loop-i.answer c.loop-i.i c.loop-i-test.false) ∙ c.loop-i.invariant.1
