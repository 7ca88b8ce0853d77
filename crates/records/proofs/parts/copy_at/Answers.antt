-- `parts::copy_at`: the bytes copied so far stand in place of those that were there. Assumes nothing.
use mathlib.Core.Path.{refl, ◌∙◌}
use borrow.Author.Rules.{rules}
use native.Mathlib.Omega.{arith}
use lib.Seq.{paste-zero}
use Rattle.records.proofs.Bytes.{copied, copy_more}
use Rattle.records.proofs.parts.copy_at.Goals as goal

pub loop-i-init : goal.loop-i-init
loop-i-init c = (refl, paste-zero c.args.to.now c.args.at c.args.from.now)

pub loop-i-preserved : goal.loop-i-preserved
loop-i-preserved c = (search rules, copy_more _ _ _ _ c.loop-i.invariant.1 c.requires c.loop-i-test.true)

pub returns : goal.returns
returns c = c.loop-i.invariant.1 ∙ copied _ _ _ _ (omega arith) c.loop-i-test.false c.requires
