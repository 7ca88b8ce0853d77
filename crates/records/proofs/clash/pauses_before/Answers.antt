-- `clash::pauses_before`: the counter is the count of pauses before the place, and is kept at each. Assumes nothing.
use borrow.Author.Rules.{rules}
use mathlib.Core.Path.{◌≡◌, refl, ◌∙◌}
use native.Mathlib.Omega.{arith}
use lib.ListN.{length-set}
use Rattle.records.specs.Clashing.{before}
use Rattle.records.proofs.Steps.{count_more, count_same, filled_more}
use Rattle.records.proofs.clash.pauses_before.Goals as goal
use Rattle.records.proofs.clash.pauses_before.Goals.{then-table-i-eq17, else-table-i-eq17}

pub loop-i-init : goal.loop-i-init
unfolding before
loop-i-init c = (refl, search rules, refl, λ j h. absurd (omega arith))

pub loop-i-preserved : goal.loop-i-preserved
loop-i-preserved c =
    let e : c.loop-i.n ≡ before c.args.table.now.kinds c.loop-i.i = c.loop-i.invariant.2 in (
      length-set c.loop-i.firsts c.loop-i.i c.loop-i.n ∙ c.loop-i.invariant.0,
      elim c.if-table-i-eq17.branch [ then-table-i-eq17 w ↦ omega arith | else-table-i-eq17 w ↦ omega arith ],
      elim c.if-table-i-eq17.branch [ then-table-i-eq17 w ↦ w.n-is ∙ count_more c.args.table.now.kinds c.loop-i.i e w.if-table-i-eq17.true | else-table-i-eq17 w ↦ w.n-is ∙ count_same c.args.table.now.kinds c.loop-i.i e w.if-table-i-eq17.false ],
      filled_more c.args.table.now.kinds c.loop-i.firsts c.loop-i.i c.loop-i.n (omega arith) e c.loop-i.invariant.3,
    )

pub returns : goal.returns
returns c = record { first = λ i h. c.loop-i.invariant.3 i (omega arith) }
