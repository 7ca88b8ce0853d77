-- `forms::active::pauses_from` meets its contract: the count is 0 only while no row that was passed is a pause. Assumes nothing.
use native.Mathlib.Omega.{arith}
use Rattle.forms.proofs.ActiveLaws.{none_more}
use Rattle.forms.proofs.active.pauses_from.Goals as goal
use Rattle.forms.proofs.active.pauses_from.Goals.{then-table-i-eq17, else-table-i-eq17}

pub loop-i-init : goal.loop-i-init
loop-i-init c = (omega arith, λ e j h l. absurd (omega arith))

pub loop-i-preserved : goal.loop-i-preserved
loop-i-preserved c = elim c.if-table-i-eq17.branch [
  | then-table-i-eq17 w ↦ (omega (arith, w.found-is, c.loop-i.invariant.0), λ e. absurd (omega (arith, w.found-is, e)))
  | else-table-i-eq17 w ↦ (omega (arith, w.found-is, c.loop-i.invariant.0), λ e. none_more c.args.table.now.kinds c.args.from c.loop-i.i (c.loop-i.invariant.1 (omega (arith, w.found-is, e))) w.if-table-i-eq17.false)
]

pub returns : goal.returns
returns c = λ e. record { none = λ i h l. c.loop-i.invariant.1 e i h (omega (arith, l, c.loop-i-test.false)) }
