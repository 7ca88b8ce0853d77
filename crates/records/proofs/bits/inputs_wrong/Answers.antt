-- `bits::inputs_wrong`: one law of Inputs for each way. Assumes nothing.
use mathlib.Core.Path.{sym, ◌∙◌}
use Rattle.records.proofs.Inputs.{wrong_present, wrong_absent, wrong_both}
use Rattle.records.proofs.Steps.{true_false}
use Rattle.records.proofs.bits.inputs_wrong.Goals as goal
use Rattle.records.proofs.bits.inputs_wrong.Goals.{then-input_over, else-input_over}

pub returns-then-input_over-2 : goal.returns-then-input_over-2
returns-then-input_over-2 c = elim c.if-input_over.branch [
  | then-input_over w ↦ c.if-input_over-2.true ∙ wrong_present c.args.inputs c.args.present c.args.absent c.input_over.ensures w.if-input_over.true
  | else-input_over w ↦ c.if-input_over-2.true
      ∙ wrong_absent c.args.inputs c.args.present c.args.absent c.input_over.ensures w.if-input_over.false w.input_over-else-input_over.ensures (sym w.value-is ∙ c.if-input_over-2.true)
]

pub returns-else-input_over-2 : goal.returns-else-input_over-2
returns-else-input_over-2 c = elim c.if-input_over.branch [
  | then-input_over w ↦ absurd (true_false w.if-input_over.true (sym w.value-is ∙ c.if-input_over-2.false))
  | else-input_over w ↦ wrong_both c.args.inputs c.args.present c.args.absent c.input_over.ensures w.if-input_over.false w.input_over-else-input_over.ensures
      c.ranges.present.fits c.ranges.absent.fits (sym w.value-is ∙ c.if-input_over-2.false)
]
