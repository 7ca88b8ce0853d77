-- `wrong_inputs` meets its contract: one set or two, by the test of each.
-- Assumes nothing.
use mathlib.Core.Path.{sym, ap, ◌∙◌}
use Rattle.reaction.specs.Fronts.{wrong_inputs}
use Rattle.reaction.proofs.wrong_inputs.Goals as goal

pub returns-in-All : goal.returns-in-All
unfolding wrong_inputs
returns-in-All c = c.input_over.ensures ∙ sym (ap (wrong_inputs c.args.inputs) c.in-All.is)

pub returns-in-Two : goal.returns-in-Two
unfolding wrong_inputs
returns-in-Two c = c.inputs_wrong.ensures ∙ sym (ap (wrong_inputs c.args.inputs) c.in-Two.is)
