-- `values::reason`: what the library says to the question that is asked. Assumes nothing.
use mathlib.Core.Path.{◌∙◌, ap}
use Rattle.rules.specs.Reasons.{Asked}
use Rattle.foldheron.specs.Reasons.{reason_owed}
use Rattle.values.specs.Calls.{asked_by}
use Rattle.values.proofs.Asking.{question_told}
use Rattle.values.proofs.reason.Goals as goal

pub returns : goal.returns
returns c =
    c.reasoned.ensures ∙ c.reason.ensures ∙ ap (λ (q : Asked). reason_owed c.args.block.now c.args.state.now c.args.present c.args.absent q) c.asked_by-question.ensures
    ∙ question_told c.args.block.now c.args.state.now c.args.present c.args.absent (asked_by c.args.asked c.args.about)
