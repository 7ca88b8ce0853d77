-- `reading::body_token`: the step of the statement, with the header's numbers as they were. Assumes nothing.
use mathlib.Core.Path.{sym, ap, ◌∙◌}
use Rattle.std.specs.Prelude.{Err}
use Rattle.std.proofs.lemmas.Result.{err_from_is_err_and}
use Rattle.read_steps.specs.declared.steps.Fault.{Fault}
use Rattle.read_text.proofs.ReaderLaws.{with_stage, body_taken}
use Rattle.read_text.proofs.reading.body_token.Goals as goal

pub returns-in_err-stage : goal.returns-in_err-stage
unfolding with_stage
returns-in_err-stage c =
    let p = err_from_is_err_and c.from_residual.result c.from_residual.ensures.1 in
    body_taken c.body_step.ensures (p.1 ∙ ap (λ (f : Fault). Err f) p.2 ∙ sym (ap (with_stage c.args.r) c.in_err-stage.was))

pub returns : goal.returns
unfolding with_stage
returns c = body_taken c.body_step.ensures (sym (ap (with_stage c.args.r) c.in_ok-stage.was))
