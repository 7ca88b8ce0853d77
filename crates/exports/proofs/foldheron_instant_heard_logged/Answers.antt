-- `foldheron_instant_heard_logged`: nothing is written at another length; at the answer's, the values of the library's answer are. Assumes nothing.
use mathlib.Core.Path.{◌∙◌, refl}
use Rattle.reaction.specs.declared.Given.TheVariants.{Two}
use native.Mathlib.Omega.{arith}
use Rattle.exports.proofs.Laid.{numbered, answered_by, not_answered, at_length, at_another}
use Rattle.values.proofs.Counts.{instant_counted}
use Rattle.records.specs.LogRecord.{no_room}
use Rattle.exports.proofs.foldheron_instant_heard_logged.Goals as goal

pub returns-then-answer-ne-LOGGED : goal.returns-then-answer-ne-LOGGED
returns-then-answer-ne-LOGGED c =
    record { answers = not_answered 11 _ _ c.if-answer-ne-LOGGED.true; state_after = at_another 11 _ _ _ c.if-answer-ne-LOGGED.true; log_after = at_another 11 _ _ _ c.if-answer-ne-LOGGED.true }

pub put_answer-requires-clause-number : goal.put_answer-requires-clause-number
put_answer-requires-clause-number c = numbered (omega arith) c.instant_heard_logged-values.ensures.value (instant_counted c.args.block.now c.args.state.now (Two c.args.present c.args.absent) (no_room c.args.log.now c.args.end) _)

pub returns : goal.returns
returns c =
    record {
      answers = answered_by 11 refl c.instant_heard_logged-values.ensures.value c.put_answer.ensures;
      state_after = c.instant_heard_logged-values.ensures.state_after ∙ at_length 11 _ _ _ c.if-answer-ne-LOGGED.false;
      log_after = c.instant_heard_logged-values.ensures.log_after ∙ at_length 11 _ _ _ c.if-answer-ne-LOGGED.false;
    }
