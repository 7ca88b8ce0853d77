-- `foldheron_write_text`: nothing is written at another length; at the answer's, the values of the library's answer are. Assumes nothing.
use mathlib.Core.Path.{◌∙◌}
use Rattle.values.proofs.TextCounts.{text_counted}
use native.Mathlib.Omega.{arith}
use Rattle.exports.proofs.Laid.{numbered, answered_by, not_answered, at_length, at_another}
use Rattle.exports.proofs.foldheron_write_text.Goals as goal

pub returns-then-answer-ne24 : goal.returns-then-answer-ne24
returns-then-answer-ne24 c = record { answers = not_answered 3 _ _ c.if-answer-ne24.true; text_after = at_another 3 _ _ _ c.if-answer-ne24.true }

pub put_answer-requires-clause-number : goal.put_answer-requires-clause-number
put_answer-requires-clause-number c = numbered (omega arith) c.write_text-values.ensures.value (text_counted c.args.block.now c.args.text.now)

pub returns : goal.returns
returns c =
    record {
      answers = answered_by 3 (text_counted c.args.block.now c.args.text.now).counted c.write_text-values.ensures.value
          c.put_answer.ensures;
      text_after = c.write_text-values.ensures.text_after ∙ at_length 3 _ _ _ c.if-answer-ne24.false;
    }
