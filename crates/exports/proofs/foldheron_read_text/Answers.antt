-- `foldheron_read_text`: nothing is written at another length; at the answer's, the values of the library's answer are. Assumes nothing.
use mathlib.Core.Path.{◌∙◌}
use Rattle.values.proofs.TextCounts.{block_counted}
use native.Mathlib.Omega.{arith}
use Rattle.exports.proofs.Laid.{numbered, answered_by, not_answered, at_length, at_another}
use Rattle.exports.proofs.foldheron_read_text.Goals as goal

pub returns-then-answer-ne24 : goal.returns-then-answer-ne24
returns-then-answer-ne24 c = record { answers = not_answered 3 _ _ c.if-answer-ne24.true; block_after = at_another 3 _ _ _ c.if-answer-ne24.true }

pub put_answer-requires-clause-number : goal.put_answer-requires-clause-number
put_answer-requires-clause-number c = numbered (omega arith) c.read_text-values.ensures.value (block_counted c.args.text.now c.args.block.now)

pub returns : goal.returns
returns c =
    record {
      answers = answered_by 3 (block_counted c.args.text.now c.args.block.now).counted c.read_text-values.ensures.value
          c.put_answer.ensures;
      block_after = c.read_text-values.ensures.block_after ∙ at_length 3 _ _ _ c.if-answer-ne24.false;
    }
