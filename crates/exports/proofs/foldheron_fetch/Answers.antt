-- `foldheron_fetch`: nothing is written at another length of the block or of the answer; at theirs, the block and the values are. Assumes nothing.
use mathlib.Core.Path.{◌∙◌}
use native.Mathlib.Omega.{arith}
use Rattle.exports.proofs.Laid.{numbered, answered_by, not_answered, at_length, at_another, answered_both, no_block_lent, block_at_length, block_at_another}
use Rattle.values.proofs.Counts.{fetch_counted}
use Rattle.exports.proofs.foldheron_fetch.Goals as goal

pub returns-then-block-ne3086 : goal.returns-then-block-ne3086
returns-then-block-ne3086 c =
    record { answers_both = no_block_lent 3 _ _ _ c.if-block-ne3086.true; block_after = block_at_another 3 _ _ _ _ c.if-block-ne3086.true }

pub returns-then-answer-ne24 : goal.returns-then-answer-ne24
returns-then-answer-ne24 c =
    record { answers_both = answered_both 3 _ _ _ c.if-block-ne3086.false (not_answered 3 _ _ c.if-answer-ne24.true); block_after = at_another 3 _ _ _ c.if-answer-ne24.true ∙ block_at_length 3 _ _ _ _ c.if-block-ne3086.false }

pub put_answer-requires-clause-number : goal.put_answer-requires-clause-number
put_answer-requires-clause-number c = numbered (omega arith) c.fetch-values.ensures.value (fetch_counted c.args.shelf.now c.args.party c.args.name)

pub returns : goal.returns
returns c =
    record {
      answers_both = answered_both 3 _ _ _ c.if-block-ne3086.false
          (answered_by 3 (fetch_counted c.args.shelf.now c.args.party c.args.name).counted c.fetch-values.ensures.value
          c.put_answer.ensures);
      block_after = c.fetch-values.ensures.block_after ∙ at_length 3 _ _ _ c.if-answer-ne24.false ∙ block_at_length 3 _ _ _ _ c.if-block-ne3086.false;
    }
