-- `foldheron_fresh`: nothing is written at another length; at the answer's, the values of the library's answer are. Assumes nothing.
use mathlib.Core.Path.{◌∙◌}
use native.Mathlib.Omega.{arith}
use Rattle.exports.proofs.Laid.{numbered, answered_by, not_answered, at_length, at_another}
use Rattle.values.proofs.Counts.{begun_counted}
use Rattle.exports.proofs.foldheron_fresh.Goals as goal

pub returns-then-answer-ne16 : goal.returns-then-answer-ne16
returns-then-answer-ne16 c = record { answers = not_answered 2 _ _ c.if-answer-ne16.true; state_after = at_another 2 _ _ _ c.if-answer-ne16.true }

pub put_answer-requires-clause-number : goal.put_answer-requires-clause-number
put_answer-requires-clause-number c = numbered (omega arith) c.fresh-values.ensures.value (begun_counted c.args.block.now c.args.state.now)

pub returns : goal.returns
returns c =
    record {
      answers = answered_by 2 (begun_counted c.args.block.now c.args.state.now).counted c.fresh-values.ensures.value
          c.put_answer.ensures;
      state_after = c.fresh-values.ensures.state_after ∙ at_length 2 _ _ _ c.if-answer-ne16.false;
    }
