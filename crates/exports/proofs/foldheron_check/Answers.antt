-- `foldheron_check`: nothing is written at another length; at the answer's, the values of the library's answer are. Assumes nothing.
use native.Mathlib.Omega.{arith}
use Rattle.exports.proofs.Laid.{numbered, answered_by, not_answered}
use Rattle.values.proofs.Counts.{check_counted}
use Rattle.exports.proofs.foldheron_check.Goals as goal

pub returns-then-answer-ne64 : goal.returns-then-answer-ne64
returns-then-answer-ne64 c = not_answered 8 _ _ c.if-answer-ne64.true

pub put_answer-requires-clause-number : goal.put_answer-requires-clause-number
put_answer-requires-clause-number c = numbered (omega arith) c.check-values.ensures (check_counted c.args.block.now)

pub returns : goal.returns
returns c =
    answered_by 8 (check_counted c.args.block.now).counted c.check-values.ensures
    c.put_answer.ensures
