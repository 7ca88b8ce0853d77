-- `foldheron_reason`: nothing is written at another length; at the answer's, the values of the library's answer are. Assumes nothing.
use Rattle.values.specs.Calls.{asked_by}
use native.Mathlib.Omega.{arith}
use Rattle.exports.proofs.Laid.{numbered, answered_by, not_answered}
use Rattle.values.proofs.Counts.{why_counted}
use Rattle.exports.proofs.foldheron_reason.Goals as goal

pub returns-then-answer-ne40 : goal.returns-then-answer-ne40
returns-then-answer-ne40 c = not_answered 5 _ _ c.if-answer-ne40.true

pub put_answer-requires-clause-number : goal.put_answer-requires-clause-number
put_answer-requires-clause-number c = numbered (omega arith) c.reason-values.ensures (why_counted c.args.block.now c.args.state.now c.args.present c.args.absent (asked_by c.args.asked c.args.about))

pub returns : goal.returns
returns c =
    let w = why_counted c.args.block.now c.args.state.now c.args.present c.args.absent (asked_by c.args.asked c.args.about) in
    answered_by 5 w.counted c.reason-values.ensures
    c.put_answer.ensures
