-- `foldheron_excerpt`: nothing is written at another length; at the answer's, the values of the library's answer are. Assumes nothing.
use native.Mathlib.Omega.{arith}
use Rattle.exports.proofs.Laid.{numbered, answered_by, not_answered}
use Rattle.values.proofs.Counts.{part_counted}
use Rattle.exports.proofs.foldheron_excerpt.Goals as goal

pub returns-then-answer-ne32 : goal.returns-then-answer-ne32
returns-then-answer-ne32 c = not_answered 4 _ _ c.if-answer-ne32.true

pub put_answer-requires-clause-number : goal.put_answer-requires-clause-number
put_answer-requires-clause-number c = numbered (omega arith) c.excerpt-values.ensures (part_counted c.args.block.now c.args.n)

pub returns : goal.returns
returns c =
    answered_by 4 (part_counted c.args.block.now c.args.n).counted c.excerpt-values.ensures
    c.put_answer.ensures
