-- `foldheron_corridor`: nothing is written at another length; at the answer's, the values of the library's answer are. Assumes nothing.
use Rattle.values.specs.Whole.{room_by}
use Rattle.values.proofs.WholeCounts.{corridor_counted}
use native.Mathlib.Omega.{arith}
use Rattle.exports.proofs.Laid.{numbered, answered_by, not_answered}
use Rattle.exports.proofs.foldheron_corridor.Goals as goal

pub returns-then-answer-ne48 : goal.returns-then-answer-ne48
returns-then-answer-ne48 c = not_answered 6 _ _ c.if-answer-ne48.true

pub put_answer-requires-clause-number : goal.put_answer-requires-clause-number
put_answer-requires-clause-number c = numbered (omega arith) c.corridor-values.ensures (corridor_counted c.args.block.now c.args.inputs (room_by c.args.room c.args.first c.args.second) c.args.n)

pub returns : goal.returns
returns c =
    let n = corridor_counted c.args.block.now c.args.inputs (room_by c.args.room c.args.first c.args.second) c.args.n in
    answered_by 6 n.counted c.corridor-values.ensures
    c.put_answer.ensures
