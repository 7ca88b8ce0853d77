-- `foldheron_maze`: nothing is written at another length; at the answer's, the values of the library's answer are. Assumes nothing.
use mathlib.Core.Path.{◌∙◌, refl, ap}
use lib.ListN.{length}
use Rattle.values.proofs.WholeCounts.{maze_counted}
use native.Mathlib.Omega.{arith}
use Rattle.exports.proofs.Laid.{numbered, answered_by, owed_answered, owed_not_answered}
use Rattle.exports.proofs.foldheron_maze.Goals as goal

pub returns-then-answer-ne40 : goal.returns-then-answer-ne40
returns-then-answer-ne40 c = owed_not_answered 5 _ _ c.if-answer-ne40.true

pub put_answer-requires-clause-number : goal.put_answer-requires-clause-number
put_answer-requires-clause-number c = numbered (omega arith) c.maze-values.ensures.its_values (maze_counted c.maze-values.ensures.answer)

pub returns : goal.returns
returns c =
    owed_answered 5 _ _ c.if-answer-ne40.false c.maze-values.ensures
    (answered_by 5 (ap length c.maze-values.ensures.its_values ∙ (maze_counted c.maze-values.ensures.answer).counted) refl
    c.put_answer.ensures)
