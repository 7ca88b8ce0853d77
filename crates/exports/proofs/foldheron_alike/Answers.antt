-- `foldheron_alike`: nothing is written at another length; at the answer's, the values of the library's answer are. Assumes nothing.
use mathlib.Core.Path.{◌∙◌, refl, ap}
use lib.ListN.{length}
use Rattle.values.proofs.WholeCounts.{likeness_counted}
use native.Mathlib.Omega.{arith}
use Rattle.exports.proofs.Laid.{numbered, answered_by, owed_answered, owed_not_answered, stays_written, stays_unwritten}
use Rattle.exports.proofs.foldheron_alike.Goals as goal

pub returns-then-answer-ne32 : goal.returns-then-answer-ne32
returns-then-answer-ne32 c = record { answers_owed = owed_not_answered 4 _ _ c.if-answer-ne32.true; stays = stays_unwritten 4 _ _ }

pub put_answer-requires-clause-number : goal.put_answer-requires-clause-number
put_answer-requires-clause-number c = numbered (omega arith) c.alike-values.ensures.its_values (likeness_counted c.alike-values.ensures.likeness)

pub returns : goal.returns
returns c =
    record {
      answers_owed = owed_answered 4 _ _ c.if-answer-ne32.false c.alike-values.ensures
          (answered_by 4 (ap length c.alike-values.ensures.its_values ∙ (likeness_counted c.alike-values.ensures.likeness).counted) refl
          c.put_answer.ensures);
      stays = stays_written 4 _ _ c.if-answer-ne32.false;
    }
