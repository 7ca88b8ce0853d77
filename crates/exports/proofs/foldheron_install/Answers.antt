-- `foldheron_install`: nothing is written at another length; at the answer's, the values of the library's answer are. Assumes nothing.
use mathlib.Core.Path.{◌∙◌}
use native.Mathlib.Omega.{arith}
use Rattle.exports.proofs.Laid.{numbered, answered_by, not_answered, at_length, at_another}
use Rattle.values.proofs.Counts.{install_counted}
use Rattle.exports.proofs.foldheron_install.Goals as goal

pub returns-then-answer-ne16 : goal.returns-then-answer-ne16
returns-then-answer-ne16 c = record { answers = not_answered 2 _ _ c.if-answer-ne16.true; shelf_after = at_another 2 _ _ _ c.if-answer-ne16.true }

pub put_answer-requires-clause-number : goal.put_answer-requires-clause-number
put_answer-requires-clause-number c = numbered (omega arith) c.install-values.ensures.value (install_counted c.args.shelf.now c.args.party c.args.name c.args.block.now)

pub returns : goal.returns
returns c =
    record {
      answers = answered_by 2 (install_counted c.args.shelf.now c.args.party c.args.name c.args.block.now).counted c.install-values.ensures.value c.put_answer.ensures;
      shelf_after = c.install-values.ensures.shelf_after ∙ at_length 2 _ _ _ c.if-answer-ne16.false;
    }
