-- `in_room`: the test of the lent bytes is the definition's. Assumes nothing.
use mathlib.Core.Path.{sym, ap, ◌∙◌}
use mathlib.Core.List.{[], ◌∷◌}
use native.Mathlib.Omega.{arith}
use Rattle.refusals.specs.Refusals.{number}
use Rattle.writing.specs.Answers.{wrote_values, wrote_owed}
use Rattle.writing.proofs.Stores.{too_few, enough}
use Rattle.writing.proofs.in_room.Goals as goal

pub returns-then-lent-size : goal.returns-then-lent-size
unfolding number wrote_values wrote_owed
returns-then-lent-size c =
    λ bs e.
    rw c.at.ensures (sym (ap wrote_owed (too_few bs _ (omega (arith, c.if-lent-size.true, e)))))

pub returns-else-lent-size : goal.returns-else-lent-size
unfolding wrote_values wrote_owed
returns-else-lent-size c =
    λ bs e.
    (λ i. 0 ∷ 0 ∷ sym e i ∷ []) ∙ sym (ap wrote_owed (enough bs _ (omega (arith, c.if-lent-size.false, e))))
