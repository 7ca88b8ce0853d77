-- `hearing` meets its contract: of one set every input is heard, of two what they have.
-- Assumes nothing.
use mathlib.Core.Path.{sym, ap, ◌∙◌}
use Rattle.reaction.specs.Instants.{heard_in}
use Rattle.reaction.proofs.hearing.Goals as goal

pub returns-in-All : goal.returns-in-All
returns-in-All c = λ b e. c.all_heard.ensures b e ∙ sym (ap (heard_in b) c.in-All.is)

pub returns-in-Two : goal.returns-in-Two
returns-in-Two c = λ b e. sym (ap (heard_in b) c.in-Two.is)
