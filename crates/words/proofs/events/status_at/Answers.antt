-- `words::events::status_at` meets its contract: each way is one of the three statuses of two bits.
-- Assumes nothing.
use Rattle.words.proofs.WordLaws.{seen_present, seen_absent, seen_unknown}
use mathlib.Core.Path.{sym, ◌∙◌}
use Rattle.words.proofs.events.status_at.Goals as goal

pub returns-then-has_signal : goal.returns-then-has_signal
returns-then-has_signal c = λ h. seen_present c.args.e c.args.s (sym (c.has_signal.ensures h) ∙ c.if-has_signal.true)

pub returns-then-has_signal-2 : goal.returns-then-has_signal-2
returns-then-has_signal-2 c =
    λ h. seen_absent c.args.e c.args.s (sym (c.has_signal.ensures h) ∙ c.if-has_signal.false) (sym (c.has_signal-else-has_signal.ensures h) ∙ c.if-has_signal-2.true)

pub returns-else-has_signal-2 : goal.returns-else-has_signal-2
returns-else-has_signal-2 c =
    λ h. seen_unknown c.args.e c.args.s (sym (c.has_signal.ensures h) ∙ c.if-has_signal.false) (sym (c.has_signal-else-has_signal.ensures h) ∙ c.if-has_signal-2.false)
