-- `forms::active::held_one` meets its contract: by whether the pause is active.
-- Assumes nothing.
use Rattle.forms.proofs.ActiveLaws.{one_held, one_idle}
use mathlib.Core.Path.{sym, ◌∙◌}
use Rattle.sets.specs.Words.{set_of}
use Rattle.forms.proofs.active.held_one.Goals as goal

pub returns-then-has_pause : goal.returns-then-has_pause
returns-then-has_pause c = one_held (set_of c.args.set) c.args.n (sym c.has_pause.ensures ∙ c.if-has_pause.true) c.one_pause.ensures

pub returns-else-has_pause : goal.returns-else-has_pause
returns-else-has_pause c = c.no_pause.ensures ∙ one_idle (set_of c.args.set) c.args.n (sym c.has_pause.ensures ∙ c.if-has_pause.false)
