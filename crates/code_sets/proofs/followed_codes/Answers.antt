-- `code_sets::followed_codes` meets its contract, by whether 0 is among the first codes.
-- Assumes nothing.
use mathlib.Core.Path.{sym, ◌∙◌}
use lib.Dec.{lit<}
use Rattle.code_sets.proofs.Laws.{goes_on, stops}
use Rattle.code_sets.proofs.followed_codes.Goals as goal

pub returns-then-has_code : goal.returns-then-has_code
returns-then-has_code c = goes_on _ _ _ c.without_zero.ensures (sym (c.has_code.ensures (lit< tt)) ∙ c.if-has_code.true)

pub returns-else-has_code : goal.returns-else-has_code
returns-else-has_code c = stops _ _ _ c.without_zero-else-has_code.ensures (sym (c.has_code.ensures (lit< tt)) ∙ c.if-has_code.false)
