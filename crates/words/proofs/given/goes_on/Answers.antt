-- `words::given::goes_on` meets its contract: it answers false only under open and without code 0.
-- Assumes nothing.
use mathlib.Core.Path.{sym, subst, ◌∙◌}
use lib.Dec.{T}
use Rattle.words.proofs.given.goes_on.Goals as goal

pub returns-in-Plus : goal.returns-in-Plus
returns-in-Plus c = λ e. absurd (subst T e tt)

pub returns-in-Open : goal.returns-in-Open
returns-in-Open c = λ e. (c.in-Open.is, sym c.gives_zero.ensures ∙ e)
