-- `words::given::mark_onward` meets its contract: the three ways are the three clauses of `onward`.
-- Assumes nothing.
use mathlib.Core.Path.{sym, ap, ap₂, ◌∙◌}
use Rattle.sets.specs.Words.{bits}
use Rattle.rules.specs.MustCan.{can, onward}
use Rattle.words.specs.Words.{mark_of}
use Rattle.words.proofs.given.mark_onward.Goals as goal

pub returns-in-Plus : goal.returns-in-Plus
returns-in-Plus c = sym (ap₂ (λ m z. onward (can (mark_of m)) z) c.in-Plus.is (sym c.gives_zero.ensures ∙ c.if-gives_zero.true))

pub returns-in_default : goal.returns-in_default
returns-in_default c = sym (ap₂ (λ m z. onward (can (mark_of m)) z) c.in-Plus.is (sym c.gives_zero.ensures ∙ c.if-gives_zero.false))

pub returns-in_default-2 : goal.returns-in_default-2
returns-in_default-2 c = ap (λ m. onward (can (mark_of m)) (bits c.args.codes 0)) (sym c.in_default.is)
