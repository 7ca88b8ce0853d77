-- `evaluate::rounds::kept_for` meets its contract: by whether the code is 1.
-- Assumes nothing.
use mathlib.Core.Path.{sym, ap, ◌∙◌}
use mathlib.Core.Bool.{Bool, cond}
use borrow.Author.Tests.{eq-eqb, ne_eqb}
use Rattle.sets.specs.Numbers.{Numbers, empty}
use Rattle.sets.specs.Words.{set_of}
use Rattle.words.proofs.PauseLaws.{none_kept}
use Rattle.evaluate.proofs.rounds.kept_for.Goals as goal

pub returns-then-c-eq1 : goal.returns-then-c-eq1
returns-then-c-eq1 c = ap {A = Bool} {B = Numbers} (λ x. cond x (set_of c.args.pauses) empty) (sym (eq-eqb c.args.c.0 1 c.if-c-eq1.true))

pub returns-else-c-eq1 : goal.returns-else-c-eq1
returns-else-c-eq1 c =
    none_kept ∙ ap {A = Bool} {B = Numbers} (λ x. cond x (set_of c.args.pauses) empty) (sym (ne_eqb c.args.c.0 1 c.if-c-eq1.false))
