-- `body::closer`: brackets where some are open. Assumes nothing.
use mathlib.Core.Path.{sym, ap}
use mathlib.Core.Bool.{Bool, cond}
use borrow.Author.Tests.{ne_eqb, eq-eqb}
use Rattle.read_steps.specs.Holding.{closer_in}
use Rattle.read_steps.specs.declared.levels.Scope.TheVariants.{InBrackets}
use Rattle.read_steps.proofs.body.closer.Goals as goal

pub returns-then-l-eq0 : goal.returns-then-l-eq0
unfolding closer_in
returns-then-l-eq0 c = sym (ap (λ (z : Bool). cond z c.args.l.kind InBrackets) (eq-eqb c.args.l.brackets 0 c.if-l-eq0.true))

pub returns : goal.returns
unfolding closer_in
returns c = sym (ap (λ (z : Bool). cond z c.args.l.kind InBrackets) (ne_eqb c.args.l.brackets 0 c.if-l-eq0.false))
