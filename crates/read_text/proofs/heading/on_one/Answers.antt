-- `heading::on_one`: one lead or the other. Assumes nothing.
use mathlib.Core.Path.{sym, ap}
use mathlib.Core.Bool.{Bool, cond}
use borrow.Author.Tests.{ne_eqb, eq-eqb}
use Rattle.read_text.proofs.heading.on_one.Goals as goal

pub returns-then-sign-key : goal.returns-then-sign-key
returns-then-sign-key c = sym (ap (λ (z : Bool). cond z c.args.to c.args.other) (eq-eqb c.args.sign c.args.key c.if-sign-key.true))

pub returns : goal.returns
returns c = sym (ap (λ (z : Bool). cond z c.args.to c.args.other) (ne_eqb c.args.sign c.args.key c.if-sign-key.false))
