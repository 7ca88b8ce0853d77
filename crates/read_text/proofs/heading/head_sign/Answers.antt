-- `heading::head_sign`: a row for each thing that the header awaits. Assumes nothing.
use mathlib.Core.Path.{sym, ap, ◌∙◌}
use mathlib.Core.Bool.{cond}
use lib.Dec.{eqb}
use Rattle.read_text.specs.Heads.{head_sign}
use Rattle.read_text.specs.declared.heading.Awaits.{Awaits}
use Rattle.read_text.specs.declared.heading.Awaits.TheVariants.{InputName, OutputName}
use Rattle.read_text.specs.declared.heading.Lead.TheVariants.{Next}
use Rattle.read_text.proofs.HeadLaws.{head_other}
use Rattle.read_text.proofs.heading.head_sign.Goals as goal

pub returns-in-VersionDue : goal.returns-in-VersionDue
unfolding head_sign
returns-in-VersionDue c = c.on_one.ensures ∙ sym (ap (λ (a : Awaits). head_sign a c.args.sign) c.in-VersionDue.is)

pub returns-in-VersionClosed : goal.returns-in-VersionClosed
unfolding head_sign
returns-in-VersionClosed c = c.on_one-in-VersionClosed.ensures ∙ sym (ap (λ (a : Awaits). head_sign a c.args.sign) c.in-VersionClosed.is)

pub returns-in-InputsDue : goal.returns-in-InputsDue
unfolding head_sign
returns-in-InputsDue c = c.on_one-in-InputsDue.ensures ∙ ap (cond (eqb c.args.sign 15) (Next InputName)) c.on_one-outputs.ensures ∙ sym (ap (λ (a : Awaits). head_sign a c.args.sign) c.in-InputsDue.is)

pub returns-in-OutputsDue : goal.returns-in-OutputsDue
unfolding head_sign
returns-in-OutputsDue c = c.on_one-in-OutputsDue.ensures ∙ sym (ap (λ (a : Awaits). head_sign a c.args.sign) c.in-OutputsDue.is)

pub returns-in-InputNamed : goal.returns-in-InputNamed
unfolding head_sign
returns-in-InputNamed c = c.on_one-in-InputNamed.ensures ∙ ap (cond (eqb c.args.sign 44) (Next InputName)) c.on_one-end.ensures ∙ sym (ap (λ (a : Awaits). head_sign a c.args.sign) c.in-InputNamed.is)

pub returns-in-OutputNamed : goal.returns-in-OutputNamed
unfolding head_sign
returns-in-OutputNamed c = c.on_one-in-OutputNamed.ensures ∙ ap (cond (eqb c.args.sign 44) (Next OutputName)) c.on_one-end-in-OutputNamed.ensures ∙ sym (ap (λ (a : Awaits). head_sign a c.args.sign) c.in-OutputNamed.is)

pub returns-in-BodyDue : goal.returns-in-BodyDue
unfolding head_sign
returns-in-BodyDue c = sym (ap (λ (a : Awaits). head_sign a c.args.sign) c.in-BodyDue.is)

pub returns-in_default : goal.returns-in_default
returns-in_default c =
    head_other c.args.awaits c.args.sign c.in_default.not-VersionDue c.in_default.not-VersionClosed c.in_default.not-InputsDue c.in_default.not-OutputsDue c.in_default.not-InputNamed
    c.in_default.not-OutputNamed c.in_default.not-BodyDue
