-- `heading::again`: it is declared where it stands for something. Assumes nothing.
use mathlib.Core.Path.{sym, ap, ◌∙◌}
use Rattle.read_steps.proofs.MoveLaws.{told_some, declared_found}
use Rattle.read_text.proofs.heading.again.Goals as goal

pub returns-in-Nothing : goal.returns-in-Nothing
returns-in-Nothing c = sym (declared_found _ _ ∙ ap told_some (sym c.in_header.ensures ∙ c.in-Nothing.is))

pub returns-in-Signal : goal.returns-in-Signal
returns-in-Signal c = sym (declared_found _ _ ∙ ap told_some (sym c.in_header.ensures ∙ c.in-Signal.is))

pub returns-in-Trap : goal.returns-in-Trap
returns-in-Trap c = sym (declared_found _ _ ∙ ap told_some (sym c.in_header.ensures ∙ c.in-Trap.is))
