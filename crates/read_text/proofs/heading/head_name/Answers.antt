-- `heading::head_name`: no name may stand here, it is declared before, or it is new. Assumes nothing.
use mathlib.Core.Path.{refl, sym, ◌∙◌}
use Rattle.read_text.proofs.ReaderLaws.{name_fault, name_again, name_taken}
use Rattle.read_text.proofs.heading.head_name.Goals as goal

pub returns-in-None : goal.returns-in-None
returns-in-None c = λ k. record { takes = λ at g h a. name_fault h a k (sym c.after_name.ensures ∙ c.in-None.is) }

pub returns-then-again : goal.returns-then-again
returns-then-again c = λ k. record { takes = λ at g h a. name_again h a k (sym c.after_name.ensures ∙ c.in-Some.is) (sym c.again.ensures ∙ c.if-again.true) }

pub returns-else-again : goal.returns-else-again
returns-else-again c = λ k. record { takes = λ at g h a. name_taken h a k (sym c.after_name.ensures ∙ c.in-Some.is) (sym c.again.ensures ∙ c.if-again.false) refl }
