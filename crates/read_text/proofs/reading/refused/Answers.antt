-- `reading::refused`: each refusal by its own line. Assumes nothing.
use mathlib.Core.Path.{sym, ap}
use Rattle.read_steps.specs.declared.steps.Fault.{Fault}
use Rattle.read_text.specs.Reading.{refused_as}
use Rattle.read_text.proofs.reading.refused.Goals as goal

pub returns-in-Grammar : goal.returns-in-Grammar
unfolding refused_as
returns-in-Grammar c = sym (ap (λ (f : Fault). refused_as f c.args.place) c.in-Grammar.is)

pub returns-in-Deep : goal.returns-in-Deep
unfolding refused_as
returns-in-Deep c = sym (ap (λ (f : Fault). refused_as f c.args.place) c.in-Deep.is)
