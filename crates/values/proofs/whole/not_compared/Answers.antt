-- `values::whole::not_compared`: each case as its definition says it. Assumes nothing.
use mathlib.Core.Path.{◌∙◌, sym, ap}
use Rattle.std.specs.Prelude.{Err}
use Rattle.alike.specs.declared.NotCompared.{NotCompared}
use Rattle.values.specs.Whole.{likeness_values}
use Rattle.values.proofs.Known.{with_number}
use Rattle.values.proofs.whole.not_compared.Goals as goal

pub returns-in-First : goal.returns-in-First
unfolding likeness_values
returns-in-First c = with_number _ c.number_of.ensures ∙ ap (λ (e : NotCompared). likeness_values (Err e)) (sym c.in-First.is)

pub returns-in-Second : goal.returns-in-Second
unfolding likeness_values
returns-in-Second c = with_number _ c.number_of-in-Second.ensures ∙ ap (λ (e : NotCompared). likeness_values (Err e)) (sym c.in-Second.is)

pub returns-in-Both : goal.returns-in-Both
unfolding likeness_values
returns-in-Both c = with_number _ c.number_of-in-Both.ensures ∙ ap (λ (e : NotCompared). likeness_values (Err e)) (sym c.in-Both.is)
