-- `evaluate::rounds::going_of` meets its contract: by the phase.
-- Assumes nothing.
use mathlib.Core.Path.{sym, ap}
use Rattle.rules.specs.Instant.{started}
use Rattle.rules.specs.States.{step}
use Rattle.forms.specs.Forms.{step_of}
use Rattle.evaluate.specs.Reacts.{state_of}
use Rattle.evaluate.proofs.rounds.going_of.Goals as goal

pub returns-in-Fresh-clause-its_step : goal.returns-in-Fresh-clause-its_step
unfolding step_of step started
returns-in-Fresh-clause-its_step c = λ A t. ap (λ ph. step t (state_of ph A)) (sym c.in-Fresh.is)

pub returns-in-Running-clause-its_step : goal.returns-in-Running-clause-its_step
unfolding step_of step started
returns-in-Running-clause-its_step c = λ A t. ap (λ ph. step t (state_of ph A)) (sym c.in-Running.is)

pub returns-in-Finished-clause-its_step : goal.returns-in-Finished-clause-its_step
unfolding step_of step started
returns-in-Finished-clause-its_step c = λ A t. ap (λ ph. step t (state_of ph A)) (sym c.in-Finished.is)
