-- `values::logged`: an answered instant is told with its end, any other with end 0. Assumes nothing.
use mathlib.Core.Path.{◌∙◌, sym, ap}
use Rattle.reaction.specs.Answers.{instant_told}
use Rattle.foldheron.specs.Answers.{Logging, answer_in, end_in}
use Rattle.values.specs.Calls.{logged_values}
use Rattle.values.proofs.logged.Goals as goal

pub returns-in-Ok : goal.returns-in-Ok
unfolding answer_in end_in
returns-in-Ok c = c.told_values.ensures ∙ ap (λ (r : Logging). logged_values (instant_told (answer_in r)) (end_in r)) (sym c.in-Ok.is)

pub returns-in-Err : goal.returns-in-Err
unfolding answer_in end_in
returns-in-Err c = c.told_values-in-Err.ensures ∙ ap (λ (r : Logging). logged_values (instant_told (answer_in r)) (end_in r)) (sym c.in-Err.is)
