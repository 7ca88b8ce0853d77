-- `values::told_values`: an answered instant as its definition says it, and any other by its own values. Assumes nothing.
use mathlib.Core.Path.{◌∙◌, sym, ap}
use Rattle.reaction.specs.Answers.{instant_told}
use Rattle.foldheron.specs.Answers.{Instant}
use Rattle.values.specs.Calls.{logged_values}
use Rattle.values.proofs.told_values.Goals as goal

pub returns-in-Ok : goal.returns-in-Ok
unfolding instant_told
returns-in-Ok c = ap (λ (x : Instant). logged_values (instant_told x) c.args.end) (sym c.in-Ok.is)

pub returns-in-Err : goal.returns-in-Err
returns-in-Err c = c.unanswered.ensures ∙ ap (λ (x : Instant). logged_values (instant_told x) c.args.end) (sym c.in-Err.is)
