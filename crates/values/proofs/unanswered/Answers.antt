-- `values::unanswered`: each case as its definition says it. Assumes nothing.
use mathlib.Core.Path.{◌∙◌, sym, ap}
use Rattle.std.specs.Prelude.{Err}
use Rattle.reaction.specs.Answers.{instant_told}
use Rattle.reaction.specs.declared.Unanswered.{Unanswered}
use Rattle.values.specs.Calls.{logged_values}
use Rattle.values.proofs.Known.{with_number}
use Rattle.values.proofs.unanswered.Goals as goal

pub returns-in-NotConstructive : goal.returns-in-NotConstructive
unfolding instant_told
returns-in-NotConstructive c = ap (λ (u : Unanswered). logged_values (instant_told (Err u)) c.args.end) (sym c.in-NotConstructive.is)

pub returns-in-Clash : goal.returns-in-Clash
unfolding instant_told
returns-in-Clash c = ap (λ (u : Unanswered). logged_values (instant_told (Err u)) c.args.end) (sym c.in-Clash.is)

pub returns-in-Refused : goal.returns-in-Refused
unfolding instant_told
returns-in-Refused c =
    with_number _ c.number_of.ensures ∙ ap (λ (u : Unanswered). logged_values (instant_told (Err u)) c.args.end) (sym c.in-Refused.is)
