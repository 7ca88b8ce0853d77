-- `reasons::asked::reason` meets its contract: by the question and by whether the instant is answered.
use mathlib.Core.Path.{refl, sym, ap, ◌∙◌}
use native.Mathlib.Omega.{arith}
use mathlib.Core.Bool.{true≢false}
use Rattle.std.proofs.Common.{rules, tests}
use Rattle.reasons.specs.Taking.{asked_of}
use Rattle.reasons.proofs.AskedLaws.{refused_known, refused_unknown, present_so, present_not, executed_known, executed_unknown}
use Rattle.reasons.proofs.asked.reason.Goals as goal

pub overflow_cast-s : goal.overflow_cast-s
overflow_cast-s c = omega (arith, c.is_present.ensures.upper_bound c.if-is_present.true)

pub returns-in-Refused : goal.returns-in-Refused
returns-in-Refused c =
    λ body a. refused_unknown _ _ _ _ _ (c.react-r.ensures body a) (ap asked_of c.in-Refused.is) (search (rules, tests))
    _ (λ outs p q. c.final_event-e.ensures _ outs refl p q) (c.first_reached.ensures body a)

pub returns-in-Present : goal.returns-in-Present
returns-in-Present c =
    λ body a. present_so _ _ _ _ _ (c.react-r.ensures body a) (ap asked_of c.in-Present.is) (cc) (sym c.if-is_present.true ∙ c.is_present.ensures.value)
    _ (λ outs p q. c.final_event-e.ensures _ outs refl p q) (c.first_reached-in-Present.ensures body a)

pub returns-in-NotExecuted : goal.returns-in-NotExecuted
returns-in-NotExecuted c =
    λ body a. executed_known _ _ _ _ _ (c.react-r.ensures body a) (ap asked_of c.in-NotExecuted.is) (cc)
    _ (λ outs p q. c.final_event-e.ensures _ outs refl p q) (c.first_cut.ensures body a)

pub returns-in_default : goal.returns-in_default
returns-in_default c = λ body a. refused_known _ _ _ _ _ (c.react-r.ensures body a) (ap asked_of c.in-Refused.is) (search (rules, tests))

pub returns-in_default-2 : goal.returns-in_default-2
returns-in_default-2 c =
    λ body a. present_not _ _ _ _ _ (c.react-r.ensures body a) (ap asked_of c.in-Present.is) (λ k. sym c.if-is_present.false ∙ c.is_present.ensures.value)

pub returns-in_default-3 : goal.returns-in_default-3
returns-in_default-3 c =
    λ body a. present_not _ _ _ _ _ (c.react-r.ensures body a) (ap asked_of c.in-Present.is) (λ k. absurd (true≢false (sym k ∙ (cc))))

pub returns-in_default-4 : goal.returns-in_default-4
returns-in_default-4 c = λ body a. executed_unknown _ _ _ _ _ (c.react-r.ensures body a) (ap asked_of c.in-NotExecuted.is) (cc)
