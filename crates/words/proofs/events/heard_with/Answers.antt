-- `words::events::heard_with` meets its contract: each status sets and clears its bits, and the match has told which it is.
-- Assumes nothing.
use Rattle.words.proofs.WordLaws.{give_present, give_absent, give_unknown}
use mathlib.Core.Path.{sym, ap, ◌∙◌}
use Rattle.rules.specs.Events.{giving}
use Rattle.words.specs.Words.{event_of, seen_as}
use Rattle.words.proofs.events.heard_with.Goals as goal

pub returns-in-Present : goal.returns-in-Present
returns-in-Present c =
    λ h.
    give_present c.args.e c.bit-b.result c.args.s (c.bit-b.ensures h)
    ∙ ap (λ v. giving (event_of c.args.e) c.args.s (seen_as v)) (sym c.in-Present.is)

pub returns-in-Absent : goal.returns-in-Absent
returns-in-Absent c =
    λ h.
    give_absent c.args.e c.bit-b.result c.args.s (c.bit-b.ensures h)
    ∙ ap (λ v. giving (event_of c.args.e) c.args.s (seen_as v)) (sym c.in-Absent.is)

pub returns-in-Unknown : goal.returns-in-Unknown
returns-in-Unknown c =
    λ h.
    give_unknown c.args.e c.bit-b.result c.args.s (c.bit-b.ensures h)
    ∙ ap (λ v. giving (event_of c.args.e) c.args.s (seen_as v)) (sym c.in-Unknown.is)
