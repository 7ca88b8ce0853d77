-- `words::given::settled_for` meets its contract: the two bits are marked, must only under plus.
-- Assumes nothing.
use mathlib.Core.Path.{sym, ap, ◌∙◌}
use Rattle.rules.specs.MustCan.{can, local_status}
use Rattle.words.specs.Words.{mark_of, given_of}
use Rattle.words.proofs.WordLaws.{settled_plus, settled_open}
use Rattle.words.proofs.given.settled_for.Goals as goal

pub returns-in-Plus : goal.returns-in-Plus
returns-in-Plus c =
    λ h.
    c.marked_as.ensures ∙ settled_plus c.args.a c.args.s (c.has_signal-sure.ensures h) (c.has_signal-may.ensures h)
    ∙ ap (λ m. local_status (can (mark_of m)) c.args.s (given_of c.args.a.must) (given_of c.args.a.can)) (sym c.in-Plus.is)

pub returns-in-Open : goal.returns-in-Open
returns-in-Open c =
    λ h.
    c.marked_as-in-Open.ensures ∙ settled_open c.args.a c.args.s (c.has_signal-sure.ensures h) (c.has_signal-may.ensures h)
    ∙ ap (λ m. local_status (can (mark_of m)) c.args.s (given_of c.args.a.must) (given_of c.args.a.can)) (sym c.in-Open.is)
