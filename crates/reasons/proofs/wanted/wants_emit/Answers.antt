-- `reasons::wanted::wants_emit` meets its contract: by what is asked for.
-- Assumes nothing.
use mathlib.Core.Path.{sym, ap}
use Rattle.rules.specs.Taken.{wants_emit}
use Rattle.reasons.specs.Taking.{wanted_of}
use Rattle.reasons.proofs.wanted.wants_emit.Goals as goal

pub returns-in-EmitOf : goal.returns-in-EmitOf
returns-in-EmitOf c = ap (λ w. wants_emit (wanted_of w) c.args.s) (sym c.in-EmitOf.is)
