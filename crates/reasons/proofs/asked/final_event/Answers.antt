-- `reasons::asked::final_event` meets its contract: signal by signal.
-- Assumes nothing.
use mathlib.Core.Path.{sym, ap, ◌∙◌}
use lib.Dec.{ltb}
use Rattle.reasons.proofs.LeafLaws.{final_is}
use Rattle.reasons.proofs.asked.final_event.Goals as goal

pub returns : goal.returns
returns c =
    λ b outs e p q. final_is b outs c.below-first.result c.args.marks.present c.args.marks.absent c.args.given (λ k. c.below-first.ensures k ∙ ap (ltb k) (sym e)) p
    q
