-- `evaluate::rounds::heard_in` meets its contract: the event is that of the definition, signal by signal.
-- Assumes nothing.
use Rattle.evaluate.proofs.RoundLaws.{heard_event, fine_block}
use mathlib.Core.Path.{sym, ap, ◌∙◌}
use lib.Dec.{ltb}
use Rattle.evaluate.proofs.rounds.heard_in.Goals as goal

pub returns : goal.returns
returns c =
    λ b n z f. heard_event b c.below-first.result c.args.given c.args.marks (λ k. c.below-first.ensures k ∙ ap (ltb k) (sym z.its_inputs)) (fine_block z f)
