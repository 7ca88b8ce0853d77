-- `evaluate::rounds::react_with` meets its contract: the parts put together.
-- Assumes nothing.
use native.Mathlib.Omega.{arith}
use Rattle.evaluate.proofs.RoundLaws.{instant_is}
use Rattle.evaluate.proofs.rounds.react_with.Goals as goal

pub all_rounds-end-requires : goal.all_rounds-end-requires
all_rounds-end-requires c = (c.requires.0, c.requires.1, c.requires.2)

pub heard_in-e-requires : goal.heard_in-e-requires
heard_in-e-requires c = omega (arith, c.requires.0)

pub next_kept-last-requires : goal.next_kept-last-requires
next_kept-last-requires c = (c.requires.1, c.all_rounds-end.ensures.1)

pub answer_of-requires : goal.answer_of-requires
answer_of-requires c = c.requires.0

pub returns : goal.returns
returns c =
    λ phase going l body a.
    instant_is c.answer_of.result c.args.inputs c.args.outputs c.args.given phase body a going l c.all_rounds-end.ensures.0 c.heard_in-e.ensures
    c.next_kept-last.ensures.0 c.answer_of.ensures
