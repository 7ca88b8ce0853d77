-- `past_tests` meets its contract: ROOM, then the rules, one lemma for each way.
use native.Mathlib.Omega.{arith}
use Rattle.reaction.proofs.Fronts.{placed, few_signals}
use Rattle.reaction.proofs.Ways.{room_way, react_way}
use Rattle.reaction.proofs.past_tests.Goals as goal

pub returns-then-roomless : goal.returns-then-roomless
returns-then-roomless c = λ g o st b. room_way o st _ c.if-roomless.true c.at.ensures

pub hearing-heard-requires : goal.hearing-heard-requires
hearing-heard-requires c = omega (arith, few_signals c.requires.1)

pub react-r-requires : goal.react-r-requires
react-r-requires c = (few_signals c.requires.1, record { tree = c.requires.0.body; there = placed c.requires.1 })

pub returns : goal.returns
returns c =
    λ g o st b. react_way o st _ c.react-r.result c.hearing-heard.result b (c.react-r.ensures g.body (placed o))
    c.hearing-heard.ensures c.of_reaction.ensures c.if-roomless.false
