-- `tested` meets its contract: one lemma for each test, and for the search.
-- Assumes nothing.
use Rattle.reaction.proofs.Fronts.{placed, few_signals}
use Rattle.alike.proofs.CallLaws.{interface_way, wide_way, room_way, compared_way}
use Rattle.alike.proofs.tested.Goals as goal

pub returns-then-s-t : goal.returns-then-s-t
returns-then-s-t c = λ g h o p. interface_way o p c.then-s-t.either _ _

pub returns-then-s-gt6 : goal.returns-then-s-gt6
returns-then-s-gt6 c = λ g h o p. wide_way o p c.if-s-t.false c.if-s-t-2.false c.if-s-gt6.true _ _

pub returns-then-run-lt1024 : goal.returns-then-run-lt1024
returns-then-run-lt1024 c = λ g h o p. room_way o p c.if-s-t.false c.if-s-t-2.false c.if-s-gt6.false _ c.if-run-lt1024.true _

pub compared-requires-clause-inputs_bound : goal.compared-requires-clause-inputs_bound
compared-requires-clause-inputs_bound c = (
  c.if-s-gt6.false,
  few_signals c.requires.0.1,
  record { tree = c.requires.0.0.body; there = placed c.requires.0.1 },
  record { tree = c.requires.1.0.body; there = placed c.requires.1.1 },
)

pub returns : goal.returns
returns c = λ g h o p. compared_way o p c.if-s-t.false c.if-s-t-2.false c.if-s-gt6.false _ c.if-run-lt1024.false _ _ _ (c.compared.ensures g.body h.body (placed o) (placed p))
