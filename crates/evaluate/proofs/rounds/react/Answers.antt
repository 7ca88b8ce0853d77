-- `evaluate::rounds::react` meets its contract: each memory begins with no entry.
-- Assumes nothing.
use Rattle.evaluate.proofs.Memory.{blank}
use Rattle.evaluate.proofs.rounds.react.Goals as goal

pub react_with-requires : goal.react_with-requires
react_with-requires c = (c.requires.0, c.requires.1, blank 1)

pub returns-then-table-lt24 : goal.returns-then-table-lt24
returns-then-table-lt24 c = λ body a. c.react_with.ensures c.args.phase c.going_of-going.ensures.its_step c.actives-live.ensures body a

pub react_with-requires-then-table-lt64 : goal.react_with-requires-then-table-lt64
react_with-requires-then-table-lt64 c = (c.requires.0, c.requires.1, blank 512)

pub returns-then-table-lt64 : goal.returns-then-table-lt64
returns-then-table-lt64 c = λ body a. c.react_with-then-table-lt64.ensures c.args.phase c.going_of-going.ensures.its_step c.actives-live.ensures body a

pub react_with-requires-2 : goal.react_with-requires-2
react_with-requires-2 c = (c.requires.0, c.requires.1, blank 2560)

pub returns : goal.returns
returns c = λ body a. c.react_with-2.ensures c.args.phase c.going_of-going.ensures.its_step c.actives-live.ensures body a
