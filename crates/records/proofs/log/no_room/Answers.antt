-- `log::no_room`: the definition's two tests, the difference taken only where it is one. Assumes nothing.
use mathlib.Core.Path.{◌∙◌}
use borrow.Author.Tests.{lt-ltb}
use Rattle.records.proofs.Writing.{beyond_log, within_log}
use Rattle.records.proofs.log.no_room.Goals as goal

pub returns-then-len-end : goal.returns-then-len-end
returns-then-len-end c = λ log e. lt-ltb c.args.len c.args.end c.if-len-end.true ∙ beyond_log log c.args.end e c.if-len-end.true

pub returns-else-len-end : goal.returns-else-len-end
returns-else-len-end c = λ log e. within_log log c.args.end e c.if-len-end.false
