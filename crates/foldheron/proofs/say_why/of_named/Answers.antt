-- `of_named` meets its contract: each case as its definition says it.
-- Assumes nothing.
use mathlib.Core.Path.{sym, ap, ◌∙◌}
use Rattle.foldheron.proofs.Reasons.{named_way}
use Rattle.foldheron.proofs.say_why.of_named.Goals as goal

pub returns : goal.returns
returns c = named_way _ c.at.ensures c.ok_or.ensures.value
