-- `reason` meets its contract: what the tests came to is told, and where all are passed the statement that the instant's rules name, or 16.
-- Assumes nothing.
use mathlib.Core.Path.{ap, ◌∙◌}
use Rattle.reaction.proofs.Fronts.{placed, few_signals}
use Rattle.reaction.proofs.Ways.{gone_in}
use Rattle.foldheron.specs.Reasons.{reason_values}
use Rattle.foldheron.proofs.Calls.{passed_on}
use Rattle.foldheron.proofs.Reasons.{stopped_way, ready_way}
use Rattle.foldheron.proofs.reason.Goals as goal

pub returns-in_err-grounds : goal.returns-in_err-grounds
returns-in_err-grounds c =
    ap reason_values (passed_on c.from_residual.result c.from_residual.ensures) ∙ stopped_way _ _ _ _ _ c.front.ensures.meets c.in_err-grounds.was

pub reason-requires : goal.reason-requires
reason-requires c =
    let q = gone_in c.front.ensures.meets c.in_ok-grounds.was in (few_signals q.opened, record { tree = q.its_good.body; there = placed q.opened })

pub returns : goal.returns
returns c =
    let q = gone_in c.front.ensures.meets c.in_ok-grounds.was in
    ready_way _ _ _ _ _ q _ c.of_named.ensures (c.reason.ensures q.its_good.body (placed q.opened))
