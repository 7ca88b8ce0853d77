-- `of_done` meets its contract: what is done is the rules' answer.
use Rattle.std.proofs.Common.{rules}
use Rattle.reaction.proofs.Ways.{done_way}
use Rattle.reaction.proofs.of_done.Goals as goal

pub returns : goal.returns
returns c =
    λ b a x d given h. done_way b c.args.r (record { present_fits = search rules; absent_fits = search rules }) c.args.done
    (record { low_fits = search rules; high_fits = search rules }) c.phase_after.result c.phase_after.ensures c.args.heard
    (record { present_wide = search rules; absent_wide = search rules }) given h a x d
