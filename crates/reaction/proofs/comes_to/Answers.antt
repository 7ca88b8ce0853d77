-- `comes_to` meets its contract: what the tests came to is told, and where all are passed the rules go on.
use Rattle.std.proofs.lemmas.Result.{err_from_is_err_and}
use Rattle.reaction.proofs.Ways.{stopped_way, ready_way, gone_in}
use Rattle.reaction.proofs.comes_to.Goals as goal

pub past_tests-requires : goal.past_tests-requires
past_tests-requires c = let q = gone_in c.front.ensures.meets c.in_ok-grounds.was in (q.its_good, q.opened)

pub returns-in_err-grounds : goal.returns-in_err-grounds
returns-in_err-grounds c =
    let p = err_from_is_err_and c.from_residual.result c.from_residual.ensures.1 in
    rw p.1 (stopped_way _ _ _ _ c.front.ensures.meets c.in_err-grounds.was p.2)

pub returns : goal.returns
returns c =
    let q = gone_in c.front.ensures.meets c.in_ok-grounds.was in
    ready_way _ _ _ _ c.front.ensures.meets q.is_ready (c.past_tests.ensures q.its_good q.opened q.its_state q.begins)
