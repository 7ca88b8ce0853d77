-- `withdraw`: the entry that is found is closed up. Assumes nothing.
use Rattle.shelf.proofs.Stored.{passed_on, turned_down_so}
use Rattle.shelf.proofs.Gaps.{gap_there, gone}
use Rattle.shelf.proofs.withdraw.Goals as goal

pub returns-in_err-gone : goal.returns-in_err-gone
returns-in_err-gone c =
    let w = turned_down_so (passed_on c.from_residual.result c.from_residual.ensures) c.in_err-gone.ensures.no_withdrawal in record { result_value = w.0; shelf_after = w.1 }

pub close_gap-requires : goal.close_gap-requires
close_gap-requires c = gap_there c.in_ok-gone.ensures.found

pub returns : goal.returns
returns c = let w = gone c.in_ok-gone.ensures.found c.close_gap.ensures in record { result_value = w.0; shelf_after = w.1 }
