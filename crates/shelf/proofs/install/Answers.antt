-- `install`: the tests in their order, each as the definition has it. Assumes nothing.
use mathlib.Core.Path.{refl}
use Rattle.shelf.specs.Calls.{install}
use Rattle.shelf.proofs.Stored.{passed_on, turned_down_so, found_good, block_turned_down}
use Rattle.shelf.proofs.install.Goals as goal

pub returns-in_err-end : goal.returns-in_err-end
returns-in_err-end c =
    let w = turned_down_so (passed_on c.from_residual.result c.from_residual.ensures) (c.in_err-end.ensures.turned_down (install c.args.party c.args.name c.args.block.now) refl) in record { result_value = w.0; shelf_after = w.1 }

pub returns-in_err-checked : goal.returns-in_err-checked
returns-in_err-checked c =
    let e = c.in_ok-end.ensures.its_shelf in
    let w = turned_down_so (passed_on c.from_residual-in_err-checked.result c.from_residual-in_err-checked.ensures) (block_turned_down e.1.its_entries.1 c.args.party c.args.name c.args.block.now e.0 c.checked.ensures.1 c.in_err-checked.was) in
    record { result_value = w.0; shelf_after = w.1 }

pub admitted-requires : goal.admitted-requires
admitted-requires c =
    let w = c.in_ok-end.ensures.its_shelf in record { walks = w.1; party_bound = (w.0, found_good c.checked.ensures.1 c.in_ok-checked.was) }
