-- `fetch`: the entry that is found, cut out of the shelf. Assumes nothing.
use native.Mathlib.Omega.{arith}
use Rattle.shelf.proofs.Stored.{passed_on}
use Rattle.shelf.proofs.Fetched.{room_there, handed_out, handed_none}
use Rattle.shelf.proofs.fetch.Goals as goal

pub returns-in_err-own : goal.returns-in_err-own
returns-in_err-own c =
    let w = handed_none c.args.shelf c.args.party c.args.name (passed_on c.from_residual.result c.from_residual.ensures) c.in_err-own.ensures.no_fetch in
    record { result_value = w.0; lies_at = w.1 }

pub overflow_add-own : goal.overflow_add-own
overflow_add-own c = let r = room_there c.in_ok-own.ensures.found in omega (arith, r)

pub overflow_add-own-2 : goal.overflow_add-own-2
overflow_add-own-2 c = let r = room_there c.in_ok-own.ensures.found in omega (arith, r)

pub cut-requires : goal.cut-requires
cut-requires c = let r = room_there c.in_ok-own.ensures.found in (r.long, r.ends)

pub returns : goal.returns
returns c = let w = handed_out c.cut.result c.args.shelf c.in_ok-own.ensures.found c.cut.ensures in record { result_value = w.0; lies_at = w.1 }
