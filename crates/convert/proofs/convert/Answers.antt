-- `convert`: a refusal of the reader is passed on; else the header and what the walk leaves are the bytes, where there is room for them. Assumes nothing.
use native.Mathlib.Omega.{arith}
use Rattle.convert.proofs.ScanWays.{passed_on}
use Rattle.convert.proofs.ConvertLaws.{refusal_passed, good_told, recorded, walks, room_answered, enough_lent, all_converted}
use Rattle.convert.proofs.convert.Goals as goal

pub returns-in_err-scanned : goal.returns-in_err-scanned
returns-in_err-scanned c =
    let o = refusal_passed c.args.block.now c.args.out.now c.scan.ensures c.in_err-scanned.was in
    rw (passed_on c.from_residual.result c.from_residual.ensures) (record { result_value = o.answered; out_after = o.stored })

pub returns-in_err-size : goal.returns-in_err-size
returns-in_err-size c =
    let k = good_told c.args.block.now c.scan.ensures c.in_ok-scanned.was in
    let o = room_answered c.args.block.now _ k.tree k.good k.within k.sized c.args.out.now c.in_room.ensures c.in_err-size.was in
    rw (passed_on c.from_residual-in_err-size.result c.from_residual-in_err-size.ensures) (record { result_value = o.answered; out_after = o.stored })

pub put_header-requires : goal.put_header-requires
put_header-requires c =
    let k = good_told c.args.block.now c.scan.ensures c.in_ok-scanned.was in
    omega (arith, k.sized, enough_lent c.args.block.now _ k.tree k.good k.within k.sized c.args.out.now c.in_room.ensures c.in_ok-size.was)

pub write_at-requires : goal.write_at-requires
write_at-requires c =
    let k = good_told c.args.block.now c.scan.ensures c.in_ok-scanned.was in
    let l = enough_lent c.args.block.now _ k.tree k.good k.within k.sized c.args.out.now c.in_room.ensures c.in_ok-size.was in
    (k.tree, walks c.args.block.now _ k.tree k.good k.within k.sized c.args.out.now l c.put_header.ensures)

pub returns : goal.returns
returns c =
    let k = good_told c.args.block.now c.scan.ensures c.in_ok-scanned.was in
    let w = c.write_at.ensures k.tree (recorded c.args.block.now _ k.tree k.good k.within k.sized) in
    let o = all_converted c.args.block.now _ k.tree k.good k.within k.sized c.args.out.now c.in_room.ensures c.in_ok-size.was c.put_header.ensures w in
    record { result_value = o.answered; out_after = o.stored }
