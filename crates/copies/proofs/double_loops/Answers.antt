-- `double_loops`: a refusal of the block is passed on, and a good block's table is doubled. Assumes nothing.
use Rattle.std.proofs.lemmas.Result.{err_from_is_err_and}
use Rattle.copies.proofs.DoublingLaws.{refusal_passed, table_ready, all_passed}
use Rattle.copies.proofs.double_loops.Goals as goal

pub put_doubled-requires : goal.put_doubled-requires
put_doubled-requires c = table_ready c.args.block.now _ c.read_block.ensures.answered c.in_ok-s.was c.read_block.ensures.stands

pub returns-in_err-s : goal.returns-in_err-s
returns-in_err-s c =
    let p = err_from_is_err_and c.from_residual.result c.from_residual.ensures.1 in
    let d = refusal_passed c.args.block.now c.args.out.now c.read_block.ensures.answered c.in_err-s.was in
    record { result_value = rw (p.1, p.2) d.answered; out_after = d.stored }

pub returns : goal.returns
returns c =
    let d = all_passed c.args.block.now _ c.read_block.ensures.answered c.in_ok-s.was c.read_block.ensures.stands c.put_doubled.ensures in
    record { result_value = d.answered; out_after = d.stored }
