-- `read_text`: what the loop over the tokens says is passed on, or the block that it has read is finished. Assumes nothing.
use Rattle.read_text.proofs.EndingLaws.{passed_on}
use Rattle.read_text.proofs.OwedLaws.{refused_told, ready_to_end, block_told}
use Rattle.read_text.proofs.read_text.Goals as goal

pub returns-in_err-r : goal.returns-in_err-r
returns-in_err-r c =
    let d = refused_told c.args.text.now c.read_tokens.ensures c.args.block.now (passed_on c.from_residual.result c.from_residual.ensures) c.in_err-r.was in
    record { result_value = d.answered; block_after = d.stored }

pub finish_block-requires : goal.finish_block-requires
finish_block-requires c =
    let w = ready_to_end c.read_tokens.ensures c.in_ok-r.was in
    record { out_len = w.0; inputs_le_signals = w.1.0; signals_le_next = w.1.1 }

pub returns : goal.returns
returns c =
    let d = block_told c.args.text.now c.read_tokens.ensures c.in_ok-r.was c.finish_block.ensures in
    record { result_value = d.answered; block_after = d.stored }
