-- `ending::checked_copy`: a refusal of the block is passed on, and a good block is copied. Assumes nothing.
use Rattle.read_text.proofs.EndingLaws.{passed_on, refusal_passed, good_copied}
use Rattle.read_text.proofs.ending.checked_copy.Goals as goal

pub returns-in_err-read_block : goal.returns-in_err-read_block
returns-in_err-read_block c = refusal_passed c.args.part.now c.args.block.now (passed_on c.from_residual.result c.from_residual.ensures) c.read_block.ensures c.in_err-read_block.was

pub returns : goal.returns
returns c = good_copied c.args.part.now c.args.block.now c.read_block.ensures.answered c.in_ok-read_block.was c.copied.ensures
