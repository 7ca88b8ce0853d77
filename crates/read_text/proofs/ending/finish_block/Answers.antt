-- `ending::finish_block`: over a limit nothing is written; else the header and the records are the block, which is read and copied. Assumes nothing.
use mathlib.Core.Path.{sym, ap}
use Prim.Native.Nat.{ℕ, ◌+◌}
use native.Mathlib.Omega.{arith}
use lib.ListN.{length}
use lib.Seq.{length-sets, length-take-le}
use Rattle.read_text.proofs.EndingLaws.{over_signals, over_bytes, block_owed}
use Rattle.read_text.proofs.ending.finish_block.Goals as goal

pub returns-then-next-gt64 : goal.returns-then-next-gt64
returns-then-next-gt64 c =
    λ b w. over_signals c.args.version c.requires.inputs_le_signals c.requires.signals_le_next w c.args.block.now c.at.ensures c.if-next-gt64.true

pub returns-then-size-gt3072 : goal.returns-then-size-gt3072
returns-then-size-gt3072 c =
    λ b w. over_bytes c.args.version c.requires.inputs_le_signals c.requires.signals_le_next w c.args.block.now (omega (arith, c.if-next-gt64.false)) c.at-then-size-gt3072.ensures c.if-size-gt3072.true

pub slice_bounds-checked_copy-end-2 : goal.slice_bounds-checked_copy-end-2
slice_bounds-checked_copy-end-2 c =
    sym (length-take-le _ _ (omega (arith, c.wide-end.ensures.0, c.if-size-gt3072.false, c.requires.out_len, simp length-sets at (ap length c.put_header.ensures))))

pub returns : goal.returns
returns c =
    λ b w.
    block_owed c.args.version c.requires.inputs_le_signals c.requires.signals_le_next w c.args.block.now (omega (arith, c.if-next-gt64.false)) (omega (arith, c.if-size-gt3072.false))
    c.put_header.ensures (ap (λ (n : ℕ). 14 + n) c.wide-end.ensures.0) c.checked_copy.ensures
