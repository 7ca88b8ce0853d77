-- `bytes::put_operand`: its two bytes, one after the other. Assumes nothing.
use Prim.Native.Nat.{◌+◌, ◌%◌}
use lib.ListN.{set}
use Rattle.read_steps.proofs.ByteLaws.{operand_bytes_set}
use Rattle.read_steps.proofs.bytes.put_operand.Goals as goal

pub returns : goal.returns
returns c =
    λ b p e w.
    operand_bytes_set b c.args.at p c.args.x c.wide.result c.wide-2.result e
    c.wide.ensures.0 c.wide-2.ensures.0
    (c.put_byte-2.ensures (set b (c.wide.result + 4) (c.args.x % 256))
    (c.put_byte.ensures b w))
