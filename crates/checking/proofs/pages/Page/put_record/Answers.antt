-- The page has room for the longest record.
use native.Mathlib.Omega.{arith}
use Rattle.block.proofs.Offsets.{length_small}
use Rattle.checking.proofs.pages.Page.put_record.Goals as goal

pub put_record-self-requires : goal.put_record-self-requires
put_record-self-requires c = omega (arith, c.if-self-ge6.true, c.if-self.true, length_small c.args.kind)
