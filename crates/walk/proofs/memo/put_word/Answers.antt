-- `walk::memo::put_word` meets its contract: past the end nothing is stored.
-- Assumes nothing.
use mathlib.Core.Path.{sym}
use Prim.Native.Nat.{◌≤◌}
use native.Mathlib.Omega.{arith}
use lib.ListN.{length}
use lib.Seq.{set_out}
use Rattle.walk.proofs.memo.put_word.Goals as goal

pub returns-else-j-memo : goal.returns-else-j-memo
returns-else-j-memo c =
    let w : length c.args.memo.now ≤ c.args.j = omega (arith, c.if-j-memo.false) in sym (set_out c.args.memo.now c.args.j c.args.w w)
