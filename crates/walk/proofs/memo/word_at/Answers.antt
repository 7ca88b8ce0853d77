-- `walk::memo::word_at` meets its contract: past the end there is 0.
-- Assumes nothing.
use mathlib.Core.Path.{sym}
use Prim.Native.Nat.{◌≤◌}
use native.Mathlib.Omega.{arith}
use lib.ListN.{length, get_or-eq_default}
use Rattle.walk.proofs.memo.word_at.Goals as goal

pub returns-else-j-memo : goal.returns-else-j-memo
returns-else-j-memo c =
    let w : length c.args.memo.now ≤ c.args.j = omega (arith, c.if-j-memo.false) in sym (get_or-eq_default c.args.memo.now 0 w)
