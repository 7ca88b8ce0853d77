-- `forms::active::rows_used` meets its contract: no pause was counted behind the block, or no row is left. Assumes nothing.
use native.Mathlib.Omega.{arith}
use Rattle.forms.proofs.active.rows_used.Goals as goal

pub returns-then-pauses_from-eq0 : goal.returns-then-pauses_from-eq0
returns-then-pauses_from-eq0 c = (omega (arith, c.if-count-lt512.true), c.pauses_from.ensures c.if-pauses_from-eq0.true)
