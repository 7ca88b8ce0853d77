-- `forms::active::actives` meets its contract: behind the rows in use nothing is active, and the rows from i on are right; a row's children stand after it.
-- Assumes nothing.
use Prim.Native.Nat.{◌-◌}
use mathlib.Core.Path.{refl, ◌∙◌}
use native.Mathlib.Omega.{arith}
use lib.ListN.{length-set}
use Rattle.forms.proofs.ActiveLaws.{live_behind, live_step, live_all, none_left}
use Rattle.forms.proofs.active.actives.Goals as goal

pub loop-i-init : goal.loop-i-init
loop-i-init c = (refl, live_behind c.rows_used-i.ensures.1)

pub holds_active-requires : goal.holds_active-requires
holds_active-requires c = omega (arith, c.rows_used-i.ensures.0)

pub bounds-live-i : goal.bounds-live-i
bounds-live-i c = omega (arith, c.rows_used-i.ensures.0)

pub loop-i-preserved : goal.loop-i-preserved
loop-i-preserved c = (
  length-set c.loop-i.live (c.loop-i.i - 1) c.holds_active.result ∙ c.loop-i.invariant.0,
  live_step c.loop-i.live c.loop-i.i c.holds_active.result c.loop-i-test.true (omega (arith, c.rows_used-i.ensures.0)) c.loop-i.invariant.0 c.loop-i.invariant.1 c.holds_active.ensures,
)

pub returns : goal.returns
returns c = live_all (none_left c.loop-i.i c.loop-i-test.false) c.loop-i.invariant.1
