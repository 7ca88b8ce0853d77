-- `clash::some_clash`: of the rows gone through, from the last on, each has its flag and no two active pauses clash. Assumes nothing.
use mathlib.Core.Path.{refl, ◌∙◌}
use Prim.Native.Nat.{◌-◌}
use native.Mathlib.Omega.{arith}
use lib.ListN.{length-set}
use Rattle.records.proofs.Steps.{true_false}
use Rattle.records.proofs.Quiet.{quiet_behind, quiet_step, quiet_all}
use Rattle.records.proofs.clash.some_clash.Goals as goal

pub loop-i-init : goal.loop-i-init
loop-i-init c = (refl, quiet_behind)

pub parts_clash-requires : goal.parts_clash-requires
parts_clash-requires c = omega (arith, c.requires.0)

pub returns-then-parts_clash : goal.returns-then-parts_clash
returns-then-parts_clash c = λ e t S. absurd (true_false refl e)

pub flag_of-flag-requires : goal.flag_of-flag-requires
flag_of-flag-requires c = (omega (arith, c.requires.0), c.requires.2)

pub bounds-live-i : goal.bounds-live-i
bounds-live-i c = omega (arith, c.requires.0)

pub loop-i-preserved : goal.loop-i-preserved
loop-i-preserved c = (
  length-set c.loop-i.live (c.loop-i.i - 1) c.flag_of-flag.result ∙ c.loop-i.invariant.0,
  quiet_step c.loop-i.i c.flag_of-flag.result c.loop-i-test.true (omega (arith, c.requires.0)) c.loop-i.invariant.0 c.loop-i.invariant.1
      (c.flag_of-flag.ensures c.args.count c.requires.1)
      (λ back. c.parts_clash.ensures c.args.count c.args.active back c.if-parts_clash.false),
)

pub returns : goal.returns
returns c = λ e t S. quiet_all c.loop-i-test.false c.loop-i.invariant.1 t S
