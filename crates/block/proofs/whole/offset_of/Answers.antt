-- `whole::offset_of` meets its contract. The invariant is `Summed`: the offset of statement i so far.
-- Assumes nothing.
use mathlib.Core.Path.{ap, ◌∙◌}
use native.Mathlib.Omega.{arith}
use Prim.Native.Nat.{◌<◌}
use lib.ListN.{length-take}
use lib.Seq.{get_or-take}
use Rattle.tables.specs.Kinds.{length_of}
use Rattle.block.proofs.Offsets.{summed_start, summed_step, ends}
use Rattle.block.proofs.whole.offset_of.Goals as goal

pub loop-kind-init : goal.loop-kind-init
loop-kind-init c = summed_start _ _

pub loop-kind-preserved : goal.loop-kind-preserved
loop-kind-preserved c =
    let l : c.loop-kind.kind-index < c.args.n = omega (arith, c.loop-kind-test.true, length-take c.args.n c.args.table.now.kinds) in
    summed_step c.loop-kind.invariant l (c.from-at.ensures ∙ c.record_length.ensures ∙ ap length_of (get_or-take c.args.n c.args.table.now.kinds c.loop-kind.kind-index 0 l))

pub returns : goal.returns
returns c = λ t h l. ends c.loop-kind.invariant (omega (arith, c.loop-kind-test.false, length-take c.args.n c.args.table.now.kinds)) t h l
