-- `written::write_run` meets its contract: what stands in front of the bytes written is the run to the pair that is looked at.
-- Assumes nothing.
use native.Mathlib.Omega.{arith}
use lib.ListN.{length-set}
use Rattle.alike.proofs.WrittenLaws.{falls_on, one_written, all_written, its_length}
use Rattle.alike.proofs.written.write_run.Goals as goal

pub loop-i-preserved : goal.loop-i-preserved
loop-i-preserved c =
    let f = falls_on c.requires.2.1 c.loop-i.k c.loop-i.i c.loop-i-test.true (omega (arith, c.loop-i.invariant.0)) (c.loop-i.invariant.1 c.requires.2.0 c.requires.2.1).0 in
    let e = length-set c.args.run.now c.run_size-n.result c.args.last.set in (
      omega (arith, f, c.loop-i.invariant.0),
      λ walk l.
          one_written l c.loop-i.k c.loop-i.i c.loop-i.run _ c.loop-i-test.true (omega (arith, c.loop-i.invariant.0)) (c.loop-i.invariant.1 walk l).0
          (omega (arith, c.loop-i.auto.i, c.loop-i.auto.run, e, c.run_size-n.ensures.0, c.requires.0, c.requires.1)) (c.loop-i.invariant.1 walk l).1,
    )

pub returns-clause-by_index : goal.returns-clause-by_index
returns-clause-by_index c = λ walk l. its_length l _ _ _ (c.run_size-n.ensures.1 walk l)

pub returns-clause-by_index_2 : goal.returns-clause-by_index_2
returns-clause-by_index_2 c =
    λ walk l. let x = c.loop-i.invariant.1 walk l in
    all_written l c.loop-i.k c.loop-i.i _ _ c.run_size-n.result c.loop-i.run _ c.loop-i-test.false x.0 (c.run_size-n.ensures.1 walk l)
    (omega (arith, c.run_size-n.ensures.0, c.requires.0, c.requires.1)) x.1
