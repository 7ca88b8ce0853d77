-- `bytes::put_line`: the blanks from the next one on are left to put.
use mathlib.Core.Path.{ap}
use Prim.Native.Nat.{ℕ, ◌*◌}
use native.Mathlib.Omega.{arith}
use Rattle.write_text.proofs.Putting.{blanks_begun, blanks_more, line_put, same_size}
use Rattle.write_text.proofs.bytes.put_line.Goals as goal

pub loop-init : goal.loop-init
loop-init c = (omega (arith, c.wide-end.ensures), blanks_begun _ _ _)

pub put_byte-at-requires-in-loop : goal.put_byte-at-requires-in-loop
put_byte-at-requires-in-loop c = omega (arith, c.loop.invariant.0, c.loop.invariant.1.0, c.put_byte-at.ensures.value, c.loop-test.true)

pub loop-preserved : goal.loop-preserved
loop-preserved c =
    (c.loop.invariant.0, blanks_more c.loop.invariant.1 c.loop-test.true c.put_byte-at-in-loop.ensures.out_after c.put_byte-at-in-loop.ensures.value)

pub returns : goal.returns
returns c = record {
  puts = line_put _ c.put_byte-at.ensures.out_after c.put_byte-at.ensures.value (ap (λ (n : ℕ). 2 * n) c.wide-end.ensures.0) c.loop.invariant.1 (omega arith);
  upper_bound = omega (arith, c.loop.invariant.0, c.loop.invariant.1.0, c.put_byte-at.ensures.value, c.loop.auto.counter-end);
}

pub shape_of-out : goal.shape_of-out
shape_of-out c = same_size {a = c.args.out.now} (returns c).puts
