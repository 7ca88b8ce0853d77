-- `numerals::number_at`: the sum is the field of the bytes passed so far, from the highest down. Assumes nothing.
use mathlib.Core.Path.{◌∙◌}
use Prim.Native.Nat.{◌*◌, ◌+◌, ◌-◌, ◌<◌, ◌^◌}
use native.Mathlib.Omega.{arith}
use Rattle.records.proofs.Bytes.{field_begin, small_begin, field_end, field_more, more_fits, to_eight}
use Rattle.records.proofs.numerals.number_at.Goals as goal

pub loop-k-init : goal.loop-k-init
loop-k-init c = (field_begin c.args.s.now c.args.at c.args.n, small_begin c.args.n)

pub overflow_mul-x : goal.overflow_mul-x
overflow_mul-x c =
    let w : c.loop-k.x * 256 + 0 < 2 ^ 64 = to_eight {i = c.args.n - (c.loop-k.k - 1)} (omega arith) (more_fits (c.args.n - c.loop-k.k) (omega arith) c.loop-k.invariant.1 (omega arith)) in
    omega arith

pub overflow_cast-x : goal.overflow_cast-x
overflow_cast-x c = omega (arith, c.shared_slice_known-1.given (c.args.at + (c.loop-k.k - 1)))

pub overflow_add-x-in-loop-k : goal.overflow_add-x-in-loop-k
overflow_add-x-in-loop-k c =
    record { fits = to_eight (omega arith) (more_fits (c.args.n - c.loop-k.k) {i = c.args.n - (c.loop-k.k - 1)} (omega arith) c.loop-k.invariant.1 (omega (arith, c.shared_slice_known-1.given (c.args.at + (c.loop-k.k - 1))))) }

pub loop-k-preserved : goal.loop-k-preserved
loop-k-preserved c = (
  field_more c.args.s.now (c.args.at + (c.loop-k.k - 1)) (c.args.n - c.loop-k.k) (omega arith) (omega arith) (omega arith) c.loop-k.invariant.0,
  more_fits (c.args.n - c.loop-k.k) (omega arith) c.loop-k.invariant.1 (omega (arith, c.shared_slice_known-1.given (c.args.at + (c.loop-k.k - 1)))),
)

pub returns : goal.returns
returns c = c.loop-k.invariant.0 ∙ field_end c.args.s.now c.args.at c.args.n c.loop-k.k c.loop-k-test.false
