-- `written::run_size` meets its contract: the sets passed, and those that lead to the pair looked at.
-- Assumes nothing.
use native.Mathlib.Omega.{arith}
use Rattle.alike.proofs.WrittenLaws.{one_more, none_left}
use Rattle.alike.proofs.written.run_size.Goals as goal

pub loop-k-init : goal.loop-k-init
loop-k-init c = (omega arith, λ walk l. omega arith)

pub bounds-links-k : goal.bounds-links-k
bounds-links-k c = omega (arith, c.loop-k.invariant.0, c.requires.0)

pub offset_bounds-links-k : goal.offset_bounds-links-k
offset_bounds-links-k c = record { fits = omega (arith, c.loop-k.invariant.0, c.requires.0) }

pub overflow_cast-k : goal.overflow_cast-k
overflow_cast-k c =
    let f = c.requires.1.1.falls c.loop-k.k c.loop-k-test.true (omega (arith, c.loop-k.invariant.0)) in
    record { fits = omega (arith, f, c.loop-k.invariant.0, c.requires.0) }

pub overflow_add-n : goal.overflow_add-n
overflow_add-n c = omega (arith, c.loop-k.invariant.0, c.requires.0)

pub loop-k-smaller : goal.loop-k-smaller
loop-k-smaller c = c.requires.1.1.falls c.loop-k.k c.loop-k-test.true (omega (arith, c.loop-k.invariant.0))

pub loop-k-preserved : goal.loop-k-preserved
loop-k-preserved c =
    let f = c.requires.1.1.falls c.loop-k.k c.loop-k-test.true (omega (arith, c.loop-k.invariant.0)) in (
      omega (arith, f, c.loop-k.invariant.0),
      λ walk l.
          let a = c.loop-k.invariant.1 walk l in
          let b = one_more l c.loop-k.k c.loop-k-test.true (omega (arith, c.loop-k.invariant.0)) in
          omega (arith, a, b),
    )

pub returns : goal.returns
returns c = (
  omega (arith, c.loop-k.invariant.0),
  λ walk l. let a = c.loop-k.invariant.1 walk l in let b = none_left l c.loop-k.k c.loop-k-test.false in omega (arith, a, b),
)
