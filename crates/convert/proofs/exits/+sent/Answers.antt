-- `exits::sent`: mark by mark, from the innermost on; the number of marks falls. Assumes nothing.
use native.Mathlib.Omega.{arith}
use Rattle.convert.proofs.ExitLaws.{no_mark, past_abort, own_trap, past_this_trap}
use Rattle.convert.proofs.exits.+sent.Goals as goal

pub returns-then-count-eq0 : goal.returns-then-count-eq0
returns-then-count-eq0 t c = (no_mark _ _ _ c.if-count-eq0.true, omega arith)

pub returns-then-marks-ne1 : goal.returns-then-marks-ne1
returns-then-marks-ne1 t c =
    (past_abort _ _ _ _ c.if-count-eq0.false c.if-marks-ne1.true c.sent-further.ensures.0, omega (arith, c.sent-further.ensures.1, c.if-count-eq0.false))

pub returns-then-own-eq0 : goal.returns-then-own-eq0
returns-then-own-eq0 t c = (own_trap _ _ _ c.if-count-eq0.false c.if-marks-ne1.false c.if-own-eq0.true, omega arith)

pub returns : goal.returns
returns t c = (
  past_this_trap _ _ _ _ c.if-count-eq0.false c.if-marks-ne1.false c.if-own-eq0.false c.sent-outer.ensures.0,
  omega (arith, c.sent-outer.ensures.1, c.if-count-eq0.false),
)
