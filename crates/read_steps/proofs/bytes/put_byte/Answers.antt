-- `bytes::put_byte`: too many records, a place past them, or one byte stored. Assumes nothing.
use native.Mathlib.Omega.{arith}
use Rattle.read_steps.proofs.ByteLaws.{byte_over, byte_past, byte_set}
use Rattle.read_steps.proofs.bytes.put_byte.Goals as goal

pub returns-then-size-gt3072 : goal.returns-then-size-gt3072
returns-then-size-gt3072 c = λ bs w. byte_over w _ _ c.if-size-gt3072.true

pub returns-then-wide-at : goal.returns-then-wide-at
returns-then-wide-at c = λ bs w. byte_past w _ _ (omega (arith, c.if-size-gt3072.false)) (omega (arith, c.wide.ensures.0, c.if-wide-at.true))

pub bounds-out-i : goal.bounds-out-i
bounds-out-i c = omega (arith, c.requires, c.wide.ensures.0, c.if-wide-at.false, c.if-size-gt3072.false)

pub returns : goal.returns
returns c = λ bs w. byte_set w _ _ (omega (arith, c.if-size-gt3072.false)) (omega (arith, c.wide.ensures.0, c.if-wide-at.false))
