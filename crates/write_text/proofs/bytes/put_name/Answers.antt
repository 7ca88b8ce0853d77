-- `bytes::put_name`: what is left of the number is what is left to put. Assumes nothing.
use native.Mathlib.Omega.{arith}
use Rattle.write_text.proofs.Putting.{name_begun, name_more, name_ended, same_size}
use borrow.Author.Rules.{rules}
use Rattle.write_text.proofs.bytes.put_name.Goals as goal

pub loop-left-init : goal.loop-left-init
loop-left-init c = name_begun _ _ _ (search rules)

pub put_byte-at-requires : goal.put_byte-at-requires
put_byte-at-requires c = omega (arith, c.loop-left.invariant.room, c.requires)

pub loop-left-preserved : goal.loop-left-preserved
loop-left-preserved c = name_more c.loop-left.invariant c.loop-left-test.true c.put_byte-at.ensures.out_after c.put_byte-at.ensures.value

pub shape_of-out : goal.shape_of-out
shape_of-out c = same_size (name_ended c.loop-left.invariant c.loop-left-test.false)

pub returns : goal.returns
returns c =
    record { puts = name_ended c.loop-left.invariant c.loop-left-test.false; upper_bound = omega (arith, c.loop-left.invariant.room) }
