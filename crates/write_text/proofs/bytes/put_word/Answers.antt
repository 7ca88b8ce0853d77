-- `bytes::put_word`: the word's bytes from the next one on are left to put.
use native.Mathlib.Omega.{arith}
use Rattle.write_text.proofs.Putting.{none_put, word_more, word_ended, same_size}
use Rattle.write_text.proofs.bytes.put_word.Goals as goal

pub loop-byte-init : goal.loop-byte-init
loop-byte-init c = (omega arith, none_put)

pub put_byte-at-requires : goal.put_byte-at-requires
put_byte-at-requires c = omega (arith, c.loop-byte.invariant.0, c.requires.to_bound, c.requires.word_bound)

pub loop-byte-preserved : goal.loop-byte-preserved
loop-byte-preserved c = word_more _ c.loop-byte.invariant c.loop-byte-test.true c.put_byte-at.ensures.out_after c.put_byte-at.ensures.value

pub returns : goal.returns
returns c = record { puts = word_ended _ c.loop-byte.invariant (omega arith); upper_bound = omega (arith, c.loop-byte.invariant.0, c.requires.word_bound) }

pub shape_of-out : goal.shape_of-out
shape_of-out c = same_size {a = c.args.out.now} (returns c).puts
