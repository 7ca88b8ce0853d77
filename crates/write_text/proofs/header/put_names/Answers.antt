-- `header::put_names`: the names from the next one on are left to put. Assumes nothing.
use mathlib.Core.Path.{refl}
use native.Mathlib.Omega.{arith}
use Rattle.text.specs.Shown.{signal_word}
use Rattle.write_text.proofs.Putting.{same_size}
use Rattle.write_text.proofs.HeaderLaws.{names_begun, names_on, names_put, no_names}
use Rattle.write_text.proofs.header.put_names.Goals as goal

pub returns-then-count-eq0 : goal.returns-then-count-eq0
returns-then-count-eq0 c =
    record { puts = no_names (signal_word c.args.inputs c.args.outputs) c.args.word.now c.args.start _ c.if-count-eq0.true; upper_bound = omega arith }

pub loop-s-init : goal.loop-s-init
loop-s-init c = names_begun (signal_word c.args.inputs c.args.outputs) (omega (arith, c.if-count-eq0.false))

pub put_named-at-requires-in-loop-s : goal.put_named-at-requires-in-loop-s
put_named-at-requires-in-loop-s c = record {
  to_bound = omega (arith, c.loop-s.invariant.near, c.loop-s.invariant.high, c.put_named-at.ensures.upper_bound, c.requires.to_bound, c.requires.count_bound);
  word_bound = omega arith;
}

pub loop-s-preserved : goal.loop-s-preserved
loop-s-preserved c =
    names_on (signal_word c.args.inputs c.args.outputs) c.loop-s.invariant c.loop-s-test.true c.put_named-at-in-loop-s.ensures.puts c.put_named-at-in-loop-s.ensures.upper_bound refl

pub put_word-requires : goal.put_word-requires
put_word-requires c = record {
  to_bound = omega (arith, c.loop-s.invariant.near, c.loop-s.invariant.high, c.put_named-at.ensures.upper_bound, c.requires.to_bound, c.requires.count_bound);
  word_bound = omega arith;
}

pub returns : goal.returns
returns c =
    let f = signal_word c.args.inputs c.args.outputs in
    record { puts = names_put f c.args.word.now c.args.start c.args.count c.if-count-eq0.false c.put_named-at.ensures.puts c.loop-s.invariant (omega (arith, c.loop-s-test.false)) c.put_word.ensures.puts; upper_bound = omega (arith, c.loop-s.invariant.near, c.loop-s.invariant.high, c.put_named-at.ensures.upper_bound, c.put_word.ensures.upper_bound, c.requires.to_bound, c.requires.count_bound) }

pub shape_of-out : goal.shape_of-out
shape_of-out c = same_size {a = c.args.out.now} (returns c).puts
