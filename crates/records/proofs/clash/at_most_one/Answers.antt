-- `clash::at_most_one`: none before the present one is active. Assumes nothing.
use native.Mathlib.Omega.{arith}
use Rattle.sets.specs.Words.{set_of}
use Rattle.records.proofs.Pairs.{none_and_one, none_more}
use Rattle.records.proofs.clash.at_most_one.Goals as goal

pub loop-m-init : goal.loop-m-init
loop-m-init c = λ k h. absurd (omega arith)

pub returns-then-has : goal.returns-then-has
returns-then-has c =
    λ e. none_and_one (set_of c.args.active) c.loop-m.m c.loop-m.invariant (λ k t. let b = c.requires.bound k t in omega (arith, b, c.requires.width)) c.bit_beyond.ensures e

pub loop-m-preserved : goal.loop-m-preserved
loop-m-preserved c = none_more (set_of c.args.active) c.loop-m.m c.loop-m.invariant c.has.ensures c.if-has.false

pub returns : goal.returns
returns c = λ e m n h s t. let b = c.requires.bound m s in c.loop-m.invariant m (omega (arith, b, c.loop-m-test.false)) s
