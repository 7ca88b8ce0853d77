-- `state::by_phase`: one law of Reading for each way. Assumes nothing.
use mathlib.Core.Path.{refl, ap}
use native.Mathlib.Omega.{arith}
use lib.ListN.{get_or}
use mir.Syntax.{w64}
use mir.Val.{Fits}
use borrow.Author.Rules.{rules}
use Rattle.records.specs.Held.{held_of}
use Rattle.records.proofs.Reading.{by_fresh, by_finished, by_neither, by_far, by_running, by_other, by_outside}
use Rattle.records.proofs.state.by_phase.Goals as goal

pub returns-in_default : goal.returns-in_default
unfolding held_of
returns-in_default c =
    λ bs q. ap held_of (by_other c.args.phase c.args.pauses c.args.active bs q c.no_bit-none.ensures refl c.if-none.false (λ e. omega (arith, c.in-0.is, e)))

pub returns-in_default-2 : goal.returns-in_default-2
unfolding held_of
returns-in_default-2 c =
    λ bs q. ap held_of (by_far c.args.phase c.args.pauses c.args.active bs q c.no_bit-none.ensures c.bit_beyond.ensures c.if-not-none.true c.if-not-bit_beyond.false)

pub returns-in_default-3 : goal.returns-in_default-3
unfolding held_of
returns-in_default-3 c =
    λ bs q. ap held_of
    (by_neither c.args.phase c.args.pauses c.args.active bs q c.no_bit-none.ensures c.if-not-none.false (λ e. omega (arith, c.in-1.is, e)) (λ e. omega (arith, c.in-1.is, e)))

pub returns-in_default-4 : goal.returns-in_default-4
unfolding held_of
returns-in_default-4 c =
    λ bs q. ap held_of (by_other c.args.phase c.args.pauses c.args.active bs q c.no_bit-none.ensures refl c.if-none-2.false (λ e. omega (arith, c.in-2.is, e)))

pub returns-in_default-5 : goal.returns-in_default-5
unfolding held_of
returns-in_default-5 c =
    λ bs q. ap held_of (by_outside c.args.phase c.args.pauses c.args.active bs q c.no_bit-none.ensures (search rules) (search rules) (search rules))

pub returns-in-0 : goal.returns-in-0
returns-in-0 c = λ bs q. by_fresh c.args.phase c.args.pauses c.args.active bs q c.no_bit-none.ensures c.if-none.true c.in-0.is

pub returns-in-1 : goal.returns-in-1
returns-in-1 c =
    λ bs q. by_running c.args.phase c.args.pauses c.args.active bs q c.no_bit-none.ensures c.bit_beyond.ensures
    (let w : Fits w64 (get_or c.args.active 0 0) = search rules in w.fits) (let w : Fits w64 (get_or c.args.active 1 0) = search rules in w.fits) c.if-not-none.true
    c.if-not-bit_beyond.true c.in-1.is

pub returns-in-2 : goal.returns-in-2
returns-in-2 c = λ bs q. by_finished c.args.phase c.args.pauses c.args.active bs q c.no_bit-none.ensures c.if-none-2.true c.in-2.is
