-- `fields::field_at`: the widths passed over add up to the place of the field. Assumes nothing.
use mathlib.Core.Path.{◌≡◌, ap, ◌∙◌}
use Prim.Native.Nat.{ℕ, suc, ◌+◌, ◌≤◌, ◌<◌}
use native.Mathlib.Omega.{arith}
use lib.ListN.{length, get_or, length-take}
use Rattle.std.proofs.Common.{get_or-take}
use borrow.Author.Rules.{rules}
use Rattle.records.specs.Numerals.{field}
use Rattle.records.specs.Fields.{place}
use Rattle.records.proofs.Widths.{place_next, place_within}
use Rattle.records.proofs.fields.field_at.Goals as goal

pub overflow_add-at : goal.overflow_add-at
overflow_add-at c =
    let ws = c.args.widths.now in
    let k = c.loop-width.width-index in
    let l : k < c.args.i = omega (arith, length-take c.args.i ws) in
    let n = place_next ws k (omega (arith, l, c.requires.1)) in
    let w = place_within ws (suc k) in
    let same = get_or-take c.args.i ws k 0 l in
    let h : c.loop-width.at + get_or (lib.ListN.take c.args.i ws) k 0 ≤ length c.args.s.now = omega (arith, n, w, same, c.loop-width.invariant, c.requires.0) in
    search rules

pub loop-width-preserved : goal.loop-width-preserved
loop-width-preserved c =
    let ws = c.args.widths.now in
    let k = c.loop-width.width-index in
    let l : k < c.args.i = omega (arith, length-take c.args.i ws) in
    let q : suc k ≡ k + 1 = omega arith in
    omega (arith, place_next ws k (omega (arith, l, c.requires.1)), get_or-take c.args.i ws k 0 l, ap (place ws) q, c.loop-width.invariant)

pub number_at-requires : goal.number_at-requires
number_at-requires c =
    let ws = c.args.widths.now in
    let k : c.loop-width.width-index ≡ c.args.i = omega (arith, length-take c.args.i ws, c.requires.1) in
    let n = place_next ws c.args.i c.requires.1 in
    let w = place_within ws (suc c.args.i) in
    let e : c.loop-width.at ≡ place ws c.args.i = c.loop-width.invariant ∙ ap (place ws) k in
    (omega (arith, e, n, w, c.requires.0), c.requires.2)

pub returns : goal.returns
returns c =
    let k : c.loop-width.width-index ≡ c.args.i = omega (arith, length-take c.args.i c.args.widths.now, c.requires.1) in
    c.number_at.ensures ∙ ap (λ (n : ℕ). field c.args.s.now n (get_or c.args.widths.now c.args.i 0)) (c.loop-width.invariant ∙ ap (place c.args.widths.now) k)
