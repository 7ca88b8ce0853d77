-- `fields::put_fields`: the stores that are left make of the present bytes what all of them make of the first. Assumes nothing.
use mathlib.Core.Path.{refl, sym, ◌∙◌}
use Prim.Native.Nat.{◌+◌, ◌≤◌}
use native.Mathlib.Omega.{arith}
use lib.ListN.{length, get_or}
use borrow.Author.Rules.{rules}
use Rattle.records.proofs.Widths.{size_left, one_laid, all_laid}
use Rattle.records.proofs.fields.put_fields.Goals as goal

pub loop-i-init : goal.loop-i-init
loop-i-init c = (refl, refl, refl)

pub put_number-requires : goal.put_number-requires
put_number-requires c =
    omega (arith, size_left c.args.widths.now c.loop-i.i c.loop-i-test.true, c.loop-i.invariant.0, c.loop-i.invariant.1, c.requires.0)

pub overflow_add-to : goal.overflow_add-to
overflow_add-to c =
    let n = size_left c.args.widths.now c.loop-i.i c.loop-i-test.true in
    let h : c.loop-i.to + get_or c.args.widths.now c.loop-i.i 0 ≤ length c.args.s.now = omega (arith, n, c.loop-i.invariant.1, c.requires.0) in
    search rules

pub loop-i-preserved : goal.loop-i-preserved
loop-i-preserved c = (
  search rules,
  omega (arith, size_left c.args.widths.now c.loop-i.i c.loop-i-test.true, c.loop-i.invariant.1),
  one_laid c.args.widths.now c.args.values.now c.loop-i.s c.loop-i.i c.loop-i.to c.loop-i-test.true c.requires.1 c.put_number.ensures ∙ c.loop-i.invariant.2,
)

pub returns : goal.returns
returns c =
    sym (all_laid c.args.widths.now c.args.values.now c.loop-i.s c.loop-i.i c.loop-i.to c.loop-i-test.false) ∙ c.loop-i.invariant.2
