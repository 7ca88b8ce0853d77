-- `found::find`: through the header's names, then the levels, the innermost last. Assumes nothing.
use mathlib.Core.Path.{◌≡◌, ap, ◌∙◌}
use Prim.Native.Nat.{ℕ}
use native.Mathlib.Omega.{arith}
use lib.Seq.{length-take-le, get_or-take}
use Rattle.read_steps.specs.Levels.{outermost, levels_in}
use Rattle.read_steps.specs.Found.{word_at, header_found, through, through_all}
use Rattle.read_steps.proofs.FoundLaws.{few_traps, one_more_level}
use Rattle.read_steps.proofs.found.find.Goals as goal

pub loop-level-init : goal.loop-level-init
unfolding through_all levels_in
loop-level-init c = c.in_header-f.ensures

pub inside-f-requires : goal.inside-f-requires
inside-f-requires c = few_traps _ _ _ _ _ c.loop-level.invariant (omega (arith, c.loop-level-test.true, c.requires, length-take-le c.args.s.depth c.args.levels.now))

pub loop-level-preserved : goal.loop-level-preserved
loop-level-preserved c =
    one_more_level _ _ _ _ _ c.loop-level.invariant
    (get_or-take c.args.s.depth c.args.levels.now c.loop-level.level-index outermost (omega (arith, c.loop-level-test.true, c.requires, length-take-le c.args.s.depth c.args.levels.now)))
    c.inside-f.ensures

pub inside-requires : goal.inside-requires
inside-requires c = few_traps _ _ _ _ _ c.loop-level.invariant (omega (arith, c.loop-level.auto.level-index-end, c.requires, length-take-le c.args.s.depth c.args.levels.now))

pub returns : goal.returns
unfolding through_all
returns c =
    let e : c.loop-level.level-index ≡ c.args.s.depth = omega (arith, c.loop-level-test.false, c.loop-level.auto.level-index-end, c.requires, length-take-le c.args.s.depth c.args.levels.now) in
    c.inside.ensures ∙ ap (through c.args.text.now c.args.s.top _)
    (c.loop-level.invariant ∙ ap (λ (n : ℕ). through_all c.args.text.now (levels_in c.args.levels.now n) (word_at c.args.text.now c.args.name) (header_found c.args.text.now c.args.end (word_at c.args.text.now
    c.args.name))) e)
