-- `clash::named_clash`: no pair before the present one clashes, so that the pair at the label is the first. Assumes nothing.
use borrow.Author.Rules.{rules}
use native.Mathlib.Omega.{arith}
use mathlib.Core.Path.{refl, sym, ap, ◌∙◌}
use Rattle.sets.specs.Words.{set_of}
use Rattle.sets.proofs.Members.{of_true}
use Rattle.records.specs.Clashing.{pair_of}
use Rattle.records.proofs.Pairs.{first_begin, second_begin, second_more, first_tested, first_passed, bound_passed, pair_found}
use Rattle.records.proofs.clash.named_clash.Goals as goal
use Rattle.records.proofs.clash.named_clash.Goals.{then-has+else-loop-n-test, else-has}

pub pairs-init : goal.pairs-init
pairs-init c = (refl, λ t S. first_begin t (set_of c.args.active))

pub loop-n-init : goal.loop-n-init
loop-n-init c = (c.pairs.invariant.0, search rules, λ t S. second_begin t (set_of c.args.active) c.pairs.m)

pub clashing-requires : goal.clashing-requires
clashing-requires c =
    record {
      count = c.args.count;
      tree = c.requires.0.0;
      searchable = c.requires.0.1;
      filled = c.requires.2;
      member = of_true (sym c.has.ensures ∙ c.if-has.true);
      lower = c.loop-n.invariant.1;
      in_width = let t = c.loop-n-test.true in let w = c.requires.1.width in omega arith;
    }

pub loop-n-preserved : goal.loop-n-preserved
loop-n-preserved c = (
  c.loop-n.invariant.0,
  search rules,
  λ t S. second_more t (set_of c.args.active) c.pairs.m c.loop-n.n (c.loop-n.invariant.2 t S)
      (c.clashing.ensures c.args.count t S c.requires.2) c.if-clashing.false,
)

pub pairs-preserved : goal.pairs-preserved
pairs-preserved c = (
  elim c.if-has.branch [ then-has+else-loop-n-test w ↦ w.found-is ∙ w.loop-n.invariant.0 | else-has w ↦ w.found-is ∙ c.pairs.invariant.0 ],
  λ t S. elim c.if-has.branch [
    | then-has+else-loop-n-test w ↦ first_tested t (set_of c.args.active) c.pairs.m w.loop-n.n (c.pairs.invariant.1 t S) (w.loop-n.invariant.2 t S) c.requires.1.bound w.loop-n-test.false
    | else-has w ↦ first_passed t (set_of c.args.active) c.pairs.m (c.pairs.invariant.1 t S) c.has.ensures w.if-has.false
  ],
)

pub returns-after-pairs : goal.returns-after-pairs
unfolding pair_of
returns-after-pairs c =
    λ t S. ap pair_of c.pairs.invariant.0 ∙ bound_passed t (set_of c.args.active) c.pairs.m c.requires.1.bound c.pairs-test.false (c.pairs.invariant.1 t S)

pub returns-then-clashing : goal.returns-then-clashing
unfolding pair_of
returns-then-clashing c =
    λ t S. pair_found t (set_of c.args.active) c.pairs.m c.loop-n.n
    (let h = c.pairs-test.true in omega (arith, c.pairs-test.true, c.requires.1.width))
    (let h = c.loop-n-test.true in omega (arith, c.loop-n-test.true, c.requires.1.width))
    (c.pairs.invariant.1 t S) (c.loop-n.invariant.2 t S)
    (of_true (sym (c.clashing.ensures c.args.count t S c.requires.2) ∙ c.if-clashing.true))
