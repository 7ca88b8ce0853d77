-- `clash::clashing`: both active, and the lowest statement above them no parallel. Assumes nothing.
use mathlib.Core.Path.{sym, ◌∙◌}
use Rattle.sets.specs.Words.{set_of}
use Rattle.sets.proofs.Members.{of_true}
use Rattle.records.proofs.Pairs.{root_place, clash_tested, clash_inactive}
use Rattle.records.proofs.clash.clashing.Goals as goal

pub in_parallel-requires : goal.in_parallel-requires
in_parallel-requires c = (
  c.requires.tree,
  root_place c.args.table.now.kinds c.args.table.now.sizes c.args.firsts.now c.args.active c.requires.count c.args.m c.args.n c.requires.tree c.requires.searchable c.requires.filled
      c.requires.lower (of_true (sym c.has.ensures ∙ c.if-has.true)),
)

pub returns-then-has : goal.returns-then-has
returns-then-has c =
    λ count t S f.
    clash_tested t (set_of c.args.active) c.args.m c.args.n c.requires.member (sym c.has.ensures ∙ c.if-has.true) c.requires.lower
    (c.in_parallel.ensures t (root_place c.args.table.now.kinds c.args.table.now.sizes c.args.firsts.now c.args.active count c.args.m c.args.n t S f c.requires.lower
    (of_true (sym c.has.ensures ∙ c.if-has.true))))

pub returns-else-has : goal.returns-else-has
returns-else-has c = λ count t S f. c.if-has.false ∙ clash_inactive t (set_of c.args.active) c.args.m c.args.n (sym c.has.ensures ∙ c.if-has.false)
