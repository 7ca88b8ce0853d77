-- `clash::toward`: one law of Steps for each way. Assumes nothing.
use mathlib.Core.Path.{sym, ◌∙◌}
use native.Mathlib.Omega.{arith}
use Rattle.records.proofs.Standing.{here}
use Rattle.records.proofs.Steps.{next_in, second_below, goes_first, goes_second, goes_only, stays}
use Rattle.records.proofs.clash.toward.Goals as goal

pub bounds-table-i : goal.bounds-table-i
bounds-table-i c = here c.requires.1.stands

pub bounds-table-i-then-has_two_parts : goal.bounds-table-i-then-has_two_parts
bounds-table-i-then-has_two_parts c =
    next_in c.args.table.now.kinds c.args.table.now.sizes c.args.firsts.now c.args.m c.args.n c.args.i c.requires.0 c.requires.1
    (sym c.has_two_parts.ensures ∙ c.if-has_two_parts.true)

pub overflow_cast-second : goal.overflow_cast-second
overflow_cast-second c =
    let w = second_below c.args.table.now.kinds c.args.table.now.sizes c.args.firsts.now c.args.m c.args.n c.args.i c.requires.0
    c.requires.1 (sym c.has_two_parts.ensures ∙ c.if-has_two_parts.true) in omega arith

pub overflow_add-second-then-has_two_parts-2 : goal.overflow_add-second-then-has_two_parts-2
overflow_add-second-then-has_two_parts-2 c =
    let w = second_below c.args.table.now.kinds c.args.table.now.sizes c.args.firsts.now c.args.m c.args.n c.args.i c.requires.0
    c.requires.1 (sym c.has_two_parts.ensures ∙ c.if-has_two_parts.true) in omega arith

pub offset_bounds-firsts-second : goal.offset_bounds-firsts-second
offset_bounds-firsts-second c =
    let w = second_below c.args.table.now.kinds c.args.table.now.sizes c.args.firsts.now c.args.m c.args.n c.args.i c.requires.0
    c.requires.1 (sym c.has_two_parts.ensures ∙ c.if-has_two_parts.true) in omega arith

pub bounds-firsts-second : goal.bounds-firsts-second
bounds-firsts-second c =
    second_below c.args.table.now.kinds c.args.table.now.sizes c.args.firsts.now c.args.m c.args.n c.args.i c.requires.0 c.requires.1
    (sym c.has_two_parts.ensures ∙ c.if-has_two_parts.true)

pub returns-then-n-split : goal.returns-then-n-split
returns-then-n-split c =
    λ p P. goes_first c.args.table.now.kinds c.args.table.now.sizes c.args.firsts.now c.args.m c.args.n c.args.i p P
    (sym c.has_two_parts.ensures ∙ c.if-has_two_parts.true) c.if-n-split.true

pub returns-then-m-split : goal.returns-then-m-split
returns-then-m-split c =
    λ p P. stays c.args.table.now.kinds c.args.table.now.sizes c.args.firsts.now c.args.m c.args.n c.args.i p P
    (sym c.has_two_parts.ensures ∙ c.if-has_two_parts.true) c.if-m-split.true c.if-n-split.false

pub returns-then-has_two_parts : goal.returns-then-has_two_parts
returns-then-has_two_parts c =
    λ p P. goes_second c.args.table.now.kinds c.args.table.now.sizes c.args.firsts.now c.args.m c.args.n c.args.i p P
    (sym c.has_two_parts.ensures ∙ c.if-has_two_parts.true) c.if-m-split.false

pub returns : goal.returns
returns c =
    λ p P. goes_only c.args.table.now.kinds c.args.table.now.sizes c.args.firsts.now c.args.m c.args.n c.args.i p P
    (sym c.has_two_parts.ensures ∙ c.if-has_two_parts.false)
