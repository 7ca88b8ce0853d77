-- `reasons::asked::first_cut` meets its contract: the rows of the table are the statements of the tree, and the marks are the executed ones.
-- Assumes nothing.
use mathlib.Core.Path.{◌∙◌, ap}
use Rattle.forms.specs.Forms.{task}
use Rattle.sets.specs.Words.{set_of}
use Rattle.reasons.proofs.AskedLaws.{root_placed, count_fits, open_told, cut_told, cut_so, cut_not}
use Rattle.reasons.proofs.asked.first_cut.Goals as goal

pub taken-requires : goal.taken-requires
taken-requires c = root_placed (ap (task 0) c.going_of.ensures.going) c.requires

pub is_open_emit-requires : goal.is_open_emit-requires
is_open_emit-requires c = count_fits c.requires c.wide-count.ensures.0

pub lowest_cut-requires : goal.lowest_cut-requires
lowest_cut-requires c = count_fits c.requires c.wide-count.ensures.0

pub returns-then-is_open_emit : goal.returns-then-is_open_emit
returns-then-is_open_emit c =
    λ body a. cut_so c.if-is_open_emit.true (c.is_open_emit.ensures ∙ open_told c.args.phase (set_of c.args.set) (ap (task 0) c.going_of.ensures.going)
    c.taken.ensures c.actives-live.ensures body a c.wide-count.ensures.0 c.args.n) c.lowest_cut.ensures
    (cut_told c.args.phase (set_of c.args.set) (ap (task 0) c.going_of.ensures.going) c.taken.ensures c.actives-live.ensures body a
    c.wide-count.ensures.0 c.args.n)

pub returns : goal.returns
returns c =
    λ body a. cut_not _ c.if-is_open_emit.false (c.is_open_emit.ensures ∙ open_told c.args.phase (set_of c.args.set) (ap (task 0) c.going_of.ensures.going)
    c.taken.ensures c.actives-live.ensures body a c.wide-count.ensures.0 c.args.n)
