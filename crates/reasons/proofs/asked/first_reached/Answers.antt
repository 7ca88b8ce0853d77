-- `reasons::asked::first_reached` meets its contract: from no mark on, the marks are what is reached, and the lowest is searched among all statements.
-- Assumes nothing.
use mathlib.Core.Path.{ap₂, ◌∙◌, ap}
use Rattle.forms.specs.Forms.{task}
use Rattle.sets.specs.Numbers.{lowest}
use Rattle.sets.specs.Words.{set_of}
use Rattle.reasons.proofs.AskedLaws.{root_placed, count_fits, count_is, marks_of_root}
use Rattle.reasons.proofs.asked.first_reached.Goals as goal

pub taken-requires : goal.taken-requires
taken-requires c = root_placed (ap (task 0) c.going_of.ensures.going) c.requires

pub lowest_marked-requires : goal.lowest_marked-requires
lowest_marked-requires c = count_fits c.requires c.wide-count.ensures.0

pub returns : goal.returns
returns c =
    λ body a. c.lowest_marked.ensures ∙ ap₂ lowest (count_is body a c.wide-count.ensures.0)
    (marks_of_root c.args.phase (set_of c.args.set) (ap (task 0) c.going_of.ensures.going) c.taken.ensures c.actives-live.ensures body a)
