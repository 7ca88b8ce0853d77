-- `compared` meets its contract: one lemma for each end of the search.
-- Assumes nothing.
use mathlib.Core.Path.{◌≡◌, subst, ◌∙◌, ap}
use borrow.Author.Rules.{rules}
use Rattle.std.specs.Prelude.{Ok}
use Rattle.std.proofs.lemmas.Result.{err_from_is_err_and}
use Rattle.alike.specs.Ends.{Ends}
use Rattle.alike.specs.declared.NotCompared.TheVariants.{Both}
use Rattle.alike.proofs.CallLaws.{was_ok, was_err, same_compared, over_compared, shown_by, shown_compared}
use Rattle.alike.proofs.compared.Goals as goal

pub returns-in_err-found : goal.returns-in_err-found
returns-in_err-found c =
    λ t u a e.
    let p = err_from_is_err_and c.from_residual.result c.from_residual.ensures.1 in
    let w = was_err _ c.search_all.result c.map_err.ensures.cases c.in_err-found.was in
    let z : c.in_err-found.field-0.0 ≡ Both w.0 = search rules in
    rw (p.1, p.2, z) (over_compared _ c.search_all.new.links _ _ (subst (Ends _ c.search_all.new.links) w.1 (c.search_all.ensures t u a e)))

pub returns-in_default : goal.returns-in_default
returns-in_default c =
    λ t u a e.
    same_compared _ c.search_all.new.links _ (subst (Ends _ c.search_all.new.links) (was_ok _ c.search_all.result c.map_err.ensures.cases c.in_ok-found.was ∙ ap Ok c.in_default.is)
    (c.search_all.ensures t u a e))

pub write_run-requires : goal.write_run-requires
write_run-requires c =
    let x = shown_by _ c.search_all.new.links _ (subst (Ends _ c.search_all.new.links) (was_ok _ c.search_all.result c.map_err.ensures.cases c.in_ok-found.was ∙ ap Ok c.in-Some.is)
    (c.search_all.ensures c.requires.inputs_bound.2.tree c.requires.inputs_bound.3.tree c.requires.inputs_bound.2.there c.requires.inputs_bound.3.there)) in
    (x.in_rows, c.requires.in_bounds, (x.walk, x.its_links))

pub returns : goal.returns
returns c =
    λ t u a e.
    shown_compared _ c.search_all.new.links _ _ _ _ (shown_by _ c.search_all.new.links _ (subst (Ends _ c.search_all.new.links)
    (was_ok _ c.search_all.result c.map_err.ensures.cases c.in_ok-found.was ∙ ap Ok c.in-Some.is) (c.search_all.ensures t u a e)))
    c.write_run.ensures.by_index c.write_run.ensures.by_index_2
