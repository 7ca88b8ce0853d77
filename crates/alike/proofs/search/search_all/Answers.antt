-- `search::search_all` meets its contract: what is known of the rows is kept by each step, and each end says what it must.
-- Assumes nothing.
use mathlib.Core.Path.{◌≡◌, refl, ap, subst}
use Rattle.std.specs.Prelude.{Option, Result, Ok}
use Rattle.std.proofs.lemmas.Result.{err_from_is_err_and}
use Rattle.refusals.specs.declared.Why.{Why}
use Rattle.alike.specs.declared.search.Search.{Search}
use Prim.Native.Nat.{ℕ}
use native.Mathlib.Omega.{arith}
use borrow.Author.Rules.{rules}
use Rattle.rules.specs.Statements.{Stmt}
use Rattle.forms.specs.Forms.{At}
use Rattle.alike.specs.Ends.{Turns, Ends}
use Rattle.alike.proofs.Turning.{Went, first_known, in_rows, differing, stepped, goes_on, same_end, over_end, went_bound, sets_in, step_less}
use Rattle.alike.proofs.search.search_all.Goals as goal
use Rattle.alike.proofs.search.search_all.Goals.{After-keep-kept}

pub loop-next-init : goal.loop-next-init
loop-next-init c = λ t u a e. first_known _ _ c.args.links.now c.fresh-rows.ensures

went : (c : After-keep-kept) → (t u : Stmt) → At c.args.table.now 0 t → At c.args.other.now 0 u
    → Went (record { inputs = c.args.inputs; outputs = c.args.outputs; body = t }) (record { inputs = c.args.inputs; outputs = c.args.outputs; body = u }) c.keep-kept.new.rows c.keep-kept.new.links
    c.keep-kept.result
went c t u a e = stepped _ _ c.requires.0 (c.loop-next.invariant t u a e) c.in-Some.next (c.in-Some.ensures t u a e) (search rules) c.keep-kept.ensures

-- the turn after it, with the number of sets as the rules have it
turned : (s : Search) (n w w' : ℕ) {r q : Result (Option Search) Why} → w ≡ w' → r ≡ q → Turns s n w r → Turns s n w' q
turned s n w w' {r} e f t = subst (Turns s n w') f (subst (λ (x : ℕ). Turns s n x r) e t)

pub offset_bounds-rows-s : goal.offset_bounds-rows-s
offset_bounds-rows-s c = let h = in_rows _ _ _ _ _ c.requires.0 c.requires.2 c.requires.3 c.loop-next.invariant in record { fits = omega (arith, h) }

pub bounds-rows-s : goal.bounds-rows-s
bounds-rows-s c = in_rows _ _ _ _ _ c.requires.0 c.requires.2 c.requires.3 c.loop-next.invariant

pub overflow_cast-result : goal.overflow_cast-result
overflow_cast-result c = let h = in_rows _ _ _ _ _ c.requires.0 c.requires.2 c.requires.3 c.loop-next.invariant in record { fits = omega (arith, h) }

pub keep-kept-requires : goal.keep-kept-requires
keep-kept-requires c = in_rows _ _ _ _ _ c.requires.0 c.requires.2 c.requires.3 c.loop-next.invariant

pub returns-in_default : goal.returns-in_default
unfolding Ends
returns-in_default c = λ t u a e. differing _ _ c.requires.0 (c.loop-next.invariant t u a e) (c.in_default.ensures t u a e)

pub onward-requires : goal.onward-requires
onward-requires c =
    let w = went ((goal.at.onward-requires c).After-keep-kept) c.requires.2.tree c.requires.3.tree c.requires.2.there c.requires.3.there in
    (went_bound _ _ c.requires.0 w, sets_in w c.sets_of-width.ensures)

pub returns-in_err-more : goal.returns-in_err-more
unfolding Ends
returns-in_err-more c =
    λ t u a e.
    let p = err_from_is_err_and c.from_residual.result c.from_residual.ensures.1 in
    rw (p.1, p.2) (over_end _ _ c.requires.0 (went ((goal.at.returns-in_err-more c).After-keep-kept) t u a e) (turned _ _ _ _ c.sets_of-width.ensures refl c.in_err-more.ensures))

pub returns-in_default-2 : goal.returns-in_default-2
unfolding Ends
returns-in_default-2 c =
    λ t u a e. same_end _ _ c.requires.0 (went ((goal.at.returns-in_default-2 c).After-keep-kept) t u a e) (turned _ _ _ _ c.sets_of-width.ensures (ap Ok c.in_default-2.is) c.in_ok-more.ensures)

pub loop-next-smaller : goal.loop-next-smaller
loop-next-smaller c =
    step_less c.requires.0 (went ((goal.at.loop-next-smaller c).After-keep-kept) c.requires.2.tree c.requires.3.tree c.requires.2.there c.requires.3.there) c.keep-kept.ensures
    (turned _ _ _ _ c.sets_of-width.ensures (ap Ok c.in-Some-2.is) c.in_ok-more.ensures)

pub loop-next-preserved : goal.loop-next-preserved
loop-next-preserved c =
    λ t u a e. goes_on _ _ c.requires.0 (went ((goal.at.loop-next-preserved c).After-keep-kept) t u a e) (turned _ _ _ _ c.sets_of-width.ensures (ap Ok c.in-Some-2.is) c.in_ok-more.ensures)
