-- `whole::finished` meets its contract: at each return the tests before it passed and the last one failed.
-- Assumes nothing.
use mathlib.Core.Path.{ap, sym, ◌∙◌}
use native.Mathlib.Omega.{arith}
use Rattle.std.specs.Prelude.{Err}
use Rattle.tables.specs.Codes.{lowest_endless}
use Rattle.block.proofs.Offsets.{tabled_listed}
use Rattle.block.proofs.Ends.{end_shape, end_loop, end_good, found_some, found_none}
use Rattle.block.proofs.whole.finished.Goals as goal
use Rattle.block.proofs.whole.finished.Goals.{then-r-b-via-then-r-b, then-r-b-via-else-r-b+then-r-d}

pub returns-then-r-b : goal.returns-then-r-b
returns-then-r-b c =
    λ t h.
    ap Err c.at.ensures ∙ end_shape _ _ t _ (λ e f. elim c.then-r-b.branch [ then-r-b-via-then-r-b w ↦ w.if-r-b.true e | then-r-b-via-else-r-b+then-r-d w ↦ w.if-r-d.true f ])

pub returns-in-Some : goal.returns-in-Some
returns-in-Some c =
    λ t h.
    let o = found_some (lowest_endless t) _ (sym c.in-Some.is ∙ c.lowest_endless.ensures.value t h) in
    ap Err c.at-in-Some.ensures ∙ end_loop _ _ t _ c.if-r-b.false c.if-r-d.false _ _ o
    (c.offset_of.ensures t (tabled_listed t h) (omega (arith, c.in-Some.ensures.within, h.counted)))

pub returns : goal.returns
returns c = λ t h. end_good _ _ t _ c.if-r-b.false c.if-r-d.false (found_none _ (sym c.in_default.is ∙ c.lowest_endless.ensures.value t h))
