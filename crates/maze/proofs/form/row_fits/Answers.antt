-- `maze::form::row_fits` meets its contract: each arm by its kind.
-- Assumes nothing.
use mathlib.Core.Path.{◌≡◌, refl, sym}
use mathlib.Core.Bool.{Bool, true, false, not, beq}
use mathlib.Core.Logic.{inl, inr}
use borrow.Author.Tests.{ne_eqb}
use Rattle.mazes.specs.Fitting.{one_alone}
use Rattle.maze.specs.Rows.{row_fits}
use Rattle.maze.proofs.RowLaws.{second_is, a_nothing, an_emit_row, a_present, a_parallel_row}
use Rattle.maze.proofs.form.row_fits.Goals as goal

apart : (x y : Bool) → not (beq x y) ≡ one_alone x y
apart true true = refl
apart true false = refl
apart false true = refl
apart false false = refl

pub returns-in-16 : goal.returns-in-16
returns-in-16 c = elim c.in-16.is [ inl e ↦ a_nothing _ _ _ e | inr e ↦ an_emit_row _ _ _ e ]

pub returns-in-19 : goal.returns-in-19
returns-in-19 c =
    a_present c.args.table.now.kinds c.args.table.now.sizes c.args.i c.is_nothing-first.ensures c.is_nothing-second.ensures
    (second_is c.args.table.now.sizes c.args.i _ c.second_at.ensures.0 c.second_at.ensures.1) c.in-19.is (apart _ _)

pub returns-then-not-first : goal.returns-then-not-first
returns-then-not-first c =
    a_parallel_row c.args.table.now.kinds c.args.table.now.sizes c.args.i c.is_nothing-first.ensures c.is_nothing-second.ensures
    (second_is c.args.table.now.sizes c.args.i _ c.second_at.ensures.0 c.second_at.ensures.1) c.in-23.is (simp c.if-not-first.true)

pub returns-else-not-first : goal.returns-else-not-first
returns-else-not-first c =
    a_parallel_row c.args.table.now.kinds c.args.table.now.sizes c.args.i c.is_nothing-first.ensures c.is_nothing-second.ensures
    (second_is c.args.table.now.sizes c.args.i _ c.second_at.ensures.0 c.second_at.ensures.1) c.in-23.is (simp c.if-not-first.false)

pub returns-in_default : goal.returns-in_default
unfolding row_fits
returns-in_default c =
    let x = c.in_default.in_default-own.rest in
    sym (simp (ne_eqb _ 16 (λ e. x.0.0.1 (inl e)), ne_eqb _ 18 (λ e. x.0.0.1 (inr e)), ne_eqb _ 19 x.0.1, ne_eqb _ 23 x.1))
