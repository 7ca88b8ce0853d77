-- `forms::form::resumed_form` meets its contract: each arm is the form of its kind; the kinds that are left are done.
-- Assumes nothing.
use mathlib.Core.Path.{sym, ap, ap₂, ◌∙◌}
use Rattle.tables.proofs.Rows.{has_row}
use Rattle.forms.specs.declared.form.Form.TheVariants.{Beside, Same}
use Rattle.forms.specs.Forms.{step_of, form_for}
use Rattle.forms.proofs.FormLaws.{in_table, formed, resumed_formed, resumed_done, done_formed}
use Rattle.forms.proofs.form.resumed_form.Goals as goal

pub bounds-table-at : goal.bounds-table-at
bounds-table-at c = in_table c.requires

pub bounds-table-at-2 : goal.bounds-table-at-2
bounds-table-at-2 c = in_table c.requires

pub second_at-next-requires : goal.second_at-next-requires
second_at-next-requires c = in_table c.requires

pub returns-in-19 : goal.returns-in-19
returns-in-19 c =
    formed (resumed_formed c.requires c.second_at-next.ensures.0 c.live_at-first_live.ensures c.live_at-next_live.ensures 19 c.in-19.is)
    (ap Same (sym c.chosen.ensures))

pub returns-in-20 : goal.returns-in-20
returns-in-20 c =
    resumed_formed c.requires c.second_at-next.ensures.0 c.live_at-first_live.ensures c.live_at-next_live.ensures 20 c.in-20.is

pub returns-then-first_live : goal.returns-then-first_live
returns-then-first_live c =
    resumed_formed c.requires c.second_at-next.ensures.0 (λ h. sym c.if-first_live.true ∙ c.live_at-first_live.ensures h) c.live_at-next_live.ensures 21 c.in-21.is

pub returns-else-first_live : goal.returns-else-first_live
returns-else-first_live c =
    resumed_formed c.requires c.second_at-next.ensures.0 (λ h. sym c.if-first_live.false ∙ c.live_at-first_live.ensures h) c.live_at-next_live.ensures 21 c.in-21.is

pub returns-in-22 : goal.returns-in-22
returns-in-22 c =
    resumed_formed c.requires c.second_at-next.ensures.0 c.live_at-first_live.ensures c.live_at-next_live.ensures 22 c.in-22.is

pub returns-in-23 : goal.returns-in-23
returns-in-23 c =
    formed (resumed_formed c.requires c.second_at-next.ensures.0 c.live_at-first_live.ensures c.live_at-next_live.ensures 23 c.in-23.is)
    (ap₂ Beside (sym c.arm.ensures) (sym c.arm-in-23.ensures))

pub returns-in-24 : goal.returns-in-24
returns-in-24 c =
    resumed_formed c.requires c.second_at-next.ensures.0 c.live_at-first_live.ensures c.live_at-next_live.ensures 24 c.in-24.is

pub returns-in-26 : goal.returns-in-26
returns-in-26 c =
    resumed_formed c.requires c.second_at-next.ensures.0 c.live_at-first_live.ensures c.live_at-next_live.ensures 26 c.in-26.is

pub returns-in_default : goal.returns-in_default
unfolding step_of form_for
returns-in_default c =
    done_formed (λ A t h.
    let k = (has_row t h.has).its_kind in
    resumed_done A _ t (λ e. c.in_default.in_default-own.rest.0.0.0.0.0.0.1 (k ∙ e)) (λ e. c.in_default.in_default-own.rest.0.0.0.0.0.1 (k ∙ e)) (λ e. c.in_default.in_default-own.rest.0.0.0.0.1 (k ∙ e)) (λ e. c.in_default.in_default-own.rest.0.0.0.1 (k ∙ e))
    (λ e. c.in_default.in_default-own.rest.0.0.1 (k ∙ e)) (λ e. c.in_default.in_default-own.rest.0.1 (k ∙ e)) (λ e. c.in_default.in_default-own.rest.1 (k ∙ e)))
