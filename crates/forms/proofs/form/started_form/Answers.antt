-- `forms::form::started_form` meets its contract: each arm is the form of its kind, and every statement has one of the eleven kinds.
-- Assumes nothing.
use mathlib.Core.Path.{◌∙◌}
use Rattle.tables.proofs.Rows.{has_row}
use Rattle.forms.specs.Forms.{step_of}
use Rattle.forms.proofs.FormLaws.{some_kind, in_table, started_formed, done_formed}
use Rattle.forms.proofs.form.started_form.Goals as goal

pub bounds-table-at : goal.bounds-table-at
bounds-table-at c = in_table c.requires

pub bounds-table-at-2 : goal.bounds-table-at-2
bounds-table-at-2 c = in_table c.requires

pub second_at-requires : goal.second_at-requires
second_at-requires c = in_table c.requires

pub returns-in-16 : goal.returns-in-16
returns-in-16 c = started_formed c.requires c.second_at.ensures.0 16 c.in-16.is

pub returns-in-17 : goal.returns-in-17
returns-in-17 c = started_formed c.requires c.second_at.ensures.0 17 c.in-17.is

pub returns-in-18 : goal.returns-in-18
returns-in-18 c = started_formed c.requires c.second_at.ensures.0 18 c.in-18.is

pub returns-in-19 : goal.returns-in-19
returns-in-19 c = started_formed c.requires c.second_at.ensures.0 19 c.in-19.is

pub returns-in-20 : goal.returns-in-20
returns-in-20 c = started_formed c.requires c.second_at.ensures.0 20 c.in-20.is

pub returns-in-21 : goal.returns-in-21
returns-in-21 c = started_formed c.requires c.second_at.ensures.0 21 c.in-21.is

pub returns-in-22 : goal.returns-in-22
returns-in-22 c = started_formed c.requires c.second_at.ensures.0 22 c.in-22.is

pub returns-in-23 : goal.returns-in-23
returns-in-23 c = started_formed c.requires c.second_at.ensures.0 23 c.in-23.is

pub returns-in-24 : goal.returns-in-24
returns-in-24 c = started_formed c.requires c.second_at.ensures.0 24 c.in-24.is

pub returns-in-25 : goal.returns-in-25
returns-in-25 c = started_formed c.requires c.second_at.ensures.0 25 c.in-25.is

pub returns-in-26 : goal.returns-in-26
returns-in-26 c = started_formed c.requires c.second_at.ensures.0 26 c.in-26.is

pub returns-in_default : goal.returns-in_default
unfolding step_of
returns-in_default c =
    λ live. done_formed (λ A t h.
    let k = (has_row t h.has).its_kind in
    absurd (some_kind t (λ e. c.in_default.in_default-own.rest.0.0.0.0.0.0.0.0.0.0.1 (k ∙ e)) (λ e. c.in_default.in_default-own.rest.0.0.0.0.0.0.0.0.0.1 (k ∙ e)) (λ e. c.in_default.in_default-own.rest.0.0.0.0.0.0.0.0.1 (k ∙ e))
    (λ e. c.in_default.in_default-own.rest.0.0.0.0.0.0.0.1 (k ∙ e))
    (λ e. c.in_default.in_default-own.rest.0.0.0.0.0.0.1 (k ∙ e)) (λ e. c.in_default.in_default-own.rest.0.0.0.0.0.1 (k ∙ e)) (λ e. c.in_default.in_default-own.rest.0.0.0.0.1 (k ∙ e)) (λ e. c.in_default.in_default-own.rest.0.0.0.1 (k ∙ e))
    (λ e. c.in_default.in_default-own.rest.0.0.1 (k ∙ e)) (λ e. c.in_default.in_default-own.rest.0.1 (k ∙ e)) (λ e. c.in_default.in_default-own.rest.1 (k ∙ e))))
