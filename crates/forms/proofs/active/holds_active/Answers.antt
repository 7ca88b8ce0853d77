-- `forms::active::holds_active` meets its contract: a pause by the set, any other statement by the flags of its children.
-- Assumes nothing.
use mathlib.Core.Path.{refl, sym, ap, ◌∙◌}
use mathlib.Core.Bool.{Bool, false, ◌||◌}
use lib.ListN.{get_or}
use native.Mathlib.Omega.{arith}
use Rattle.forms.proofs.ActiveLaws.{pause_active, none_active, one_active, two_active}
use Rattle.forms.proofs.active.holds_active.Goals as goal

pub returns-then-table-at-eq17 : goal.returns-then-table-at-eq17
returns-then-table-at-eq17 c = λ l t a. c.has_pause.ensures ∙ pause_active l t a c.if-table-at-eq17.true

pub returns-then-size-lt2 : goal.returns-then-size-lt2
returns-then-size-lt2 c =
    λ l t a.
    none_active l t a c.if-table-at-eq17.false (omega (arith, c.wide-size.ensures.0, c.if-size-lt2.true))

pub returns-then-first : goal.returns-then-first
returns-then-first c =
    λ l t a.
    let next = get_or c.args.live.now c.second_at-next.result false in
    c.if-first.true ∙ ap (λ (b : Bool). b || next) (sym c.if-first.true)
    ∙ two_active l t a c.if-table-at-eq17.false (omega (arith, c.wide-size.ensures.0, c.if-size-lt2.false)) c.second_at-next.ensures.0 c.live_at-first.ensures
    (omega (arith, c.wide-size.ensures.0, c.if-next-at.true)) (λ h. refl)

pub returns-else-first : goal.returns-else-first
returns-else-first c =
    λ l t a.
    ap (λ (b : Bool). b || c.live_at.result) (sym c.if-first.false)
    ∙ two_active l t a c.if-table-at-eq17.false (omega (arith, c.wide-size.ensures.0, c.if-size-lt2.false)) c.second_at-next.ensures.0 c.live_at-first.ensures
    (omega (arith, c.wide-size.ensures.0, c.if-next-at.true)) c.live_at.ensures

pub returns : goal.returns
returns c =
    λ l t a.
    one_active l t a c.if-table-at-eq17.false (omega (arith, c.wide-size.ensures.0, c.if-size-lt2.false)) c.second_at-next.ensures.0 c.live_at-first.ensures
    (omega (arith, c.wide-size.ensures.0, c.if-next-at.false))
