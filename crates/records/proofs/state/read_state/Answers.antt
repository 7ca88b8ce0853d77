-- `state::read_state`: one law of Reading for each way. Assumes nothing.
use mathlib.Core.Path.{◌∙◌, ap, ap₂, sym}
use mathlib.Core.List.{[], ◌∷◌}
use Prim.Native.Nat.{ℕ}
use Rattle.records.specs.StateRecord.{in_phase}
use Rattle.records.specs.Held.{held_of}
use Rattle.records.proofs.Reading.{read_sized, read_headed, read_kind, read_whole}
use Rattle.records.proofs.state.read_state.Goals as goal

pub returns-then-state-ne-SIZE : goal.returns-then-state-ne-SIZE
unfolding held_of
returns-then-state-ne-SIZE c = ap held_of (read_sized c.args.pauses c.args.state.now c.if-state-ne-SIZE.true)

pub returns-then-field_at : goal.returns-then-field_at
unfolding held_of
returns-then-field_at c =
    ap held_of (read_headed c.args.pauses c.args.state.now c.field_at.ensures c.if-field_at.true)

pub returns-then-field_at-ne-KIND : goal.returns-then-field_at-ne-KIND
unfolding held_of
returns-then-field_at-ne-KIND c =
    ap held_of (read_kind c.args.pauses c.args.state.now c.field_at-2.ensures c.if-field_at-ne-KIND.true)

pub returns : goal.returns
returns c =
    c.by_phase.ensures c.args.state.now (ap₂ (λ (x y : ℕ). x ∷ y ∷ []) c.field_at-3.ensures c.field_at-4.ensures)
    ∙ ap held_of
    (ap (λ (p : ℕ). in_phase p c.args.pauses c.args.state.now) c.field_at-phase.ensures
    ∙ read_whole c.args.pauses c.args.state.now c.if-state-ne-SIZE.false (sym c.field_at.ensures ∙ c.if-field_at.false) (sym c.field_at-2.ensures ∙ c.if-field_at-ne-KIND.false))
