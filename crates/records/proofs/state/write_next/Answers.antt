-- `state::write_next`: the two fields that are read back name the block again. Assumes nothing.
use mathlib.Core.Path.{◌∙◌, ap₂}
use Prim.Native.Nat.{ℕ}
use Rattle.records.specs.Held.{state_bytes}
use Rattle.records.proofs.state.write_next.Goals as goal

pub returns : goal.returns
returns c =
    c.put_state.ensures ∙ ap₂ (λ (v n : ℕ). state_bytes v n c.args.phase c.args.active) c.field_at-version.ensures c.field_at-statements.ensures
