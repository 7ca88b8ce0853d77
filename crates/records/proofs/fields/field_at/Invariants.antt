-- `fields::field_at`: the widths passed over add up to the place of the field. Assumes nothing.
use mathlib.Core.Path.{◌≡◌}
use Rattle.records.specs.Fields.{place}
use Rattle.records.proofs.fields.field_at.Given as goal

abbrev pub invariant-loop-width : goal.invariant-loop-width
invariant-loop-width l = l.at ≡ place l.widths l.width-index
