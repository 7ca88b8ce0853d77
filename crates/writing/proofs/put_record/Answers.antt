-- `put_record`: the two or three stores make the record, by the shape that the kind has. Assumes nothing.
use mathlib.Core.Path.{sym, ap, ◌∙◌}
use native.Mathlib.Omega.{arith}
use lib.ListN.{length}
use lib.Seq.{length-sets}
use Rattle.tables.proofs.Shapes.{shaped, no_length}
use Rattle.writing.proofs.Stores.{room_for, stored_plain, stored_operated, not_stored}
use Rattle.writing.proofs.put_record.Goals as goal

pub returns-in_default : goal.returns-in_default
returns-in_default c =
    let e = sym c.shape_of.ensures ∙ c.in_default.is in record { value = omega (arith, no_length _ e); out_after = not_stored _ _ _ _ e }

pub put_number-requires : goal.put_number-requires
put_number-requires c =
    let e = sym c.shape_of.ensures ∙ c.in-Some.is in
    omega (arith, (room_for _ _ _ e c.requires).1)

pub put_number-requires-2 : goal.put_number-requires-2
put_number-requires-2 c =
    let e = sym c.shape_of.ensures ∙ c.in-Some.is in
    omega (arith, (room_for _ _ _ e c.requires).1, simp length-sets at (ap length c.put_number.ensures))

pub returns-then-shape-ne1 : goal.returns-then-shape-ne1
returns-then-shape-ne1 c =
    let e = sym c.shape_of.ensures ∙ c.in-Some.is in
    record { value = omega (arith, (shaped _ e).its_length); out_after = stored_plain _ _ _ _ e c.put_number.ensures c.put_number-2.ensures c.if-shape-ne1.true }

pub put_number-requires-3 : goal.put_number-requires-3
put_number-requires-3 c =
    let e = sym c.shape_of.ensures ∙ c.in-Some.is in
    omega (arith, (room_for _ _ _ e c.requires).2 c.if-shape-ne1.false, simp length-sets at (ap length c.put_number.ensures), simp length-sets at (ap length c.put_number-2.ensures))

pub returns : goal.returns
returns c =
    let e = sym c.shape_of.ensures ∙ c.in-Some.is in
    record { value = omega (arith, (shaped _ e).its_length); out_after = stored_operated _ _ _ _ e c.put_number.ensures c.put_number-2.ensures c.if-shape-ne1.false c.put_number-3.ensures }
