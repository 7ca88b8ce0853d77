-- `copying::put_copy`: each way is a law of CopyLaws, from the statement's own record on. The measure is what is left of the table.
-- Assumes nothing.
use mathlib.Core.Path.{refl, ◌∙◌, ap}
use native.Mathlib.Omega.{arith}
use lib.ListN.{length}
use lib.Seq.{length-sets}
use Rattle.copies.specs.Copying.{names_of}
use Rattle.copies.proofs.NodeLaws.{in_table, as_leaf, as_over, as_twice, as_joins, child_called}
use Rattle.copies.proofs.CopyLaws.{behind, begun_of, leaf_copied, over_copied, joins_copied, loop_copied, record_room}
use Rattle.copies.proofs.CopyLaws.{over_writes, first_writes, second_writes, sequence_room, once_writes, again_writes, local_small}
use Rattle.copies.proofs.copying.+put_copy.Goals as goal

pub offset_bounds-table-at : goal.offset_bounds-table-at
offset_bounds-table-at t c = let w = in_table c.requires.lies in omega arith

pub bounds-table-at : goal.bounds-table-at
bounds-table-at t c = in_table c.requires.lies

pub offset_bounds-table-at-2 : goal.offset_bounds-table-at-2
offset_bounds-table-at-2 t c = let w = in_table c.requires.lies in omega arith

pub bounds-table-at-2 : goal.bounds-table-at-2
bounds-table-at-2 t c = in_table c.requires.lies

pub put_record-to-requires : goal.put_record-to-requires
put_record-to-requires t c = record_room c.requires refl

pub node_at-requires : goal.node_at-requires
node_at-requires t c = record { tree = c.requires.tree; lies = c.requires.lies }

pub enum_told-1 : goal.enum_told-1
enum_told-1 t c = c.in-Leaf.in-Leaf-own.keys1

pub next_inside-requires : goal.next_inside-requires
next_inside-requires t c = omega (arith, c.requires.few)

pub put_copy-requires : goal.put_copy-requires
put_copy-requires t c =
    let h = as_over (c.node_at.ensures c.requires.tree c.requires.lies) c.in-Over.is in (
      (child_called c.decreases h.behind h.lies).0,
      over_writes c.requires refl c.put_record-to.ensures.value
          (simp length-sets at (ap length c.put_record-to.ensures.out_after)) c.next_inside.ensures h,
    )

pub put_record-begun-requires : goal.put_record-begun-requires
put_record-begun-requires t c =
    let h = as_twice (c.node_at.ensures c.requires.tree c.requires.lies) c.in-Twice.is in
    sequence_room c.requires refl c.put_record-to.ensures.value (simp length-sets at (ap length c.put_record-to.ensures.out_after)) h

pub put_copy-half-requires : goal.put_copy-half-requires
put_copy-half-requires t c =
    let h = as_twice (c.node_at.ensures c.requires.tree c.requires.lies) c.in-Twice.is in
    let same = (simp length-sets at (ap length c.put_record-begun.ensures.out_after)) ∙ (simp length-sets at (ap length c.put_record-to.ensures.out_after)) in
    ((child_called c.decreases h.behind h.lies).0, once_writes c.requires refl c.put_record-to.ensures.value same c.put_record-begun.ensures.value h)

pub put_copy-requires-in-Twice : goal.put_copy-requires-in-Twice
put_copy-requires-in-Twice t c =
    let h = as_twice (c.node_at.ensures c.requires.tree c.requires.lies) c.in-Twice.is in
    let d = c.put_copy-half.ensures h.child 0 h.lies in
    let same = (simp length-sets at (ap length d.stored)) ∙ (simp length-sets at (ap length c.put_record-begun.ensures.out_after)) ∙
    (simp length-sets at (ap length c.put_record-to.ensures.out_after)) in
    ((child_called c.decreases h.behind h.lies).0, again_writes c.requires refl c.put_record-to.ensures.value same c.put_record-begun.ensures.value h d)

pub put_copy-half-requires-in-Joins : goal.put_copy-half-requires-in-Joins
put_copy-half-requires-in-Joins t c =
    let h = as_joins (c.node_at.ensures c.requires.tree c.requires.lies) c.in-Joins.is in (
      (child_called c.decreases h.first_behind h.first_lies).0,
      first_writes c.requires refl c.put_record-to.ensures.value
          (simp length-sets at (ap length c.put_record-to.ensures.out_after)) h,
    )

pub put_copy-requires-in-Joins : goal.put_copy-requires-in-Joins
put_copy-requires-in-Joins t c =
    let h = as_joins (c.node_at.ensures c.requires.tree c.requires.lies) c.in-Joins.is in
    let d = c.put_copy-half-in-Joins.ensures h.first 0 h.first_lies in
    let same = (simp length-sets at (ap length d.stored)) ∙ (simp length-sets at (ap length c.put_record-to.ensures.out_after)) in
    ((child_called c.decreases h.second_behind h.second_lies).0, second_writes c.requires refl c.put_record-to.ensures.value same h d)

pub returns-in-Leaf : goal.returns-in-Leaf
returns-in-Leaf t c =
    λ s j l. leaf_copied (begun_of (names_of c.args.names) c.args.spot _ _ c.args.out.now l refl refl c.new_operand.ensures c.put_record-to.ensures.value
    c.put_record-to.ensures.out_after) (as_leaf (c.node_at.ensures s l) l c.in-Leaf.is) refl refl j

pub returns-in-Over : goal.returns-in-Over
returns-in-Over t c =
    λ s j l.
    let h = as_over (c.node_at.ensures s l) c.in-Over.is in
    over_copied (begun_of (names_of c.args.names) c.args.spot _ _ c.args.out.now l refl refl c.new_operand.ensures c.put_record-to.ensures.value
    c.put_record-to.ensures.out_after) j h.its (c.names_inside-inner.ensures (λ e. local_small l refl refl e)) c.next_inside.ensures
    (c.put_copy.ensures h.child j h.lies)

pub returns-in-Twice : goal.returns-in-Twice
returns-in-Twice t c =
    λ s j l.
    let h = as_twice (c.node_at.ensures s l) c.in-Twice.is in
    loop_copied 0 h.its (begun_of (names_of c.args.names) c.args.spot _ _ c.args.out.now l refl refl c.new_operand.ensures c.put_record-to.ensures.value
    c.put_record-to.ensures.out_after) c.put_record-begun.ensures.value c.put_record-begun.ensures.out_after j (c.put_copy-half.ensures h.child j h.lies)
    (c.put_copy-in-Twice.ensures h.child (behind j h.child) h.lies)

pub returns-in-Joins : goal.returns-in-Joins
returns-in-Joins t c =
    λ s j l.
    let h = as_joins (c.node_at.ensures s l) c.in-Joins.is in
    joins_copied (begun_of (names_of c.args.names) c.args.spot _ _ c.args.out.now l refl refl c.new_operand.ensures c.put_record-to.ensures.value
    c.put_record-to.ensures.out_after) j h.its (c.put_copy-half-in-Joins.ensures h.first j h.first_lies)
    (c.put_copy-in-Joins.ensures h.second (behind j h.first) h.second_lies)
