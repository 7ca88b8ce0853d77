-- `reader::read_at` meets its contract. Each return is one way through the reading, and its lemma stands in Ways. The measure is
-- the room on the path.
-- Assumes nothing.
use native.Mathlib.Omega.{arith}
use native.Mathlib.Nat.{pos_of_ne-zero}
use mathlib.Core.Path.{refl, sym, ◌∙◌}
use Rattle.std.proofs.lemmas.Result.{err_from_is_err_and}
use Rattle.tables.proofs.Shapes.{shaped}
use Rattle.block.proofs.Views.{has_shape}
use Rattle.block.proofs.Ways.{with_moved, good, passed, passes_at, in_hand, end_fault, no_child, ready_child, next_child, child_refused, children_sized, all_children}
use Rattle.block.proofs.reader.+read_at.Goals as goal

pub returns-in_err-statement_fault : goal.returns-in_err-statement_fault
returns-in_err-statement_fault t c =
    let p = err_from_is_err_and c.from_residual.result c.from_residual.ensures.1 in
    rw (p.1, p.2) (end_fault c.args.b.now c.args.d c.args.c c.args.r.now c.statement_fault.ensures c.in_err-statement_fault.was c.requires.1)

pub overflow_add-r : goal.overflow_add-r
overflow_add-r t c = omega (arith, (passed c.args.b.now c.args.d c.args.c c.args.r.now c.statement_fault.ensures c.in_ok-statement_fault.was).ends, c.requires.0.fits)

pub two_bytes-kind-requires : goal.two_bytes-kind-requires
two_bytes-kind-requires t c = omega (arith, (passed c.args.b.now c.args.d c.args.c c.args.r.now c.statement_fault.ensures c.in_ok-statement_fault.was).ends, c.requires.0.fits)

pub overflow_add-r-2 : goal.overflow_add-r-2
overflow_add-r-2 t c = omega (arith, (passed c.args.b.now c.args.d c.args.c c.args.r.now c.statement_fault.ensures c.in_ok-statement_fault.was).ends, c.requires.0.fits)

pub two_bytes-operand-requires : goal.two_bytes-operand-requires
two_bytes-operand-requires t c = omega (arith, (passed c.args.b.now c.args.d c.args.c c.args.r.now c.statement_fault.ensures c.in_ok-statement_fault.was).ends, c.requires.0.fits)

pub unwrap-shape-requires : goal.unwrap-shape-requires
unwrap-shape-requires t c =
    let s = has_shape (passed c.args.b.now c.args.d c.args.c c.args.r.now c.statement_fault.ensures c.in_ok-statement_fault.was).its_kind in
    rw (c.shape_of.ensures, c.two_bytes-kind.ensures, s.1) (refl)

pub offset_bounds-table-n : goal.offset_bounds-table-n
offset_bounds-table-n t c = omega (arith, (passed c.args.b.now c.args.d c.args.c c.args.r.now c.statement_fault.ensures c.in_ok-statement_fault.was).counted)

pub bounds-table-n : goal.bounds-table-n
bounds-table-n t c = omega (arith, (passed c.args.b.now c.args.d c.args.c c.args.r.now c.statement_fault.ensures c.in_ok-statement_fault.was).counted)

pub kept-requires : goal.kept-requires
kept-requires t c = (shaped _ (sym c.shape_of.ensures ∙ c.unwrap-shape.ensures)).its_operands

pub offset_bounds-table-n-2 : goal.offset_bounds-table-n-2
offset_bounds-table-n-2 t c = omega (arith, (passed c.args.b.now c.args.d c.args.c c.args.r.now c.statement_fault.ensures c.in_ok-statement_fault.was).counted)

pub bounds-table-n-2 : goal.bounds-table-n-2
bounds-table-n-2 t c = omega (arith, (passed c.args.b.now c.args.d c.args.c c.args.r.now c.statement_fault.ensures c.in_ok-statement_fault.was).counted)

pub inner-around-requires : goal.inner-around-requires
inner-around-requires t c =
    let g = passes_at _ _ _ _ _ _ c.two_bytes-kind.ensures c.two_bytes-operand.ensures (good c.args.b.now c.args.d c.args.c c.args.r.now c.statement_fault.ensures c.in_ok-statement_fault.was) in (
      omega (arith, pos_of_ne-zero g.roomy),
      omega (arith, c.requires.0.few_traps),
      omega (arith, c.requires.0.few_nested),
      λ e. omega (arith, (g.declaring e).0, (g.declaring e).1, c.requires.0.signals),
    )

pub passed-requires : goal.passed-requires
passed-requires t c =
    let p = passed c.args.b.now c.args.d c.args.c c.args.r.now c.statement_fault.ensures c.in_ok-statement_fault.was in (
      (shaped _ (sym c.shape_of.ensures ∙ c.unwrap-shape.ensures)).its_length,
      omega (arith, p.ends, c.requires.0.fits),
      omega (arith, p.counted),
      omega (arith, c.requires.0.few_pauses),
      omega (arith, c.requires.0.few_locals, c.requires.0.signals),
    )

pub loop-init : goal.loop-init
loop-init t c = no_child

pub read_at-requires : goal.read_at-requires
read_at-requires t c =
    let w = in_hand c.args.b.now c.args.d c.args.c c.args.r.now c.requires.0 c.statement_fault.ensures c.in_ok-statement_fault.was c.two_bytes-kind.ensures c.two_bytes-operand.ensures c.inner-around.ensures c.passed.ensures in
    let children = (shaped _ (sym c.shape_of.ensures ∙ c.unwrap-shape.ensures)).its_children in
    (omega (arith, w.room, c.decreases), ready_child w c.requires.1 c.kept.ensures c.loop.invariant (omega (arith, c.loop-test.true)))

pub returns-in_err-read_at : goal.returns-in_err-read_at
returns-in_err-read_at t c =
    let w = in_hand c.args.b.now c.args.d c.args.c c.args.r.now c.requires.0 c.statement_fault.ensures c.in_ok-statement_fault.was c.two_bytes-kind.ensures c.two_bytes-operand.ensures c.inner-around.ensures c.passed.ensures in
    let children = (shaped _ (sym c.shape_of.ensures ∙ c.unwrap-shape.ensures)).its_children in
    let p = err_from_is_err_and c.from_residual-in_err-read_at.result c.from_residual-in_err-read_at.ensures.1 in
    rw (p.1, p.2) (child_refused w c.requires.1 c.kept.ensures c.loop.invariant c.read_at.ensures (omega (arith, c.loop-test.true)) (with_moved _ c.in_err-read_at.was))

pub loop-preserved : goal.loop-preserved
loop-preserved t c =
    let w = in_hand c.args.b.now c.args.d c.args.c c.args.r.now c.requires.0 c.statement_fault.ensures c.in_ok-statement_fault.was c.two_bytes-kind.ensures c.two_bytes-operand.ensures c.inner-around.ensures c.passed.ensures in
    let children = (shaped _ (sym c.shape_of.ensures ∙ c.unwrap-shape.ensures)).its_children in
    next_child w c.requires.1 c.kept.ensures c.loop.invariant c.read_at.ensures (omega (arith, c.loop-test.true)) (with_moved _ c.in_ok-read_at.was)

pub overflow_sub-table : goal.overflow_sub-table
overflow_sub-table t c =
    let w = in_hand c.args.b.now c.args.d c.args.c c.args.r.now c.requires.0 c.statement_fault.ensures c.in_ok-statement_fault.was c.two_bytes-kind.ensures c.two_bytes-operand.ensures c.inner-around.ensures c.passed.ensures in
    let children = (shaped _ (sym c.shape_of.ensures ∙ c.unwrap-shape.ensures)).its_children in
    (children_sized w c.requires.1 c.kept.ensures c.loop.invariant (omega (arith, c.loop-test.false, c.loop.auto.counter-end))).0

pub overflow_cast-table : goal.overflow_cast-table
overflow_cast-table t c =
    let w = in_hand c.args.b.now c.args.d c.args.c c.args.r.now c.requires.0 c.statement_fault.ensures c.in_ok-statement_fault.was c.two_bytes-kind.ensures c.two_bytes-operand.ensures c.inner-around.ensures c.passed.ensures in
    let children = (shaped _ (sym c.shape_of.ensures ∙ c.unwrap-shape.ensures)).its_children in
    omega (arith, (children_sized w c.requires.1 c.kept.ensures c.loop.invariant (omega (arith, c.loop-test.false, c.loop.auto.counter-end))).1)

pub offset_bounds-table-n-3 : goal.offset_bounds-table-n-3
offset_bounds-table-n-3 t c = omega (arith, (passed c.args.b.now c.args.d c.args.c c.args.r.now c.statement_fault.ensures c.in_ok-statement_fault.was).counted)

pub bounds-table-n-3 : goal.bounds-table-n-3
bounds-table-n-3 t c = omega (arith, (passed c.args.b.now c.args.d c.args.c c.args.r.now c.statement_fault.ensures c.in_ok-statement_fault.was).counted)

pub returns : goal.returns
returns t c =
    let w = in_hand c.args.b.now c.args.d c.args.c c.args.r.now c.requires.0 c.statement_fault.ensures c.in_ok-statement_fault.was c.two_bytes-kind.ensures c.two_bytes-operand.ensures c.inner-around.ensures c.passed.ensures in
    let children = (shaped _ (sym c.shape_of.ensures ∙ c.unwrap-shape.ensures)).its_children in
    all_children w c.requires.1 c.kept.ensures c.loop.invariant (omega (arith, c.loop-test.false, c.loop.auto.counter-end))
