-- `maze::corridors::from_part` meets its contract: what stands ahead at row j gives the corridors that are left, for every tree of the form at i.
-- Assumes nothing.
use mathlib.Core.Path.{refl, sym, ap, ◌∙◌, subst}
use Prim.Native.Nat.{ℕ, ◌+◌, ◌<◌}
use native.Mathlib.Omega.{arith}
use lib.ListN.{get_or}
use Rattle.tables.proofs.Rows.{has_row, some_statement}
use Rattle.mazes.specs.Mazes.{corridors}
use Rattle.maze.proofs.PartLaws.{Going, begins, ends, found, further, passing, none_told, one_told}
use Rattle.maze.proofs.corridors.from_part.Goals as goal
use Rattle.maze.proofs.corridors.from_part.Goals.{then-gives_one+else-left-eq0, else-gives_one}

pub offset_bounds-table-i : goal.offset_bounds-table-i
offset_bounds-table-i c = omega (arith, c.requires.1.room, some_statement c.requires.0)

pub bounds-table-i : goal.bounds-table-i
bounds-table-i c = omega (arith, c.requires.1.room, some_statement c.requires.0)

pub overflow_add-end : goal.overflow_add-end
overflow_add-end c = omega (arith, c.wide.ensures.1, c.requires.1.room)

pub loop-j-init : goal.loop-j-init
loop-j-init c =
    let tab = c.args.table.now in (
      omega (arith, c.wide.ensures.0, (has_row c.requires.0 c.requires.1.has).its_size, c.requires.1.room),
      λ t at f. (ap (λ (m : ℕ). c.args.i + m) (c.wide.ensures.0 ∙ (has_row t at.has).its_size), begins tab c.args.a c.args.i t c.args.n f at.has),
    )

pub offset_bounds-table-j : goal.offset_bounds-table-j
offset_bounds-table-j c = omega (arith, c.loop-j-test.true, c.loop-j.invariant.0)

pub bounds-table-j : goal.bounds-table-j
bounds-table-j c = omega (arith, c.loop-j-test.true, c.loop-j.invariant.0)

pub offset_bounds-table-j-in-loop-j : goal.offset_bounds-table-j-in-loop-j
offset_bounds-table-j-in-loop-j c = omega (arith, c.loop-j-test.true, c.loop-j.invariant.0)

pub bounds-table-j-in-loop-j : goal.bounds-table-j-in-loop-j
bounds-table-j-in-loop-j c = omega (arith, c.loop-j-test.true, c.loop-j.invariant.0)

pub offset_bounds-table-j-in-loop-j-2 : goal.offset_bounds-table-j-in-loop-j-2
offset_bounds-table-j-in-loop-j-2 c = omega (arith, c.loop-j-test.true, c.loop-j.invariant.0)

pub bounds-table-j-in-loop-j-2 : goal.bounds-table-j-in-loop-j-2
bounds-table-j-in-loop-j-2 c = omega (arith, c.loop-j-test.true, c.loop-j.invariant.0)

pub returns-then-left-eq0 : goal.returns-then-left-eq0
returns-then-left-eq0 c =
    let tab = c.args.table.now in
    λ t at f. one_told (corridors c.args.a c.args.i t) c.args.n _ c.given_by.ensures
    (found tab c.args.a c.args.i t c.args.n c.loop-j.j c.loop-j.left c.passed-on.result (get_or c.args.table.now.kinds c.loop-j.j 0) (get_or c.args.table.now.operands c.loop-j.j 0)
    (get_or c.args.table.now.sizes c.loop-j.j 0) (c.loop-j.invariant.1 t at f).1 (subst (λ (m : ℕ). c.loop-j.j < m) (c.loop-j.invariant.1 t at f).0 c.loop-j-test.true) refl refl refl
    c.passed-on.ensures.2 c.passed-on.ensures.3 (sym c.gives_one.ensures ∙ c.if-gives_one.true) c.if-left-eq0.true)

pub overflow_sub-left : goal.overflow_sub-left
overflow_sub-left c = omega (arith, c.if-left-eq0.false)

pub overflow_add-j : goal.overflow_add-j
overflow_add-j c = omega (arith, c.passed-on.ensures.1, c.loop-j-test.true, c.loop-j.invariant.0)

pub loop-j-smaller : goal.loop-j-smaller
loop-j-smaller c = omega (arith, c.passed-on.ensures.0, c.loop-j-test.true)

pub loop-j-preserved : goal.loop-j-preserved
loop-j-preserved c =
    let tab = c.args.table.now in (
      c.loop-j.invariant.0,
      λ t at f.
          let g = c.loop-j.invariant.1 t at f in
          let inside = subst (λ (m : ℕ). c.loop-j.j < m) g.0 c.loop-j-test.true in (
            g.0,
            elim c.if-gives_one.branch [
              | then-gives_one+else-left-eq0 w ↦ subst (Going tab c.args.a c.args.i t c.args.n (c.loop-j.j + c.passed-on.result)) (sym w.left-is)
                  (further tab c.args.a c.args.i t c.args.n c.loop-j.j c.loop-j.left c.passed-on.result (get_or tab.kinds c.loop-j.j 0) (get_or tab.operands c.loop-j.j 0)
                  (get_or tab.sizes c.loop-j.j 0) g.1 inside refl refl refl c.passed-on.ensures.2 c.passed-on.ensures.3 (sym c.gives_one.ensures ∙ w.if-gives_one.true) w.if-left-eq0.false)
              | else-gives_one w ↦ subst (Going tab c.args.a c.args.i t c.args.n (c.loop-j.j + c.passed-on.result)) (sym w.left-is)
                  (passing tab c.args.a c.args.i t c.args.n c.loop-j.j c.loop-j.left c.passed-on.result (get_or tab.kinds c.loop-j.j 0) (get_or tab.operands c.loop-j.j 0)
                  (get_or tab.sizes c.loop-j.j 0) g.1 inside refl refl refl c.passed-on.ensures.2 c.passed-on.ensures.3 (sym c.gives_one.ensures ∙ w.if-gives_one.false))
            ],
          ),
    )

pub returns : goal.returns
returns c =
    let tab = c.args.table.now in
    λ t at f.
    let e = (c.loop-j.invariant.1 t at f).0 in
    none_told (corridors c.args.a c.args.i t) c.args.n (ends tab c.args.a c.args.i t c.args.n (c.loop-j.invariant.1 t at f).1 (omega (arith, c.loop-j-test.false, e)))
