-- `maze::corridors::from_gate` meets its contract: the row of the test says which part it has.
-- Assumes nothing.
use native.Mathlib.Omega.{arith}
use Rattle.tables.proofs.Rows.{some_statement}
use Rattle.maze.specs.Ways.{corridor_told}
use Rattle.maze.proofs.RowLaws.{second_is}
use Rattle.maze.proofs.GateLaws.{by_then, by_else}
use Rattle.maze.proofs.corridors.from_gate.Goals as goal

pub offset_bounds-table-i : goal.offset_bounds-table-i
offset_bounds-table-i c = omega (arith, c.requires.1.room, some_statement c.requires.0)

pub bounds-table-i : goal.bounds-table-i
bounds-table-i c = omega (arith, c.requires.1.room, some_statement c.requires.0)

pub second_at-second-requires : goal.second_at-second-requires
second_at-second-requires c = omega (arith, c.requires.1.room, some_statement c.requires.0)

pub overflow_add-i : goal.overflow_add-i
overflow_add-i c = omega (arith, c.requires.1.room, some_statement c.requires.0)

pub returns-then-is_nothing : goal.returns-then-is_nothing
returns-then-is_nothing c =
    let tab = c.args.table.now in
    λ t at e. by_then tab c.args.a c.args.i c.args.n c.wide-s.result c.second_at-second.result c.is_nothing.result (corridor_told c.then_gate.result) c.wide-s.ensures.0
    (second_is c.args.table.now.sizes c.args.i c.second_at-second.result c.second_at-second.ensures.0 c.second_at-second.ensures.1) c.is_nothing.ensures
    t at e c.if-is_nothing.true c.then_gate.ensures

pub returns : goal.returns
returns c =
    let tab = c.args.table.now in
    λ t at e. by_else tab c.args.a c.args.i c.args.n c.wide-s.result c.second_at-second.result c.is_nothing.result (corridor_told c.else_gate.result) c.wide-s.ensures.0
    (second_is c.args.table.now.sizes c.args.i c.second_at-second.result c.second_at-second.ensures.0 c.second_at-second.ensures.1) c.is_nothing.ensures
    t at e c.if-is_nothing.false c.else_gate.ensures
