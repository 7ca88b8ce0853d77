-- `maze::ways::of_gate` meets its contract: a test by its row, and nothing else has a gate.
-- Assumes nothing.
use native.Mathlib.Omega.{arith}
use Rattle.rules.specs.Statements.{numbered}
use Rattle.tables.proofs.Rows.{some_statement}
use Rattle.maze.proofs.WayLaws.{stands_at, below_count, no_gate, no_test, its_test}
use Rattle.maze.proofs.ways.of_gate.Goals as goal

pub offset_bounds-table-i : goal.offset_bounds-table-i
offset_bounds-table-i c =
    let l = below_count c.requires.1 0 0 c.args.i c.args.a c.is_there.ensures c.if-not-is_there.false in
    omega (arith, (stands_at c.requires.1 c.args.i l).room, some_statement (numbered c.requires.0.body c.args.i))

pub bounds-table-i : goal.bounds-table-i
bounds-table-i c =
    let l = below_count c.requires.1 0 0 c.args.i c.args.a c.is_there.ensures c.if-not-is_there.false in
    omega (arith, (stands_at c.requires.1 c.args.i l).room, some_statement (numbered c.requires.0.body c.args.i))

pub from_gate-requires : goal.from_gate-requires
from_gate-requires c =
    (numbered c.requires.0.body c.args.i, stands_at c.requires.1 c.args.i (below_count c.requires.1 0 0 c.args.i c.args.a c.is_there.ensures c.if-not-is_there.false))

pub returns-in-19 : goal.returns-in-19
returns-in-19 c =
    λ g given o. its_test o given c.args.n c.args.i c.args.a c.is_there.ensures c.if-not-is_there.false c.in-19.is c.from_gate.ensures

pub returns-in_default : goal.returns-in_default
returns-in_default c = λ g given o. no_test o given c.args.n c.args.i c.args.a c.is_there.ensures c.if-not-is_there.false c.in_default.in_default-own.rest.1

pub returns-then-not-is_there : goal.returns-then-not-is_there
returns-then-not-is_there c = λ g given o. no_gate o given c.args.n c.args.i c.args.a c.is_there.ensures c.if-not-is_there.true
