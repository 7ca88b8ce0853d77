-- `moves::due_move`: a row for each arm. Assumes nothing.
use mathlib.Core.Path.{sym, ap}
use Rattle.read_steps.specs.Moves.{due_move}
use Rattle.read_steps.proofs.MoveLaws.{due_other}
use Rattle.read_steps.proofs.moves.due_move.Goals as goal

pub returns-in-0 : goal.returns-in-0
unfolding due_move
returns-in-0 c = ap due_move (sym c.in-0.is)

pub returns-in-1 : goal.returns-in-1
unfolding due_move
returns-in-1 c = ap due_move (sym c.in-1.is)

pub returns-in-2 : goal.returns-in-2
unfolding due_move
returns-in-2 c = ap due_move (sym c.in-2.is)

pub returns-in-12 : goal.returns-in-12
unfolding due_move
returns-in-12 c = ap due_move (sym c.in-12.is)

pub returns-in-3 : goal.returns-in-3
unfolding due_move
returns-in-3 c = ap due_move (sym c.in-3.is)

pub returns-in-10 : goal.returns-in-10
unfolding due_move
returns-in-10 c = ap due_move (sym c.in-10.is)

pub returns-in-13 : goal.returns-in-13
unfolding due_move
returns-in-13 c = ap due_move (sym c.in-13.is)

pub returns-in-7 : goal.returns-in-7
unfolding due_move
returns-in-7 c = ap due_move (sym c.in-7.is)

pub returns-in-9 : goal.returns-in-9
unfolding due_move
returns-in-9 c = ap due_move (sym c.in-9.is)

pub returns-in-91 : goal.returns-in-91
unfolding due_move
returns-in-91 c = ap due_move (sym c.in-91.is)

pub returns-in_default : goal.returns-in_default
returns-in_default c =
    due_other _ c.in_default.in_default-own.rest.0.0.0.0.0.0.0.0.0.1 c.in_default.in_default-own.rest.0.0.0.0.0.0.0.0.1 c.in_default.in_default-own.rest.0.0.0.0.0.0.0.1 c.in_default.in_default-own.rest.0.0.0.0.0.0.1 c.in_default.in_default-own.rest.0.0.0.0.0.1 c.in_default.in_default-own.rest.0.0.0.0.1
    c.in_default.in_default-own.rest.0.0.0.1 c.in_default.in_default-own.rest.0.0.1 c.in_default.in_default-own.rest.0.1 c.in_default.in_default-own.rest.1
