-- `values::whole::room_by`: each number as its definition says it. Assumes nothing.
use mathlib.Core.Path.{sym, ap}
use Prim.Native.Nat.{ℕ}
use Rattle.maze.specs.Ways.{room_of}
use Rattle.values.specs.Asking.{room_for}
use Rattle.values.specs.Whole.{room_by}
use Rattle.values.proofs.Rooms.{names_none}
use Rattle.values.proofs.whole.room_by.Goals as goal

pub returns-in-0 : goal.returns-in-0
unfolding room_of room_for
returns-in-0 c = ap (λ (k : ℕ). room_for (room_by k c.args.first c.args.second)) (sym c.in-0.is)

pub returns-in-1 : goal.returns-in-1
unfolding room_of room_for
returns-in-1 c = ap (λ (k : ℕ). room_for (room_by k c.args.first c.args.second)) (sym c.in-1.is)

pub returns-in-2 : goal.returns-in-2
unfolding room_of room_for
returns-in-2 c = ap (λ (k : ℕ). room_for (room_by k c.args.first c.args.second)) (sym c.in-2.is)

pub returns-in-3 : goal.returns-in-3
unfolding room_of room_for
returns-in-3 c = ap (λ (k : ℕ). room_for (room_by k c.args.first c.args.second)) (sym c.in-3.is)

pub returns-in_default : goal.returns-in_default
unfolding room_of
returns-in_default c =
    names_none c.args.room c.args.first c.args.second c.in_default.in_default-own.rest.0.0.0.1 c.in_default.in_default-own.rest.0.0.1 c.in_default.in_default-own.rest.0.1 c.in_default.in_default-own.rest.1
