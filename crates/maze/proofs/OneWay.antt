-- No two different answers meet the contract of `corridor`: what an answer says gives the answer back. Assumes nothing.
use mathlib.Core.Path.{◌≡◌, refl, sym, ◌∙◌, ap}
use Rattle.refusals.specs.Refusals.{why_of}
use Rattle.refusals.specs.declared.Why.{Why}
use Rattle.refusals.specs.declared.Refused.{Refused}
use Rattle.std.specs.Prelude.{Result, Ok, Err}
use Rattle.refusals.proofs.Laws.{why_back}
use Rattle.mazes.specs.Mazes.{Room, signal, part, gate, dungeon, visible, secret}
use Rattle.maze.specs.declared.Room as code
use Rattle.maze.specs.declared.Room.TheVariants.{Signal, Part, Gate, Dungeon}
use Rattle.maze.specs.declared.Corridor.{Corridor}
use Rattle.maze.specs.declared.Corridor.TheVariants.{Visible, Secret, NoMore, NoRoom}
use Rattle.maze.specs.Ways.{room_of, Way, turned, no_room, no_more, leads, way_told, corridor_told}

name_of : Room → code.Room
name_of (signal s) = Signal s
name_of (part i a) = Part i a
name_of (gate i a) = Gate i a
name_of dungeon = Dungeon

named_back : (r : code.Room) → name_of (room_of r) ≡ r
unfolding name_of room_of
named_back (Signal s) = refl
named_back (Part i a) = refl
named_back (Gate i a) = refl
named_back Dungeon = refl

answer_of : Way → Result Corridor Refused
answer_of (turned n at) = Err (record { why = why_of n; place = at })
answer_of no_room = Ok NoRoom
answer_of no_more = Ok NoMore
answer_of (leads (visible r)) = Ok (Visible (name_of r))
answer_of (leads (secret r)) = Ok (Secret (name_of r))

answered_back : (r : Result Corridor Refused) → answer_of (way_told r) ≡ r
unfolding answer_of way_told corridor_told
answered_back (Ok (Visible r)) = ap (λ (x : code.Room). Ok (Visible x)) (named_back r)
answered_back (Ok (Secret r)) = ap (λ (x : code.Room). Ok (Secret x)) (named_back r)
answered_back (Ok NoMore) = refl
answered_back (Ok NoRoom) = refl
answered_back (Err r) = ap (λ (v : Why). Err (record { why = v; place = r.place })) (why_back r.why)

pub one_way : {w : Way} (r s : Result Corridor Refused) → way_told r ≡ w → way_told s ≡ w → r ≡ s
one_way r s d e = sym (answered_back r) ∙ ap answer_of (d ∙ sym e) ∙ answered_back s
