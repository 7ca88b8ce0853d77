-- The corridors of a room one by one, on the caller's bytes. Assumes nothing.
use Rattle.std.specs.Prelude.{Bool, true, false, cond, ◌&&◌, List, [], ◌∷◌, ◌++◌, ℕ, ◌+◌, ltb, eqb, Result, Ok, Err}
use Rattle.std.proofs.Math.Option.{Option, none, some}
use Rattle.refusals.specs.Refusals.{number}
use Rattle.rules.specs.Statements.{Block, Stmt, nothing, pause, emit, present?◌then◌else◌, suspend◌on◌, ◌⨾◌, loop, ◌parallel◌, trap, exit, local, preorder, numbered}
use Rattle.tables.specs.Table.{statements, Has}
use Rattle.tables.specs.declared.Table.{Table}
use Rattle.mazes.specs.Mazes.{OfForm, Room, signal, part, gate, dungeon, Corridor, visible, secret, corridors, maze_of, nth}
use Rattle.maze.specs.declared.Room as code
use Rattle.maze.specs.declared.Room.TheVariants.{Signal, Part, Gate, Dungeon}
use Rattle.refusals.specs.declared.Refused.{Refused}
use Rattle.maze.specs.declared.Corridor as told
use Rattle.maze.specs.declared.Corridor.TheVariants.{Visible, Secret, NoMore, NoRoom}
use Rattle.maze.specs.Views.{View, refused, shown}

-- The room that the caller names.
unfoldable pub room_of : code.Room → Room
room_of (Signal s) = signal s
room_of (Part i a) = part i a
room_of (Gate i a) = gate i a
room_of Dungeon = dungeon

abbrev pub is_present : Stmt → Bool
is_present nothing = false
is_present (pause n) = false
is_present (emit s) = false
is_present (present? s then p else q) = true
is_present (suspend p on s) = false
is_present (p ⨾ q) = false
is_present (loop p) = false
is_present (p parallel q) = false
is_present (trap p) = false
is_present (exit d) = false
is_present (local s p) = false

-- The rooms there are: of the declared signals; of each statement, and the gate of each test, as a declared signal sees it; the dungeon.
unfoldable pub has_room : Block → Room → Bool
unfolding preorder statements
has_room b (signal s) = ltb s (b.inputs + b.outputs)
has_room b (part i a) = ltb a (b.inputs + b.outputs) && ltb i (statements b.body)
has_room b (gate i a) = ltb a (b.inputs + b.outputs) && (ltb i (statements b.body) && is_present (numbered b.body i))
has_room b dungeon = true

-- What the call comes to: turned down, no such room, no corridor of that number, or the corridor.
pub data Way : Type 0 where
  turned : ℕ → ℕ → Way
  no_room : Way
  no_more : Way
  leads : Corridor → Way

abbrev pub way_by : Option Corridor → Way
way_by none = no_more
way_by (some c) = leads c

unfoldable pub way_in : View → Room → ℕ → Way
unfolding has_room maze_of nth
way_in (refused n at) r k = turned n at
way_in (shown b given) r k = cond (has_room b r) (way_by (nth (maze_of b given r) k)) no_room

-- What a corridor of the code says.
unfoldable pub corridor_told : told.Corridor → Way
unfolding room_of
corridor_told (Visible r) = leads (visible (room_of r))
corridor_told (Secret r) = leads (secret (room_of r))
corridor_told NoMore = no_more
corridor_told NoRoom = no_room

-- What the answer says.
unfoldable pub way_told : Result told.Corridor Refused → Way
way_told (Ok c) = corridor_told c
way_told (Err r) = turned (number r.why) r.place

-- A row by itself: whether it gives a's room a corridor, and how many rows are passed by it.
unfoldable pub gives_one : ℕ → ℕ → ℕ → Bool
gives_one kind operand a = cond (eqb kind 18) (eqb a operand) (eqb kind 19)

-- Statements one after the other from row j on, and the corridors that they give.
unfoldable pub all_rows : List Stmt → ℕ
all_rows [] = 0
all_rows (p ∷ ps) = statements p + all_rows ps

unfoldable pub all_corridors : ℕ → ℕ → List Stmt → List Corridor
unfolding corridors
all_corridors a j [] = []
all_corridors a j (p ∷ ps) = corridors a j p ++ all_corridors a (j + statements p) ps

unfoldable pub Stand : Table → ℕ → List Stmt → Type 0
Stand tab j [] = Unit {0}
Stand tab j (p ∷ ps) = OfForm p × Has tab j p × Stand tab (j + statements p) ps
