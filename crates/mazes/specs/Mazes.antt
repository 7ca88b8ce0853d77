-- The two-player maze of a block's first instant: its rooms and corridors, and which rooms win, lose and draw. Assumes nothing.
use Rattle.std.specs.Prelude.{◌≡◌, Bool, true, false, cond, ◌&&◌, ◌||◌, List, [], ◌∷◌, ◌++◌, ℕ, zero, suc, ◌+◌, eqb, ltb}
use Rattle.std.proofs.Math.Option.{Option, none, some}
use Rattle.sets.specs.Numbers.{Numbers}
use Rattle.rules.specs.Statements.{Block, Stmt, nothing, pause, emit, present?◌then◌else◌, suspend◌on◌, ◌⨾◌, loop, ◌parallel◌, trap, exit, local, statements, preorder, numbered}

-- The form: emit, parallel, and present with nothing in one branch. Nothing stands nowhere else.
pub data OfForm : Stmt → Type 0 where
  an_emit : (s : ℕ) → OfForm (emit s)
  with_then : (s : ℕ) {p : Stmt} → OfForm p → OfForm (present? s then p else nothing)
  with_else : (s : ℕ) {q : Stmt} → OfForm q → OfForm (present? s then nothing else q)
  a_parallel : {p q : Stmt} → OfForm p → OfForm q → OfForm (p parallel q)

abbrev pub is_nothing : Stmt → Bool
is_nothing nothing = true
is_nothing (pause n) = false
is_nothing (emit s) = false
is_nothing (present? s then p else q) = false
is_nothing (suspend p on s) = false
is_nothing (p ⨾ q) = false
is_nothing (loop p) = false
is_nothing (p parallel q) = false
is_nothing (trap p) = false
is_nothing (exit d) = false
is_nothing (local s p) = false

-- The same as a test.
unfoldable pub of_form : Stmt → Bool
of_form nothing = false
of_form (pause n) = false
of_form (emit s) = true
of_form (present? s then p else q) = of_form p && is_nothing q || is_nothing p && of_form q
of_form (suspend p on s) = false
of_form (p ⨾ q) = false
of_form (loop p) = false
of_form (p parallel q) = of_form p && of_form q
of_form (trap p) = false
of_form (exit d) = false
of_form (local s p) = false

-- The rooms: one for each signal; one for each part, by its statement's number, as a signal's room sees it; one between a test and its part, by the
-- test's number, as a signal's room sees it; and the dungeon.
pub data Room : Type 0 where
  signal : ℕ → Room
  part : ℕ → ℕ → Room
  gate : ℕ → ℕ → Room
  dungeon : Room

pub data Corridor : Type 0 where
  visible secret : Room → Corridor

-- A maze gives each room its corridors.
abbrev pub Maze : Type 0
Maze = Room → List Corridor

-- The corridors that a statement gives to a's room; i is its number. Emit s in s's room is a visible corridor to a dungeon; a test is a visible corridor to
-- its gate; parallel merges.
unfoldable pub corridors : ℕ → ℕ → Stmt → List Corridor
unfolding statements
corridors a i nothing = []
corridors a i (pause n) = []
corridors a i (emit s) = cond (eqb a s) (visible dungeon ∷ []) []
corridors a i (present? s then p else q) = visible (gate i a) ∷ []
corridors a i (suspend p on s) = []
corridors a i (p ⨾ q) = []
corridors a i (loop p) = []
corridors a i (p parallel q) = corridors a (i + 1) p ++ corridors a (i + 1 + statements p) q
corridors a i (trap p) = []
corridors a i (exit d) = []
corridors a i (local s p) = []

-- A test's gate. With a then part, visible corridors to the signal's room and to the part; with an else part the corridor to the signal's room is secret.
unfoldable pub gate_corridors : ℕ → ℕ → Stmt → List Corridor
unfolding statements
gate_corridors a i nothing = []
gate_corridors a i (pause n) = []
gate_corridors a i (emit s) = []
gate_corridors a i (present? s then p else q) =
    cond (is_nothing q) (visible (signal s) ∷ visible (part (i + 1) a) ∷ []) (secret (signal s) ∷ visible (part (i + 1 + statements p) a) ∷ [])
gate_corridors a i (suspend p on s) = []
gate_corridors a i (p ⨾ q) = []
gate_corridors a i (loop p) = []
gate_corridors a i (p parallel q) = []
gate_corridors a i (trap p) = []
gate_corridors a i (exit d) = []
gate_corridors a i (local s p) = []

-- The maze of a block's first instant with the inputs of a set present. Inputs present are given as a visible corridor to a dungeon, absent as dungeons.
unfoldable pub maze_of : Block → Numbers → Maze
unfolding preorder corridors gate_corridors
maze_of b given (signal s) = cond (ltb s b.inputs) (cond (given s) (visible dungeon ∷ []) []) (corridors s 0 b.body)
maze_of b given (part i a) = corridors a i (numbered b.body i)
maze_of b given (gate i a) = gate_corridors a i (numbered b.body i)
maze_of b given dungeon = []

-- Corridor number n of a room, from 0 on.
unfoldable pub nth : List Corridor → ℕ → Option Corridor
nth [] n = none
nth (c ∷ cs) zero = some c
nth (c ∷ cs) (suc n) = nth cs n

-- A corridor is one of these.
pub record OneOf (cs : List Corridor) (c : Corridor) : Type 0 where
  pub number : ℕ
  pub is_there : nth cs number ≡ some c

pub data End : Type 0 where
  winning losing : End

-- A room wins by a visible corridor to a losing room or a secret one to a winning room, and loses if every corridor denies that. Both are reached in
-- finitely many moves.
pub data Ends (m : Maze) : End → Room → Type 0 where
  by_visible : {r r' : Room} → OneOf (m r) (visible r') → Ends m losing r' → Ends m winning r
  by_secret : {r r' : Room} → OneOf (m r) (secret r') → Ends m winning r' → Ends m winning r
  denied : {r : Room} → ((r' : Room) → OneOf (m r) (visible r') → Ends m winning r') → ((r' : Room) → OneOf (m r) (secret r') → Ends m losing r') → Ends m losing r

abbrev pub Wins : Maze → Room → Type 0
Wins m r = Ends m winning r

abbrev pub Loses : Maze → Room → Type 0
Loses m r = Ends m losing r

-- A draw is neither.
pub record Draws (m : Maze) (r : Room) : Type 0 where
  pub no_win : Wins m r → ⊥
  pub no_loss : Loses m r → ⊥
