-- Worked mazes as one table: each row is a block of the form with the inputs present, some of its rooms with their corridors in order, and the final statuses of its signals.
-- That the definitions give all of it is one statement, `worked`, proved by computing. Assumes nothing.
use mathlib.Core.Path.{◌≡◌, refl}
use mathlib.Core.Bool.{Bool, true, false, not, ◌&&◌}
use mathlib.Core.List.{List, [], ◌∷◌, ◌++◌, map}
use Prim.Native.Nat.{ℕ, zero, suc, ◌+◌}
use Rattle.sets.specs.Numbers.{listed, some_to, maxima, lowest}
use Rattle.rules.specs.Statements.{Block, Stmt, nothing, emit, present?◌then◌else◌, ◌parallel◌, ◌⨾◌, statements, preorder, from}
use Rattle.rules.specs.Events.{Status, present, absent, unknown, event}
use Rattle.rules.specs.Instant.{started}
use Rattle.rules.specs.MustCan.{gives}
use Rattle.rules.specs.States.{step}
use Rattle.rules.specs.Rounds.{marks, round, begin, all_same, settle, final_of}
use Rattle.mazes.specs.Mazes.{of_form, Room, signal, part, gate, dungeon, Corridor, visible, secret, corridors, gate_corridors, maze_of}
use Rattle.mazes.specs.AsRounds.{final_status}

pub record Row : Type 0 where
  pub inputs : ℕ
  pub outputs : ℕ
  pub body : Stmt
  pub given : List ℕ
  pub rooms : List Room

pub record Told : Type 0 where
  pub form : Bool
  pub ways : List (List Corridor)
  pub statuses : List Status

abbrev pub tell : Row → Told
tell r =
    let b : Block = record { inputs = r.inputs; outputs = r.outputs; body = r.body } in
    record {
      form = of_form r.body;
      ways = map (maze_of b (listed r.given)) r.rooms;
      statuses = map (final_status b (listed r.given)) (from 0 (r.inputs + r.outputs));
    }

abbrev pub row : ℕ → ℕ → Stmt → List ℕ → List Room → Row
row i o p given rs = record { inputs = i; outputs = o; body = p; given = given; rooms = rs }

abbrev pub says : List (List Corridor) → List Status → Told
says ws vs = record { form = true; ways = ws; statuses = vs }

abbrev pub then_part : ℕ → Stmt → Stmt
then_part s p = present? s then p else nothing

abbrev pub else_part : ℕ → Stmt → Stmt
else_part s q = present? s then nothing else q

-- Source document 000: P4, P3, P0 and P6, where every signal draws; P1 with t3, t2, b, t6, t0 as 0 to 4; the program of its Fig. 1 with a to g as 0 to 6.
abbrev pub P4 : Stmt
P4 = then_part 0 (emit 0)

abbrev pub P3 : Stmt
P3 = else_part 0 (emit 0)

abbrev pub P6 : Stmt
P6 = then_part 0 (emit 1) parallel then_part 1 (emit 0)

abbrev pub P1 : Stmt
P1 = else_part 0 (emit 1) parallel then_part 2 (emit 0) parallel else_part 3 (emit 0) parallel else_part 4 (emit 3)

abbrev pub fig_1 : Stmt
fig_1 =
    emit 0 parallel then_part 4 (emit 3) parallel else_part 0 (emit 3 parallel emit 5) parallel then_part 0 (else_part 1 (emit 2))
    parallel then_part 6 (then_part 4 (else_part 6 (emit 4) parallel else_part 4 (emit 6)))

-- Ours: two inputs, the first of them present.
abbrev pub gated : Stmt
gated = then_part 0 (else_part 1 (emit 2))

abbrev pub rows : List Row
rows =
    row 0 1 P4 [] (signal 0 ∷ gate 0 0 ∷ part 1 0 ∷ dungeon ∷ [])
    ∷ row 0 1 P3 [] (signal 0 ∷ gate 0 0 ∷ part 2 0 ∷ [])
    ∷ row 0 1 (P4 parallel P3) [] (signal 0 ∷ gate 1 0 ∷ gate 4 0 ∷ [])
    ∷ row 0 2 P6 [] (signal 0 ∷ signal 1 ∷ gate 1 0 ∷ part 2 0 ∷ part 5 0 ∷ part 2 1 ∷ [])
    ∷ row 0 5 P1 [] (signal 4 ∷ [])
    ∷ row 0 7 fig_1 [] (signal 0 ∷ signal 1 ∷ [])
    ∷ row 2 1 gated (0 ∷ []) (signal 0 ∷ signal 1 ∷ signal 2 ∷ gate 0 2 ∷ part 1 2 ∷ gate 1 2 ∷ part 3 2 ∷ [])
    ∷ []

abbrev pub told : List Told
told =
    says ((visible (gate 0 0) ∷ []) ∷ (visible (signal 0) ∷ visible (part 1 0) ∷ []) ∷ (visible dungeon ∷ []) ∷ [] ∷ []) (unknown ∷ [])
    ∷ says ((visible (gate 0 0) ∷ []) ∷ (secret (signal 0) ∷ visible (part 2 0) ∷ []) ∷ (visible dungeon ∷ []) ∷ []) (unknown ∷ [])
    ∷ says
    ((visible (gate 1 0) ∷ visible (gate 4 0) ∷ []) ∷ (visible (signal 0) ∷ visible (part 2 0) ∷ []) ∷ (secret (signal 0) ∷ visible (part 6 0) ∷ []) ∷ []) (unknown ∷ [])
    ∷ says
    ((visible (gate 1 0) ∷ visible (gate 4 0) ∷ []) ∷ (visible (gate 1 1) ∷ visible (gate 4 1) ∷ []) ∷ (visible (signal 0) ∷ visible (part 2 0) ∷ [])
    ∷ [] ∷ (visible dungeon ∷ []) ∷ (visible dungeon ∷ []) ∷ []) (unknown ∷ unknown ∷ [])
    ∷ says ((visible (gate 1 4) ∷ visible (gate 5 4) ∷ visible (gate 9 4) ∷ visible (gate 12 4) ∷ []) ∷ []) (absent ∷ present ∷ absent ∷ present ∷ absent ∷ [])
    ∷ says
    ((visible dungeon ∷ visible (gate 3 0) ∷ visible (gate 7 0) ∷ visible (gate 13 0) ∷ visible (gate 18 0) ∷ [])
    ∷ (visible (gate 3 1) ∷ visible (gate 7 1) ∷ visible (gate 13 1) ∷ visible (gate 18 1) ∷ []) ∷ [])
    (present ∷ absent ∷ present ∷ unknown ∷ unknown ∷ absent ∷ unknown ∷ [])
    ∷ says
    ((visible dungeon ∷ []) ∷ [] ∷ (visible (gate 0 2) ∷ []) ∷ (visible (signal 0) ∷ visible (part 1 2) ∷ []) ∷ (visible (gate 1 2) ∷ [])
    ∷ (secret (signal 1) ∷ visible (part 3 2) ∷ []) ∷ (visible dungeon ∷ []) ∷ []) (present ∷ absent ∷ present ∷ [])
    ∷ []

pub worked : map tell rows ≡ told
unfolding listed some_to maxima statements preorder from event started gives step marks round begin all_same settle final_of of_form corridors gate_corridors maze_of final_status
worked = refl

-- Out of the form: nothing at the root, as an arm or in both branches, two parts of a test, a sequence.
abbrev pub outside : List Stmt
outside =
    nothing ∷ (emit 0 parallel nothing) ∷ (present? 0 then nothing else nothing) ∷ (present? 0 then emit 0 else emit 0) ∷ (emit 0 ⨾ emit 0) ∷ then_part 0 (emit 0 ⨾ emit 0) ∷ []

pub turned_down : map of_form outside ≡ false ∷ false ∷ false ∷ false ∷ false ∷ false ∷ []
unfolding of_form
turned_down = refl
