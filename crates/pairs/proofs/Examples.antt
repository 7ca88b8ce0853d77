-- Runs on small blocks, as one table: each row is two blocks, a run and whether it shows a difference. That the definitions say so is one
-- statement, proved by computing. Assumes nothing.
use mathlib.Core.Path.{◌≡◌, refl}
use mathlib.Core.Bool.{Bool, true, false}
use mathlib.Core.List.{List, [], ◌∷◌, map}
use Prim.Native.Nat.{ℕ}
use Rattle.sets.specs.Numbers.{listed, some_to, maxima, down, downs, lowest}
use Rattle.sets.specs.Words.{bits, word}
use Rattle.rules.specs.Statements.{code, Stmt, nothing, pause, emit, present?◌then◌else◌, ◌⨾◌, ◌parallel◌, pauses}
use Rattle.rules.specs.Events.{event}
use Rattle.rules.specs.Instant.{any, active, held, started, resumed}
use Rattle.rules.specs.MustCan.{gives}
use Rattle.rules.specs.States.{step, kept, next}
use Rattle.rules.specs.Rounds.{outputs_with, marks, round, begin, all_same, settle, final_of, answer, react}
use Rattle.pairs.specs.Runs.{Run, start, ◌▸◌, reach, shows}
use Rattle.pairs.specs.Blocks.{told_alike, both_after, told_apart, comparison}

pub record Row : Type 0 where
  pub inputs : ℕ
  pub outputs : ℕ
  pub first : Stmt
  pub second : Stmt
  pub run : Run
  pub shown : Bool

abbrev row : ℕ → ℕ → Stmt → Stmt → Run → Bool → Row
row i o p q r z = record { inputs = i; outputs = o; first = p; second = q; run = r; shown = z }

-- document 01's C and E: each is 13
abbrev C : Stmt
C = present? 0 then emit 0 else nothing

abbrev E : Stmt
E = present? 0 then emit 0 else emit 0

-- 13 while the input is present; O is 1
abbrev stuck_or : Stmt → Stmt
stuck_or p = present? 0 then (present? 1 then emit 1 else nothing) else p

-- Q a set later than O, and the same with its arms the other way round
abbrev arms : Stmt
arms = (pause 0 ⨾ emit 0) parallel (pause 1 ⨾ pause 2 ⨾ emit 1)

abbrev swapped : Stmt
swapped = (pause 0 ⨾ pause 1 ⨾ emit 1) parallel (pause 2 ⨾ emit 0)

abbrev pub table : List Row
table =
    -- the empty run shows nothing; an output does, and so does a code
    row 0 1 (emit 0) nothing start false
    ∷ row 0 1 (emit 0) nothing (start ▸ 0) true
    ∷ row 0 0 (pause 0) nothing (start ▸ 0) true
    -- 13 is alike with 13, whatever it reports, and unlike an answer
    ∷ row 0 1 C E (start ▸ 0 ▸ 0) false
    ∷ row 0 1 C nothing (start ▸ 0) true
    -- rounds are not compared
    ∷ row 0 3 ((present? 0 then emit 1 else nothing) ⨾ (present? 1 then emit 2 else nothing)) nothing (start ▸ 0) false
    -- after a 13 both go on from the same states
    ∷ row 1 1 (stuck_or (emit 1)) (stuck_or nothing) (start ▸ 1 ▸ 1) false
    ∷ row 1 1 (stuck_or (emit 1)) (stuck_or nothing) (start ▸ 1 ▸ 0) true
    -- a difference in the second instant
    ∷ row 0 1 (pause 0 ⨾ emit 0) (pause 0 ⨾ pause 1 ⨾ emit 0) (start ▸ 0) false
    ∷ row 0 1 (pause 0 ⨾ emit 0) (pause 0 ⨾ pause 1 ⨾ emit 0) (start ▸ 0 ▸ 0) true
    -- finished runs as nothing, on and on; pauses numbered otherwise do not show
    ∷ row 0 2 arms swapped (start ▸ 0 ▸ 0 ▸ 0 ▸ 0 ▸ 0) false
    ∷ []

pub worked : map (λ (r : Row). shows (comparison (record { inputs = r.inputs; outputs = r.outputs; body = r.first })
    (record { inputs = r.inputs; outputs = r.outputs; body = r.second })) r.run) table ≡ map (λ (r : Row). r.shown) table
unfolding shows reach told_alike both_after told_apart bits word outputs_with react listed pauses gives kept started resumed any active held code marks round begin all_same
    settle final_of answer some_to maxima down downs lowest step next event
worked = refl
