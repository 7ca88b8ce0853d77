-- The coherence law as one table: each row is a block, a state, the present inputs and every coherent reaction, one for each assignment that is
-- coherent. That there are these and no others is one statement, `lawful`, proved by computing `reactions`, which `all-coherent` holds to the law.
-- Assumes nothing.
use mathlib.Core.Path.{◌≡◌, refl}
use mathlib.Core.Bool.{Bool, true, false}
use mathlib.Core.List.{List, [], ◌∷◌, map}
use Prim.Native.Nat.{ℕ}
use lib.ListN.{length}
use Rattle.sets.specs.Numbers.{members, listed, down}
use Rattle.rules.specs.Statements.{depth, code, Stmt, nothing, pause, emit, present?◌then◌else◌, suspend◌on◌, ◌⨾◌, loop, ◌parallel◌, trap, exit, local, pauses}
use Rattle.rules.specs.Instant.{any, active, held, started, resumed}
use Rattle.rules.specs.States.{State, fresh, finished, phase_of, active_of, step, next}
use Rattle.rules.specs.Coherence.{execute, world}
use Rattle.rules.proofs.AllRuns.{assigned, runs, all_outs, outs_agree, Reaction, reactions}
use Rattle.rules.proofs.Cases.{active_on}

-- A coherent reaction with its sets as lists: the outputs present (true) or absent, the code, the phase of the next state and the pauses kept.
pub record Lawful : Type 0 where
  pub outs : List Bool
  pub code : ℕ
  pub phase : ℕ
  pub keeps : List ℕ

-- With code 0, which finishes the block; with code 1, which leaves it running on these pauses.
abbrev pub finishes : List Bool → Lawful
finishes vs = record { outs = vs; code = 0; phase = 2; keeps = [] }

abbrev pub stays_on : List Bool → List ℕ → Lawful
stays_on vs ks = record { outs = vs; code = 1; phase = 1; keeps = ks }

pub record LawRow : Type 0 where
  pub inputs : ℕ
  pub outputs : ℕ
  pub body : Stmt
  pub begins : State
  pub given : List ℕ
  pub coherent : List Lawful

abbrev pub law : ℕ → ℕ → Stmt → State → List ℕ → List Lawful → LawRow
law i o p st given rs = record { inputs = i; outputs = o; body = p; begins = st; given = given; coherent = rs }

abbrev told : Stmt → Reaction → Lawful
told p r = record { outs = r.outs; code = r.code; phase = phase_of r.leaves; keeps = members (length (pauses p)) (active_of r.leaves) }

-- The coherent reactions of a row's instant.
abbrev pub coherent_of : LawRow → List Lawful
coherent_of r = map (told r.body) (reactions (record { inputs = r.inputs; outputs = r.outputs; body = r.body }) r.begins (listed r.given))

-- A signal that is emitted only where it is absent: no status of it is coherent.
contrary : ℕ → Stmt
contrary s = present? s then nothing else emit s

-- SUSPEND. I is 0, O is 1: the signal present holds the body, absent it goes on, and it is not tested when the body starts.
suspend_present : LawRow
suspend_present = law 1 1 (suspend (pause 0 ⨾ emit 1) on 0) (active_on (0 ∷ [])) (0 ∷ []) (stays_on (false ∷ []) (0 ∷ []) ∷ [])

suspend_absent : LawRow
suspend_absent = law 1 1 (suspend (pause 0 ⨾ emit 1) on 0) (active_on (0 ∷ [])) [] (finishes (true ∷ []) ∷ [])

suspend_starts : LawRow
suspend_starts = law 1 1 (suspend (emit 1) on 0) fresh (0 ∷ []) (finishes (true ∷ []) ∷ [])

-- a body held keeps its own old set, not the whole active set
suspend_keeps : LawRow
suspend_keeps = law 1 0 ((suspend (pause 0) on 0) parallel pause 1) (active_on (0 ∷ 1 ∷ [])) (0 ∷ []) (stays_on [] (0 ∷ []) ∷ [])

-- O is 0: a body that emits the signal which suspends it has no coherent reaction
suspend_contrary : LawRow
suspend_contrary = law 0 1 (suspend (pause 0 ⨾ emit 0) on 0) (active_on (0 ∷ [])) [] []

-- TRAP. An exit leaves it with 0 and what follows is executed; O is 0
trap_left : LawRow
trap_left = law 0 1 (trap (exit (depth 0) parallel pause 0) ⨾ emit 0) fresh [] (finishes (true ∷ []) ∷ [])

-- it keeps no pause then: of the other arm, or of the part that follows, only theirs
trap_keeps_none : LawRow
trap_keeps_none = law 0 0 (trap (exit (depth 0) parallel pause 0) parallel pause 1) fresh [] (stays_on [] (1 ∷ []) ∷ [])

trap_resumed : LawRow
trap_resumed =
    law 0 0 (trap ((pause 0 ⨾ exit (depth 0)) parallel (pause 1 ⨾ pause 2)) ⨾ pause 3) (active_on (0 ∷ 1 ∷ [])) [] (stays_on [] (3 ∷ []) ∷ [])

-- an exit passes over one trap; O is 0, A is 1
trap_passed : LawRow
trap_passed = law 0 2 (trap (trap (exit (depth 1)) ⨾ emit 0) ⨾ emit 1) fresh [] (finishes (false ∷ true ∷ []) ∷ [])

-- what stands after an executed exit is not executed: O present would not be emitted, O absent would be
trap_contrary : LawRow
trap_contrary = law 0 1 (trap ((present? 0 then (exit (depth 0)) else nothing) ⨾ emit 0)) fresh [] []

-- PARALLEL. O is 0, A is 1: both arms see one status, the larger code is the parallel's, and an arm that is over gives 0
parallel_both : LawRow
parallel_both = law 0 2 ((present? 0 then emit 1 else nothing) parallel emit 0) fresh [] (finishes (true ∷ true ∷ []) ∷ [])

parallel_round : LawRow
parallel_round =
    law 0 2 ((present? 0 then emit 1 else nothing) parallel (present? 1 then emit 0 else nothing)) fresh []
    (finishes (true ∷ true ∷ []) ∷ finishes (false ∷ false ∷ []) ∷ [])

parallel_larger : LawRow
parallel_larger = law 0 1 ((nothing parallel pause 0) ⨾ emit 0) fresh [] (stays_on (false ∷ []) (0 ∷ []) ∷ [])

parallel_idle : LawRow
parallel_idle = law 0 1 ((pause 0 ⨾ pause 1) parallel (pause 2 ⨾ emit 0)) (active_on (0 ∷ [])) [] (stays_on (false ∷ []) (1 ∷ []) ∷ [])

parallel_contrary : LawRow
unfolding contrary
parallel_contrary = law 0 1 (nothing parallel contrary 0) fresh [] []

-- LOCAL. A local whose body is not executed has no say, in a branch not chosen or after an exit; one that is executed has. I is 0, S is 1 or 0
local_not_chosen : LawRow
unfolding contrary
local_not_chosen = law 1 0 (present? 0 then (local 1 (contrary 1)) else nothing) fresh [] (finishes [] ∷ [])

local_chosen : LawRow
unfolding contrary
local_chosen = law 1 0 (present? 0 then (local 1 (contrary 1)) else nothing) fresh (0 ∷ []) []

local_not_reached : LawRow
unfolding contrary
local_not_reached = law 0 0 (trap (exit (depth 0) ⨾ local 0 (contrary 0))) fresh [] (finishes [] ∷ [])

-- two assignments are coherent, each with the same reaction
local_either : LawRow
local_either = law 0 0 (local 0 (present? 0 then emit 0 else nothing)) fresh [] (finishes [] ∷ finishes [] ∷ [])

-- LOOP, resumed and restarted in one instant: the local has a status for each of the two runs of its body. O is 0, N is 1, S is 2
loop_two_runs : LawRow
loop_two_runs =
    law 0 2 (loop (local 2 ((present? 2 then emit 0 else emit 1) ⨾ pause 0 ⨾ emit 2))) (active_on (0 ∷ [])) []
    (stays_on (false ∷ true ∷ []) (0 ∷ []) ∷ [])

-- the run that is resumed, and the one that is restarted, has no coherent status
loop_resumed_contrary : LawRow
unfolding contrary
loop_resumed_contrary = law 0 0 (loop (local 0 (pause 0 ⨾ contrary 0))) (active_on (0 ∷ [])) [] []

loop_restarted_contrary : LawRow
unfolding contrary
loop_restarted_contrary = law 0 0 (loop (local 0 (contrary 0) ⨾ pause 0)) (active_on (0 ∷ [])) [] []

-- not restarted where the resumed body does not end
loop_not_restarted : LawRow
unfolding contrary
loop_not_restarted = law 0 0 (loop (local 0 (contrary 0) ⨾ pause 0 ⨾ pause 1)) (active_on (0 ∷ [])) [] (stays_on [] (1 ∷ []) ∷ [])

-- THE REST. Present does not test again on resuming, a later part is resumed alone, and finished runs as nothing
present_resumes : LawRow
present_resumes = law 1 1 (present? 0 then (pause 0 ⨾ emit 1) else nothing) (active_on (0 ∷ [])) [] (finishes (true ∷ []) ∷ [])

later_part : LawRow
later_part = law 0 2 ((emit 0 ⨾ pause 0) ⨾ pause 1 ⨾ emit 1) (active_on (1 ∷ [])) [] (finishes (false ∷ true ∷ []) ∷ [])

over : LawRow
over = law 0 1 (emit 0) finished [] (finishes (false ∷ []) ∷ [])

pub law_table : List LawRow
unfolding suspend_present suspend_absent suspend_starts suspend_keeps suspend_contrary trap_left trap_keeps_none trap_resumed trap_passed trap_contrary
    parallel_both parallel_round parallel_larger parallel_idle parallel_contrary local_not_chosen local_chosen local_not_reached local_either loop_two_runs
    loop_resumed_contrary loop_restarted_contrary loop_not_restarted present_resumes later_part over
law_table =
    suspend_present ∷ suspend_absent ∷ suspend_starts ∷ suspend_keeps ∷ suspend_contrary
    ∷ trap_left ∷ trap_keeps_none ∷ trap_resumed ∷ trap_passed ∷ trap_contrary
    ∷ parallel_both ∷ parallel_round ∷ parallel_larger ∷ parallel_idle ∷ parallel_contrary
    ∷ local_not_chosen ∷ local_chosen ∷ local_not_reached ∷ local_either
    ∷ loop_two_runs ∷ loop_resumed_contrary ∷ loop_restarted_contrary ∷ loop_not_restarted
    ∷ present_resumes ∷ later_part ∷ over ∷ []

pub lawful : map coherent_of law_table ≡ map (λ r. r.coherent) law_table
unfolding law_table reactions listed members pauses phase_of active_of runs assigned execute all_outs outs_agree started resumed any active held code down step next world
lawful = refl
