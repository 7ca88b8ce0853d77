-- Worked reasons as one table: each row is a block, a state, the inputs and a question, with the statement that is named, or none where the thing asked about is
-- not so. That the definition gives every one is one statement, `reasons_worked`, proved by computing. Assumes nothing.
use mathlib.Core.Path.{◌≡◌, refl}
use mathlib.Core.List.{List, [], ◌∷◌, map}
use mathlib.Core.Option.{Option, none, some}
use Prim.Native.Nat.{ℕ}
use Rattle.sets.specs.Numbers.{members, listed, some_to, maxima, down, downs, lowest}
use Rattle.rules.specs.Statements.{depth, code, Stmt, nothing, pause, emit, present?◌then◌else◌, suspend◌on◌, ◌⨾◌, loop, ◌parallel◌, trap, exit, local, statements, preorder, pauses}
use Rattle.rules.specs.Events.{Hearing, event}
use Rattle.rules.specs.Instant.{any, active, held, started, resumed}
use Rattle.rules.specs.MustCan.{gives}
use Rattle.rules.specs.States.{State, fresh, finished, phase_of, active_of, step, kept, next}
use Rattle.rules.specs.Rounds.{undecided, outputs_with, marks, round, begin, all_same, settle, final_of, answer, react}
use Rattle.rules.specs.Taken.{taken_started, taken_resumed, taken}
use Rattle.rules.specs.Reasons.{Asked, refused, is_present, not_executed, on_path, cut_off, reason_from, reason_of}
use Rattle.rules.proofs.Cases.{Row, heard_in, active_on, C, F, H_second, no_output, suspend_holds, unheard_stuck, unheard_waits, over}

-- An instant and a question; statements have their numbers in preorder.
pub record Question : Type 0 where
  pub inputs : ℕ
  pub outputs : ℕ
  pub body : Stmt
  pub begins : State
  pub heard : Hearing
  pub asked : Asked
  pub named : Option ℕ

-- No inputs.
abbrev pub ask : ℕ → Stmt → State → Asked → Option ℕ → Question
ask o p st a k = record { inputs = 0; outputs = o; body = p; begins = st; heard = record { heard_present = listed []; heard_absent = listed [] }; asked = a; named = k }

-- Of an instant that the table of worked instants has.
abbrev pub of_row : Row → Asked → Option ℕ → Question
of_row r a k = record { inputs = r.inputs; outputs = r.outputs; body = r.body; begins = r.begins; heard = heard_in r; asked = a; named = k }

abbrev pub reason : Question → Option ℕ
reason r = reason_of (record { inputs = r.inputs; outputs = r.outputs; body = r.body }) r.begins r.heard r.asked

-- `present O then emit O else nothing`: the test is named; nothing is present and nothing is executed where the instant is refused.
abbrev C_refused : Question
C_refused = of_row C refused (some 0)

abbrev C_present : Question
C_present = of_row C (is_present 0) none

abbrev C_emit : Question
C_emit = of_row C (not_executed 1) none

-- the present is the first part of a sequence
abbrev F_refused : Question
F_refused = of_row F refused (some 1)

-- a local's signal is undecided as must settles it for its body
abbrev local_refused : Question
local_refused = of_row no_output refused (some 1)

-- `suspend (pause; emit O) on O`: a suspend tests when it is resumed, and not when it is started
abbrev suspend_self : Stmt
suspend_self = suspend (pause 0 ⨾ emit 0) on 0

abbrev suspend_starts : Question
suspend_starts = ask 1 suspend_self fresh refused none

abbrev suspend_resumes : Question
suspend_resumes = ask 1 suspend_self (active_on (0 ∷ [])) refused (some 0)

-- a suspend started is reached and is no test, though its signal is undecided; A is 1
abbrev suspend_no_test : Question
suspend_no_test = ask 2 ((suspend (emit 1) on 0) ⨾ (present? 0 then emit 0 else nothing)) fresh refused (some 3)

-- nor is a present resumed, though I is not heard; I is 0, O is 1
abbrev present_no_test : Question
present_no_test = record {
  inputs = 1;
  outputs = 1;
  body = present? 0 then (pause 0 ⨾ (present? 1 then emit 1 else nothing)) else nothing;
  begins = active_on (0 ∷ []);
  heard = record { heard_present = listed []; heard_absent = listed [] };
  asked = refused;
  named = some 3;
}

-- the present that a loop starts again
abbrev loop_restarts : Question
loop_restarts = ask 1 (loop ((present? 0 then emit 0 else nothing) ⨾ pause 0)) (active_on (0 ∷ [])) refused (some 2)

-- the second part is reached only if the first must give 0, and both arms are reached whatever the other gives
abbrev first_unsure : Question
first_unsure = ask 2 ((present? 1 then pause 0 else nothing) ⨾ (present? 0 then emit 0 else emit 1)) fresh refused (some 1)

abbrev arm_unsure : Question
arm_unsure = ask 1 (trap (exit (depth 0) parallel (present? 0 then emit 0 else nothing))) fresh refused (some 3)

-- `emit O; (emit O; pause)`: its lowest emit; and once resumed neither emit is executed, but the sequence and the pause are
abbrev twice : Stmt
twice = emit 0 ⨾ emit 0 ⨾ pause 0

abbrev twice_present : Question
twice_present = ask 1 twice fresh (is_present 0) (some 1)

abbrev twice_executed : Question
twice_executed = ask 1 twice fresh (not_executed 3) none

abbrev twice_first : Question
twice_first = ask 1 twice (active_on (0 ∷ [])) (not_executed 1) (some 1)

abbrev twice_second : Question
twice_second = ask 1 twice (active_on (0 ∷ [])) (not_executed 3) (some 3)

-- no emit, and no statement
abbrev twice_pause : Question
twice_pause = ask 1 twice (active_on (0 ∷ [])) (not_executed 4) none

abbrev twice_beyond : Question
twice_beyond = ask 1 twice (active_on (0 ∷ [])) (not_executed 5) none

-- finished, the root is named, and of a statement that is no emit still nothing
abbrev twice_finished : Question
twice_finished = ask 1 twice finished (not_executed 3) (some 0)

abbrev twice_finished_sequence : Question
twice_finished_sequence = ask 1 twice finished (not_executed 2) none

abbrev finished_refused : Question
finished_refused = of_row over refused none

abbrev finished_absent : Question
finished_absent = of_row over (is_present 0) none

-- a suspended body is not executed, the suspend is
abbrev held_back : Question
held_back = of_row suspend_holds (not_executed 3) (some 1)

-- nor is an arm without an active pause
abbrev idle_arm : Question
idle_arm = ask 1 (emit 0 parallel pause 0) (active_on (0 ∷ [])) (not_executed 1) (some 1)

-- nor what follows an exit in a sequence: the topmost is the sequence, and not the emit in it
abbrev behind_exit : Question
behind_exit = ask 1 (trap (exit (depth 0) ⨾ nothing ⨾ emit 0)) fresh (not_executed 5) (some 3)

-- nor the other branch of a present, started or resumed
abbrev other_branch : Question
other_branch = ask 2 (emit 0 ⨾ (present? 0 then emit 1 else (nothing ⨾ emit 1))) fresh (not_executed 6) (some 4)

-- a statement that is started or resumed is executed, though nothing of what is asked about below it is: it is not the one that is named
abbrev in_suspend_started : Question
in_suspend_started = ask 1 suspend_self fresh (not_executed 3) (some 3)

abbrev in_loop_started : Question
in_loop_started = ask 1 (loop (pause 0 ⨾ emit 0)) fresh (not_executed 3) (some 3)

abbrev in_local_started : Question
in_local_started = ask 1 (local 1 (pause 0 ⨾ emit 0)) fresh (not_executed 3) (some 3)

abbrev in_parallel_started : Question
in_parallel_started = ask 1 ((pause 0 ⨾ emit 0) parallel nothing) fresh (not_executed 3) (some 3)

abbrev in_trap_resumed : Question
in_trap_resumed = ask 1 (trap (emit 0 ⨾ pause 0)) (active_on (0 ∷ [])) (not_executed 2) (some 2)

abbrev in_present_resumed : Question
in_present_resumed = ask 2 (present? 1 then (emit 0 ⨾ pause 0) else nothing) (active_on (0 ∷ [])) (not_executed 2) (some 2)

abbrev in_local_resumed : Question
in_local_resumed = ask 1 (local 1 (emit 0 ⨾ pause 0)) (active_on (0 ∷ [])) (not_executed 2) (some 2)

-- H in its second instant: S is emitted in the run that ends, and N in the run that starts; O in neither
abbrev H_output : Question
H_output = of_row H_second (not_executed 4) (some 4)

abbrev H_local : Question
H_local = of_row H_second (not_executed 8) none

abbrev H_present : Question
H_present = of_row H_second (is_present 1) (some 5)

abbrev H_absent : Question
H_absent = of_row H_second (is_present 0) none

abbrev H_of_a_local : Question
H_of_a_local = of_row H_second (is_present 2) none

abbrev H_answered : Question
H_answered = of_row H_second refused none

-- an input not heard is undecided where it is tested: I is 0, O is 1; before that it is asked of nobody
abbrev unheard_refused : Question
unheard_refused = of_row unheard_stuck refused (some 2)

abbrev unheard_answered : Question
unheard_answered = of_row unheard_waits refused none

abbrev unheard_emit : Question
unheard_emit = of_row unheard_waits (not_executed 3) (some 2)

-- an input is no output, be it present
abbrev present_input : Question
present_input = of_row suspend_holds (is_present 0) none

abbrev pub table : List Question
table =
    C_refused ∷ C_present ∷ C_emit ∷ F_refused ∷ local_refused ∷ suspend_starts ∷ suspend_resumes ∷ suspend_no_test ∷ present_no_test ∷ loop_restarts ∷ first_unsure ∷ arm_unsure
    ∷ twice_present ∷ twice_executed ∷ twice_first ∷ twice_second ∷ twice_pause ∷ twice_beyond ∷ twice_finished ∷ twice_finished_sequence
    ∷ finished_refused ∷ finished_absent ∷ held_back ∷ idle_arm ∷ behind_exit ∷ other_branch
    ∷ in_suspend_started ∷ in_loop_started ∷ in_local_started ∷ in_parallel_started ∷ in_trap_resumed ∷ in_present_resumed ∷ in_local_resumed
    ∷ H_output ∷ H_local ∷ H_present ∷ H_absent ∷ H_of_a_local ∷ H_answered ∷ unheard_refused ∷ unheard_answered ∷ unheard_emit ∷ present_input ∷ []

pub reasons_worked : map reason table ≡ map (λ r. r.named) table
unfolding reason_of reason_from on_path cut_off taken taken_started taken_resumed statements preorder outputs_with
    react listed members pauses phase_of active_of undecided gives kept started resumed any active held
    code marks round begin all_same settle final_of answer some_to maxima down downs lowest step next event
reasons_worked = refl
