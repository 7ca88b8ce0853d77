-- The worked instants of document 01 (N as a later request has it), and our own, as one table: each row is a block, a state, the present inputs and the whole answer.
-- That the rules give every answer is one statement, `worked`, proved by computing. Assumes nothing.
use mathlib.Core.Path.{◌≡◌, refl}
use mathlib.Core.Bool.{not, ◌||◌}
use mathlib.Core.List.{List, [], ◌∷◌, map}
use Prim.Native.Nat.{ℕ}
use lib.ListN.{length}
use Rattle.sets.specs.Numbers.{members, listed, some_to, maxima, down, downs, lowest}
use Rattle.rules.specs.Statements.{depth, code, Stmt, nothing, pause, emit, present?◌then◌else◌, suspend◌on◌, ◌⨾◌, loop, ◌parallel◌, trap, exit, local, pauses}
use Rattle.rules.specs.Events.{Status, present, absent, unknown, Hearing, event}
use Rattle.rules.specs.Instant.{any, active, held, started, resumed}
use Rattle.rules.specs.MustCan.{gives}
use Rattle.rules.specs.States.{State, fresh, running, finished, phase_of, active_of, step, kept, next}
use Rattle.rules.specs.Rounds.{Answer, answered, not_constructive, undecided, marks, round, begin, all_same, settle, final_of, answer, react}

-- A whole answer with its sets as lists: refusal (0 or 13), the outputs' statuses in order, how many are undecided, the code,
-- the rounds, the phase of the next state (0, 1, 2; 0 where there is none) and the pauses kept.
pub record WholeAnswer : Type 0 where
  pub refusal : ℕ
  pub statuses : List Status
  pub undecided : ℕ
  pub code : ℕ
  pub rounds : ℕ
  pub phase : ℕ
  pub keeps : List ℕ

abbrev pub pauses_of : Stmt → State → List ℕ
pauses_of p st = members (length (pauses p)) (active_of st)

abbrev pub tell : Stmt → Answer → WholeAnswer
tell p (answered vs c st n) =
    record { refusal = 0; statuses = vs; undecided = undecided vs; code = c; rounds = n; phase = phase_of st; keeps = pauses_of p st }
tell p (not_constructive vs n) =
    record { refusal = 13; statuses = vs; undecided = undecided vs; code = 0; rounds = n; phase = 0; keeps = [] }

-- A case declares only the signals it names: so many inputs, so many outputs.
pub record Row : Type 0 where
  pub inputs : ℕ
  pub outputs : ℕ
  pub body : Stmt
  pub begins : State
  pub given : List ℕ
  pub unheard : List ℕ
  pub told : WholeAnswer

abbrev pub row : ℕ → ℕ → Stmt → State → List ℕ → WholeAnswer → Row
row i o p st given t = record { inputs = i; outputs = o; body = p; begins = st; given = given; unheard = []; told = t }

-- With inputs not heard yet: the others are present where they are given and else absent.
abbrev pub late_row : ℕ → ℕ → Stmt → State → List ℕ → List ℕ → WholeAnswer → Row
late_row i o p st given late t = record { inputs = i; outputs = o; body = p; begins = st; given = given; unheard = late; told = t }

abbrev pub active_on : List ℕ → State
active_on ns = running (listed ns)

abbrev pub heard_in : Row → Hearing
heard_in r = record { heard_present = listed r.given; heard_absent = λ n. not (listed r.given n || listed r.unheard n) }

-- The answer that the rules give to a row's instant, and the state that it leaves.
abbrev pub reaction : Row → Answer
reaction r = react (record { inputs = r.inputs; outputs = r.outputs; body = r.body }) r.begins (heard_in r)

abbrev pub answers : Row → WholeAnswer
answers r = tell r.body (reaction r)

abbrev pub left_by : Answer → State
left_by (answered vs c st n) = st
left_by (not_constructive vs n) = fresh

abbrev pub after : Row → State
after r = left_by (reaction r)

-- Answered with code 0, which finishes the block.
abbrev pub ends : List Status → ℕ → WholeAnswer
ends vs n = record { refusal = 0; statuses = vs; undecided = 0; code = 0; rounds = n; phase = 2; keeps = [] }

-- Answered with code 1, which leaves it running on these pauses.
abbrev pub waits : List Status → ℕ → List ℕ → WholeAnswer
waits vs n ks = record { refusal = 0; statuses = vs; undecided = 0; code = 1; rounds = n; phase = 1; keeps = ks }

-- NOT CONSTRUCTIVE.
abbrev pub stuck : List Status → ℕ → ℕ → WholeAnswer
stuck vs u n = record { refusal = 13; statuses = vs; undecided = u; code = 0; rounds = n; phase = 0; keeps = [] }

-- The cases that document 01 marks, with their letters.

-- nothing, no signals
abbrev pub B : Row
B = row 0 0 nothing fresh [] (ends [] 1)

-- O is 0
abbrev pub C : Row
C = row 0 1 (present? 0 then emit 0 else nothing) fresh [] (stuck (unknown ∷ []) 1 1)

abbrev pub E : Row
E = row 0 1 (present? 0 then emit 0 else emit 0) fresh [] (stuck (unknown ∷ []) 1 1)

abbrev pub F : Row
F = row 0 1 ((present? 0 then nothing else nothing) ⨾ emit 0) fresh [] (stuck (unknown ∷ []) 1 1)

-- O is 0, S is 1
abbrev pub G : Row
G = row 0 1
    (trap (local 1 (emit 1 ⨾ (present? 0 then ((present? 1 then (exit (depth 0)) else nothing) ⨾ emit 0) else nothing))))
    fresh [] (ends (absent ∷ []) 2)

-- O is 0, N is 1, S is 2
abbrev pub H_body : Stmt
H_body = loop (local 2 ((present? 2 then emit 0 else emit 1) ⨾ pause 0 ⨾ emit 2))

abbrev pub H_first : Row
H_first = row 0 2 H_body fresh [] (waits (absent ∷ present ∷ []) 2 (0 ∷ []))

-- from the state that the first instant leaves
abbrev pub H_second : Row
H_second = row 0 2 H_body (after H_first) [] (waits (absent ∷ present ∷ []) 2 (0 ∷ []))

-- O is 0
abbrev pub J : Row
J = row 0 1 (trap (exit (depth 0) parallel pause 0) ⨾ emit 0) fresh [] (ends (present ∷ []) 2)

-- I is 0, A is 1, B is 2
abbrev pub M : Row
M = row 1 2
    (present? 0 then (present? 2 then emit 1 else nothing) else (present? 1 then emit 2 else nothing))
    fresh (0 ∷ []) (ends (absent ∷ absent ∷ []) 3)

-- O is 0, S is 1, T is 2
abbrev pub N : Row
N = row 0 1
    (present? 0 then (local 1 (local 2 (emit 2 ⨾ (present? 2 then nothing else emit 1)) ⨾ (present? 1 then emit 0 else nothing))) else nothing)
    fresh [] (stuck (unknown ∷ []) 1 1)

-- Cases of our own. Each tells the rules from a wrong one that all cases above would let pass (but for present-opens, whose two N tells too).

-- emits S and then, only if S is absent, O: under plus S is present and O cannot be emitted, under open it can
abbrev pub says_both : ℕ → ℕ → Stmt
says_both S O = local S (emit S ⨾ (present? S then nothing else emit O))

-- a sequence's second part is not always under plus; O is 0, S is 1
abbrev pub second_part_open : Row
second_part_open = row 0 1 ((present? 0 then nothing else nothing) ⨾ says_both 1 0) fresh [] (stuck (unknown ∷ []) 1 1)

-- an unknown present does not keep its mark, and under open a local is not set present; O is 0, S is 1
abbrev pub present_opens : Row
present_opens = row 0 1 (present? 0 then (says_both 1 0) else nothing) fresh [] (stuck (unknown ∷ []) 1 1)

-- an unknown suspend does not keep its mark; O is 0, S is 1
abbrev pub suspend_opens : Row
suspend_opens = row 0 1 (suspend (pause 0 ⨾ says_both 1 0) on 0) (active_on (0 ∷ [])) [] (stuck (unknown ∷ []) 1 1)

-- a loop's restart does not keep the old mark; O is 0, S is 1
abbrev pub restart_opens : Row
restart_opens =
    row 0 1 (loop (says_both 1 0 ⨾ pause 0 ⨾ (present? 0 then nothing else nothing))) (active_on (0 ∷ [])) [] (stuck (unknown ∷ []) 1 1)

-- must asks for a local in can under plus, not under open; O is 0, S is 1, T is 2
abbrev pub must_asks_plus : Row
must_asks_plus = row 0 1 (local 1 (says_both 2 1 ⨾ (present? 1 then nothing else emit 0))) fresh [] (ends (present ∷ []) 2)

-- an unknown suspend has the code 1 besides: the inner trap may then end, and A is settled a round later; O is 0, A is 1
abbrev pub suspend_may_stay : Row
suspend_may_stay = row 0 2
    (trap (trap ((suspend (pause 0 ⨾ exit (depth 1)) on 0) parallel (pause 1 ⨾ exit (depth 0))) ⨾ emit 1))
    (active_on (0 ∷ 1 ∷ [])) [] (ends (absent ∷ absent ∷ []) 3)

-- suspend does not test when its body starts; I is 0, O is 1
abbrev pub suspend_starts : Row
suspend_starts = row 1 1 (suspend (emit 1) on 0) fresh (0 ∷ []) (ends (present ∷ []) 2)

-- nor does present test again on resuming
abbrev pub present_resumes : Row
present_resumes = row 1 1 (present? 0 then (pause 0 ⨾ emit 1) else nothing) (active_on (0 ∷ [])) [] (ends (present ∷ []) 2)

-- a suspended body keeps its old set
abbrev pub suspend_holds : Row
suspend_holds = row 1 1 (suspend (pause 0 ⨾ emit 1) on 0) (active_on (0 ∷ [])) (0 ∷ []) (waits (absent ∷ []) 2 (0 ∷ []))

-- and only its own, not the whole active set; I is 0
abbrev pub suspend_holds_its_own : Row
suspend_holds_its_own = row 1 0 ((suspend (pause 0) on 0) parallel pause 1) (active_on (0 ∷ 1 ∷ [])) (0 ∷ []) (waits [] 1 (0 ∷ []))

-- a parallel left by an exit, and the trap around it, keep no pause: started, beside a pause that is kept, and resumed, before one
abbrev pub exit_keeps_none : Row
exit_keeps_none = row 0 0 (trap (exit (depth 0) parallel pause 0) parallel pause 1) fresh [] (waits [] 1 (1 ∷ []))

abbrev pub resumed_exit_keeps_none : Row
resumed_exit_keeps_none = row 0 0
    (trap ((pause 0 ⨾ exit (depth 0)) parallel (pause 1 ⨾ pause 2)) ⨾ pause 3)
    (active_on (0 ∷ 1 ∷ [])) [] (waits [] 1 (3 ∷ []))

-- two pauses in parallel arms complete with 0, and an arm that is over gives 0
abbrev pub both_arms : Row
both_arms = row 0 0 (pause 0 parallel pause 1) (active_on (0 ∷ 1 ∷ [])) [] (ends [] 1)

abbrev pub one_arm : Row
one_arm = row 0 1 ((pause 0 ⨾ pause 1) parallel (pause 2 ⨾ emit 0)) (active_on (0 ∷ [])) [] (waits (absent ∷ []) 2 (1 ∷ []))

-- an exit passes over one trap
abbrev pub outer_trap : Row
outer_trap = row 0 2 (trap (trap (exit (depth 1)) ⨾ emit 0) ⨾ emit 1) fresh [] (ends (absent ∷ present ∷ []) 2)

-- no output, and still no code
abbrev pub no_output : Row
no_output = row 0 0 (local 0 (present? 0 then emit 0 else nothing)) fresh [] (stuck [] 0 1)

-- an input that is not given is absent; I is 0, O is 1
abbrev pub input_absent : Row
input_absent = row 1 1 (present? 0 then nothing else emit 1) fresh [] (ends (present ∷ []) 2)

-- the active pause is not the first of its part; O is 0
abbrev pub later_pause : Row
later_pause = row 0 1 ((pause 0 ⨾ pause 1) ⨾ emit 0) (active_on (1 ∷ [])) [] (ends (present ∷ []) 2)

-- an active pause in an else branch; I is 0, O is 1
abbrev pub else_resumes : Row
else_resumes = row 1 1 ((present? 0 then nothing else pause 0) ⨾ emit 1) (active_on (0 ∷ [])) [] (ends (present ∷ []) 2)

-- a local is executed with the status that must settles; S is 0
abbrev pub local_present_keeps : Row
local_present_keeps = row 0 0 (local 0 (emit 0 ⨾ (present? 0 then pause 0 else pause 1))) fresh [] (waits [] 1 (0 ∷ []))

abbrev pub local_absent_keeps : Row
local_absent_keeps = row 0 0 (local 0 (present? 0 then pause 0 else pause 1)) fresh [] (waits [] 1 (1 ∷ []))

-- one output is settled in each round; there are three of them
abbrev pub outputs_plus_1 : Row
outputs_plus_1 =
    row 0 3 ((present? 0 then emit 1 else nothing) ⨾ (present? 1 then emit 2 else nothing)) fresh []
    (ends (absent ∷ absent ∷ absent ∷ []) 4)

-- finished runs as nothing
abbrev pub over : Row
over = row 0 1 (emit 0) finished [] (ends (absent ∷ []) 2)

-- Inputs not heard yet; I is 0.

-- the code is known even so: O is absent until the pause is over, O is 1
abbrev pub late_pause : Stmt
late_pause = pause 0 ⨾ (present? 0 then emit 1 else nothing)

abbrev pub unheard_waits : Row
unheard_waits = late_row 1 1 late_pause fresh [] (0 ∷ []) (waits (absent ∷ []) 2 (0 ∷ []))

-- and then it is not, before I is heard
abbrev pub unheard_stuck : Row
unheard_stuck = late_row 1 1 late_pause (active_on (0 ∷ [])) [] (0 ∷ []) (stuck (unknown ∷ []) 1 1)

abbrev pub heard_then : Row
heard_then = row 1 1 late_pause (active_on (0 ∷ [])) (0 ∷ []) (ends (present ∷ []) 2)

-- both choices would emit O, and still there is no code
abbrev pub unheard_both : Row
unheard_both = late_row 1 1 (present? 0 then emit 1 else emit 1) fresh [] (0 ∷ []) (stuck (unknown ∷ []) 1 1)

-- M with nothing heard
abbrev pub unheard_M : Row
unheard_M = late_row 1 2 M.body fresh [] (0 ∷ []) (stuck (unknown ∷ unknown ∷ []) 2 1)

-- rounds may differ: A settles first, and then I is not asked; O is 1, A is 2
abbrev pub unheard_rounds : Row
unheard_rounds =
    late_row 1 2 (present? 2 then (present? 0 then emit 1 else nothing) else nothing) fresh [] (0 ∷ []) (ends (absent ∷ absent ∷ []) 3)

abbrev pub heard_rounds : Row
heard_rounds = row 1 2 (present? 2 then (present? 0 then emit 1 else nothing) else nothing) fresh [] (ends (absent ∷ absent ∷ []) 2)

abbrev pub table : List Row
table =
    B ∷ C ∷ E ∷ F ∷ G ∷ H_first ∷ H_second ∷ J ∷ M ∷ N
    ∷ second_part_open ∷ present_opens ∷ suspend_opens ∷ restart_opens ∷ must_asks_plus ∷ suspend_may_stay
    ∷ suspend_starts ∷ present_resumes ∷ suspend_holds ∷ suspend_holds_its_own ∷ exit_keeps_none ∷ resumed_exit_keeps_none
    ∷ both_arms ∷ one_arm ∷ outer_trap ∷ no_output
    ∷ input_absent ∷ later_pause ∷ else_resumes ∷ local_present_keeps ∷ local_absent_keeps ∷ outputs_plus_1 ∷ over
    ∷ unheard_waits ∷ unheard_stuck ∷ heard_then ∷ unheard_both ∷ unheard_M ∷ unheard_rounds ∷ heard_rounds ∷ []

pub worked : map answers table ≡ map (λ r. r.told) table
unfolding react listed members pauses phase_of active_of undecided gives kept started resumed any active held code marks round begin all_same settle final_of
    answer some_to maxima down downs lowest step next event
worked = refl
