-- Blocks to which all of demand 3 applies: one with a loop, an exit and a parallel, and one that is refused and then goes on. By
-- computation. Assumes nothing.
use mathlib.Core.Path.{◌≡◌, refl}
use mathlib.Core.List.{List, [], ◌∷◌, map}
use Prim.Native.Nat.{ℕ}
use native.Mathlib.Omega.{arith}
use Rattle.sets.specs.Numbers.{empty, single, members, some_to, maxima, down, downs, lowest, listed}
use Rattle.sets.proofs.Members.{single_out}
use Rattle.rules.specs.Statements.{Block, depth, code, nothing, pause, emit, present?◌then◌else◌, ◌⨾◌, loop, ◌parallel◌, trap, exit, pauses, from, Numbered, Trapped}
use Rattle.rules.specs.Events.{Status, present, absent, unknown, event}
use Rattle.rules.specs.Instant.{any, active, held, started, resumed}
use Rattle.rules.specs.MustCan.{gives}
use Rattle.rules.specs.Loops.{codes_of, loops_pass}
use Rattle.rules.specs.States.{State, fresh, running, finished, step, Legal, kept, next}
use Rattle.rules.specs.Rounds.{Answer, answered, not_constructive, marks, round, begin, all_same, settle, final_of, answer, react}
use Rattle.theorems.specs.Checked.{Checked, StandsIn, itself, in_trap, in_left}
use Rattle.theorems.specs.Traces.{InputSet, run}
use Rattle.theorems.specs.Demand.{NeverStuck}
use Rattle.theorems.proofs.Traces.{never_stuck}
use Rattle.theorems.proofs.Late.{all_inputs}

-- What is seen of an answer: refusal, statuses, code, pauses kept.
pub record Seen : Type 0 where
  pub refusal : ℕ
  pub statuses : List Status
  pub code : ℕ
  pub active : List ℕ

abbrev active_of : State → List ℕ
active_of fresh = []
active_of (running A) = members 2 A
active_of finished = []

abbrev see : Answer → Seen
see (answered vs c st n) = record { refusal = 0; statuses = vs; code = c; active = active_of st }
see (not_constructive vs n) = record { refusal = 13; statuses = vs; code = 0; active = [] }

-- trap (loop (pause; present I then (emit O; exit 0) else nothing) parallel pause), where I is input 0 and O output 1.
abbrev waiting : Block
waiting = record {
  inputs = 1;
  outputs = 1;
  body = trap (loop (pause 0 ⨾ (present? 0 then (emit 1 ⨾ exit (depth 0)) else nothing)) parallel pause 1);
}

waiting_checked : Checked waiting
unfolding loops_pass codes_of code maxima some_to downs Trapped Numbered pauses from
waiting_checked = record {
  loops_are_good = tt;
  exits_are_trapped = ((tt, ((tt, omega arith), tt)), tt);
  pauses_are_numbered = refl;
}

-- No input twice, then I: both pauses wait, then the loop's alone, then the exit is taken and ends the block.
waiting_inputs : List (InputSet waiting)
waiting_inputs = all_inputs waiting empty (λ n t. absurd t) ∷ all_inputs waiting empty (λ n t. absurd t)
    ∷ all_inputs waiting (single 0) (λ n t. let e = single_out 0 n t in omega arith) ∷ []

waiting_run : map see (run waiting fresh waiting_inputs)
    ≡ record { refusal = 0; statuses = absent ∷ []; code = 1; active = 0 ∷ 1 ∷ [] }
    ∷ record { refusal = 0; statuses = absent ∷ []; code = 1; active = 0 ∷ [] }
    ∷ record { refusal = 0; statuses = present ∷ []; code = 0; active = [] } ∷ []
unfolding waiting_inputs run react listed members pauses gives kept started resumed any active held code marks round begin all_same settle final_of answer
    some_to maxima down downs lowest step next event
waiting_run = refl

waiting_never_stuck : NeverStuck waiting fresh waiting_inputs
unfolding Legal
waiting_never_stuck = never_stuck waiting waiting_checked fresh tt waiting_inputs

waiting_loop : StandsIn (loop (pause 0 ⨾ (present? 0 then (emit 1 ⨾ exit (depth 0)) else nothing))) waiting.body
waiting_loop = in_trap (in_left itself)

-- present I then (present O then emit O else nothing) else pause.
abbrev doubtful : Block
doubtful = record { inputs = 1; outputs = 1; body = present? 0 then (present? 1 then emit 1 else nothing) else pause 0 }

doubtful_checked : Checked doubtful
unfolding loops_pass codes_of Trapped Numbered pauses from
doubtful_checked = record { loops_are_good = tt; exits_are_trapped = ((tt, tt), tt); pauses_are_numbered = refl }

-- With I it is refused, and goes on as if that instant had not been.
doubtful_inputs : List (InputSet doubtful)
doubtful_inputs = all_inputs doubtful (single 0) (λ n t. let e = single_out 0 n t in omega arith) ∷ all_inputs doubtful empty (λ n t. absurd t) ∷ []

doubtful_run : map see (run doubtful fresh doubtful_inputs)
    ≡ record { refusal = 13; statuses = unknown ∷ []; code = 0; active = [] }
    ∷ record { refusal = 0; statuses = absent ∷ []; code = 1; active = 0 ∷ [] } ∷ []
unfolding doubtful_inputs run react listed members pauses gives kept started resumed any active held code marks round begin all_same settle final_of answer
    some_to maxima down downs lowest step next event
doubtful_run = refl

doubtful_never_stuck : NeverStuck doubtful fresh doubtful_inputs
unfolding Legal
doubtful_never_stuck = never_stuck doubtful doubtful_checked fresh tt doubtful_inputs
