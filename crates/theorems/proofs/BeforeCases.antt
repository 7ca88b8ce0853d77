-- The worked instants by the rules as they were, computed: all rows of the case table but N have the answers that they have now, so that the copy of the
-- old rules is seen to be faithful; and the smallest blocks known where something else than N's refusal changed. Assumes nothing.
use mathlib.Core.Path.{◌≡◌, refl}
use mathlib.Core.List.{List, [], ◌∷◌, map}
use Prim.Native.Nat.{ℕ}
use lib.ListN.{get_or, set}
use Rattle.sets.specs.Numbers.{members, listed, some_to, maxima, down, downs, lowest}
use Rattle.rules.specs.Statements.{code, Stmt, nothing, emit, present?◌then◌else◌, ◌⨾◌, local, pauses}
use Rattle.rules.specs.Events.{absent, unknown, event}
use Rattle.rules.specs.Instant.{any, active, held, started, resumed}
use Rattle.rules.specs.MustCan.{gives}
use Rattle.rules.specs.States.{fresh, phase_of, active_of, step, kept, next}
use Rattle.rules.specs.Rounds.{undecided, marks, round, begin, all_same, settle, final_of, answer, react}
use Rattle.rules.proofs.Cases.{WholeAnswer, tell, Row, row, heard_in, answers, ends, stuck, N, table}
use Rattle.theorems.specs.Before.{gives_by, kept_before, round_before, settle_before, react_before}

-- The answer that the rules gave to a row's instant.
abbrev pub answered_before : Row → WholeAnswer
answered_before r = tell r.body (react_before (record { inputs = r.inputs; outputs = r.outputs; body = r.body }) r.begins (heard_in r))

-- N stands in place 9, and its answer before was: O absent, code 0, rounds 2.
N_stands : get_or table 9 N ≡ N
N_stands = refl

pub worked_before : map answered_before table ≡ set (map (λ r. r.told) table) 9 (ends (absent ∷ []) 2)
unfolding react_before react listed members pauses phase_of active_of undecided gives_by gives kept_before kept started resumed any active held code marks
    round_before round begin all_same settle_before settle final_of answer some_to maxima down downs lowest step next event
worked_before = refl

-- The local T is surely emitted before it is tested, so that nothing in the test's other branch can happen. Under an undecided branch that shows only
-- once the branch is decided; S is 2, T is 3.
scoped : ℕ → Stmt
scoped O = local 2 (local 3 (emit 3 ⨾ (present? 3 then nothing else (present? 2 then (emit O) else emit 2))))

-- Where an instant stays answered its rounds may grow; the outputs are 0 and 1.
grows : Row
unfolding scoped
grows = row 0 2 (present? 0 then nothing else scoped 1) fresh [] (ends (absent ∷ absent ∷ []) 3)

-- What a 13 reports may change.
reports : Row
unfolding scoped
reports = row 0 2 (present? 1 then (emit 1) else scoped 0) fresh [] (stuck (unknown ∷ unknown ∷ []) 2 1)

changed : List Row
unfolding grows reports
changed = grows ∷ reports ∷ []

now_they_give : map answers changed ≡ map (λ r. r.told) changed
unfolding changed react listed members pauses phase_of active_of undecided gives kept started resumed any active held code marks round begin all_same settle
    final_of answer some_to maxima down downs lowest step next event
now_they_give = refl

before_they_gave : map answered_before changed ≡ ends (absent ∷ absent ∷ []) 2 ∷ stuck (absent ∷ unknown ∷ []) 1 2 ∷ []
unfolding changed react_before listed members pauses phase_of active_of undecided gives_by kept_before started resumed any active held code marks round_before
    begin all_same settle_before answer some_to maxima down downs lowest step next event
before_they_gave = refl
