-- The statements that must be reached at an event, by their numbers: the first is number 0, a statement directly followed by its children. What is
-- asked for is said beside: every one, the emits of a signal, or the tests whose signal is undecided there. Assumes nothing.
use Rattle.std.specs.Prelude.{Bool, true, false, cond, ℕ, ◌+◌, eqb}
use Rattle.sets.specs.Numbers.{Numbers, empty, single, union, only_if}
use Rattle.rules.specs.Statements.{Stmt, nothing, pause, emit, present?◌then◌else◌, suspend◌on◌, ◌⨾◌, loop, ◌parallel◌, trap, exit, local, statements}
use Rattle.rules.specs.Events.{Status, present, absent, unknown, Event, giving}
use Rattle.rules.specs.Instant.{active, started, resumed}
use Rattle.rules.specs.MustCan.{must, gives}
use Rattle.rules.specs.States.{State, fresh, running, finished, executed_as, kept_by}

-- Which of the statements reached are asked for.
pub data Wanted : Type 0 where
  every : Wanted
  emit_of : ℕ → Wanted
  undecided_test : Wanted

-- A statement that neither emits nor tests here.
abbrev pub wants : Wanted → Bool
wants every = true
wants (emit_of s) = false
wants undecided_test = false

-- An emit of this signal, started.
abbrev pub wants_emit : Wanted → ℕ → Bool
wants_emit every s = true
wants_emit (emit_of t) s = eqb s t
wants_emit undecided_test s = false

abbrev pub is_undecided : Status → Bool
is_undecided present = false
is_undecided absent = false
is_undecided unknown = true

-- A present started, or a suspend resumed, whose signal has this status. The only two that test.
abbrev pub wants_test : Wanted → Status → Bool
wants_test every v = true
wants_test (emit_of s) v = false
wants_test undecided_test v = is_undecided v

abbrev pub itself_if : Bool → ℕ → Numbers
itself_if b i = only_if b (single i)

-- Started, the statement having the number i. Of a present the branch of a known status, and none while it is unknown; of a sequence the first part, and
-- the second if the first must give 0; both arms of a parallel; a local's body with the status that must settles for its signal.
unfoldable pub taken_started : Wanted → ℕ → Stmt → Event → Numbers
unfolding statements started gives
taken_started w i nothing E = itself_if (wants w) i
taken_started w i (pause n) E = itself_if (wants w) i
taken_started w i (emit s) E = itself_if (wants_emit w s) i
taken_started w i (present? s then p else q) E =
    union (itself_if (wants_test w (E s)) i)
    (kept_by (E s) (taken_started w (i + 1) p E) (taken_started w (i + 1 + statements p) q E))
taken_started w i (suspend p on s) E = union (itself_if (wants w) i) (taken_started w (i + 1) p E)
taken_started w i (p ⨾ q) E =
    union (itself_if (wants w) i)
    (union (taken_started w (i + 1) p E) (only_if ((gives must (started p) E).codes 0) (taken_started w (i + 1 + statements p) q E)))
taken_started w i (loop p) E = union (itself_if (wants w) i) (taken_started w (i + 1) p E)
taken_started w i (p parallel q) E =
    union (itself_if (wants w) i) (union (taken_started w (i + 1) p E) (taken_started w (i + 1 + statements p) q E))
taken_started w i (trap p) E = union (itself_if (wants w) i) (taken_started w (i + 1) p E)
taken_started w i (exit d) E = itself_if (wants w) i
taken_started w i (local s p) E =
    union (itself_if (wants w) i) (taken_started w (i + 1) p (giving E s (executed_as s (started p) E)))

-- Resumed with A active. Of a present the active branch; of a sequence the first part if active, and then the second, started, if the first must give 0,
-- else the second; of a parallel the active arms; of a suspend the body if the signal is absent; of a loop the body, and the body started again if it must give 0.
unfoldable pub taken_resumed : Wanted → Numbers → ℕ → Stmt → Event → Numbers
unfolding statements active started resumed gives taken_started
taken_resumed w A i nothing E = itself_if (wants w) i
taken_resumed w A i (pause n) E = itself_if (wants w) i
taken_resumed w A i (emit s) E = itself_if (wants w) i
taken_resumed w A i (present? s then p else q) E =
    union (itself_if (wants w) i)
    (cond (active A p) (taken_resumed w A (i + 1) p E) (taken_resumed w A (i + 1 + statements p) q E))
taken_resumed w A i (suspend p on s) E =
    union (itself_if (wants_test w (E s)) i) (kept_by (E s) empty (taken_resumed w A (i + 1) p E))
taken_resumed w A i (p ⨾ q) E =
    union (itself_if (wants w) i)
    (cond (active A p)
    (union (taken_resumed w A (i + 1) p E) (only_if ((gives must (resumed A p) E).codes 0) (taken_started w (i + 1 + statements p) q E)))
    (taken_resumed w A (i + 1 + statements p) q E))
taken_resumed w A i (loop p) E =
    union (itself_if (wants w) i)
    (union (taken_resumed w A (i + 1) p E) (only_if ((gives must (resumed A p) E).codes 0) (taken_started w (i + 1) p E)))
taken_resumed w A i (p parallel q) E =
    union (itself_if (wants w) i)
    (union (only_if (active A p) (taken_resumed w A (i + 1) p E)) (only_if (active A q) (taken_resumed w A (i + 1 + statements p) q E)))
taken_resumed w A i (trap p) E = union (itself_if (wants w) i) (taken_resumed w A (i + 1) p E)
taken_resumed w A i (exit d) E = itself_if (wants w) i
taken_resumed w A i (local s p) E =
    union (itself_if (wants w) i) (taken_resumed w A (i + 1) p (giving E s (executed_as s (resumed A p) E)))

-- Of a block's tree in a state. Finished, nothing is reached.
unfoldable pub taken : Wanted → Stmt → State → Event → Numbers
unfolding taken_started taken_resumed
taken w p fresh E = taken_started w 0 p E
taken w p (running A) E = taken_resumed w A 0 p E
taken w p finished E = empty
