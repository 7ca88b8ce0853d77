-- The statements executed in an execution of the coherence law, by their numbers: what is reached by must, with the assigned statuses in the event's place and
-- the code that the execution completes with in must's. Assumes nothing.
use Rattle.std.specs.Prelude.{Bool, true, false, cond, ℕ, ◌+◌, eqb}
use Rattle.sets.specs.Numbers.{Numbers, empty, union, only_if}
use Rattle.rules.specs.Statements.{Stmt, nothing, pause, emit, present?◌then◌else◌, suspend◌on◌, ◌⨾◌, loop, ◌parallel◌, trap, exit, local, statements}
use Rattle.rules.specs.Events.{known}
use Rattle.rules.specs.Instant.{Step, done, chain, active, started, resumed}
use Rattle.rules.specs.States.{State, fresh, running, finished, step}
use Rattle.rules.specs.Coherence.{Locals, assigning, execute}
use Rattle.rules.specs.Taken.{Wanted, wants, wants_emit, wants_test, itself_if}

-- Started: W has the signals given present, l the statuses of the locals.
unfoldable pub ran_started : Wanted → ℕ → (p : Stmt) → Locals (started p) → Numbers → Numbers
unfolding statements started execute
ran_started w i nothing l W = itself_if (wants w) i
ran_started w i (pause n) l W = itself_if (wants w) i
ran_started w i (emit s) l W = itself_if (wants_emit w s) i
ran_started w i (present? s then p else q) l W =
    union (itself_if (wants_test w (known (W s))) i)
    (cond (W s) (ran_started w (i + 1) p l.0 W) (ran_started w (i + 1 + statements p) q l.1 W))
ran_started w i (suspend p on s) l W = union (itself_if (wants w) i) (ran_started w (i + 1) p l W)
ran_started w i (p ⨾ q) l W =
    union (itself_if (wants w) i)
    (union (ran_started w (i + 1) p l.0 W)
    (only_if (eqb (execute (started p) l.0 W).completes 0) (ran_started w (i + 1 + statements p) q l.1 W)))
ran_started w i (loop p) l W = union (itself_if (wants w) i) (ran_started w (i + 1) p l W)
ran_started w i (p parallel q) l W =
    union (itself_if (wants w) i) (union (ran_started w (i + 1) p l.0 W) (ran_started w (i + 1 + statements p) q l.1 W))
ran_started w i (trap p) l W = union (itself_if (wants w) i) (ran_started w (i + 1) p l W)
ran_started w i (exit d) l W = itself_if (wants w) i
ran_started w i (local s p) l W = union (itself_if (wants w) i) (ran_started w (i + 1) p l.1 (assigning W s l.0))

-- The part that an active pause chooses, with its locals.
abbrev pub chosen_by : (b : Bool) (P Q : Step) → (Locals P → Numbers) → (Locals Q → Numbers) → Locals (cond b P Q) → Numbers
chosen_by true P Q f g l = f l
chosen_by false P Q f g l = g l

-- Resumed with A active.
unfoldable pub ran_resumed : Wanted → (A : Numbers) → ℕ → (p : Stmt) → Locals (resumed A p) → Numbers → Numbers
unfolding statements active started resumed execute ran_started
ran_resumed w A i nothing l W = itself_if (wants w) i
ran_resumed w A i (pause n) l W = itself_if (wants w) i
ran_resumed w A i (emit s) l W = itself_if (wants w) i
ran_resumed w A i (present? s then p else q) l W =
    union (itself_if (wants w) i)
    (chosen_by (active A p) (resumed A p) (resumed A q) (λ m. ran_resumed w A (i + 1) p m W) (λ m. ran_resumed w A (i + 1 + statements p) q m W) l)
ran_resumed w A i (suspend p on s) l W =
    union (itself_if (wants_test w (known (W s))) i) (cond (W s) empty (ran_resumed w A (i + 1) p l.1 W))
ran_resumed w A i (p ⨾ q) l W =
    union (itself_if (wants w) i)
    (chosen_by (active A p) (chain (resumed A p) (started q)) (resumed A q)
    (λ m.
    union (ran_resumed w A (i + 1) p m.0 W)
    (only_if (eqb (execute (resumed A p) m.0 W).completes 0) (ran_started w (i + 1 + statements p) q m.1 W)))
    (λ m. ran_resumed w A (i + 1 + statements p) q m W) l)
ran_resumed w A i (loop p) l W =
    union (itself_if (wants w) i)
    (union (ran_resumed w A (i + 1) p l.0 W)
    (only_if (eqb (execute (resumed A p) l.0 W).completes 0) (ran_started w (i + 1) p l.1 W)))
ran_resumed w A i (p parallel q) l W =
    union (itself_if (wants w) i)
    (union (chosen_by (active A p) (resumed A p) done (λ m. ran_resumed w A (i + 1) p m W) (λ m. empty) l.0)
    (chosen_by (active A q) (resumed A q) done (λ m. ran_resumed w A (i + 1 + statements p) q m W) (λ m. empty) l.1))
ran_resumed w A i (trap p) l W = union (itself_if (wants w) i) (ran_resumed w A (i + 1) p l W)
ran_resumed w A i (exit d) l W = itself_if (wants w) i
ran_resumed w A i (local s p) l W = union (itself_if (wants w) i) (ran_resumed w A (i + 1) p l.1 (assigning W s l.0))

-- Of a block's tree in a state. Finished, nothing is executed.
unfoldable pub ran : Wanted → (p : Stmt) (st : State) → Locals (step p st) → Numbers → Numbers
unfolding step ran_started ran_resumed
ran w p fresh l W = ran_started w 0 p l W
ran w p (running A) l W = ran_resumed w A 0 p l W
ran w p finished l W = empty
