-- The state between instants: legal states, and what is kept for the next one ("The state record", "Next state"). Assumes nothing.
use Rattle.std.specs.Prelude.{Bool, true, false, cond, ◌&&◌, ◌≢◌, ℕ, ◌<◌, T, eqb, length}
use Rattle.sets.specs.Numbers.{Numbers, empty, union, only_if, listed}
use Rattle.rules.specs.Statements.{Stmt, nothing, pause, emit, present?◌then◌else◌, suspend◌on◌, ◌⨾◌, loop, ◌parallel◌, trap, exit, local, pauses}
use Rattle.rules.specs.Events.{Status, present, absent, unknown, Event, giving}
use Rattle.rules.specs.Instant.{Step, done, stay, say, leave, test, catch, scope, chain, beside, started, resumed}
use Rattle.rules.specs.MustCan.{must, absence_asked, local_status, gives}

-- The phases; only a running state has active pauses.
pub data State : Type 0 where
  fresh : State
  running : Numbers → State
  finished : State

-- Phase 0 fresh, 1 running, 2 finished.
unfoldable pub phase_of : State → ℕ
phase_of fresh = 0
phase_of (running A) = 1
phase_of finished = 2

unfoldable pub active_of : State → Numbers
active_of fresh = empty
active_of (running A) = A
active_of finished = empty

-- What there is to do in an instant from a state. Finished runs as nothing.
unfoldable pub step : Stmt → State → Step
step p fresh = started p
step p (running A) = resumed A p
step p finished = started nothing

-- The statement holds both pauses.
unfoldable pub holds_both : Stmt → ℕ → ℕ → Bool
holds_both p m n = listed (pauses p) m && listed (pauses p) n

-- The lowest statement above two pauses: a part that holds both leads further down.
unfoldable pub lowest_above : Stmt → ℕ → ℕ → Stmt
lowest_above nothing m n = nothing
lowest_above (pause k) m n = pause k
lowest_above (emit s) m n = emit s
lowest_above (present? s then p else q) m n =
    cond (holds_both p m n) (lowest_above p m n) (cond (holds_both q m n) (lowest_above q m n) (present? s then p else q))
lowest_above (suspend p on s) m n = lowest_above p m n
lowest_above (p ⨾ q) m n = cond (holds_both p m n) (lowest_above p m n) (cond (holds_both q m n) (lowest_above q m n) (p ⨾ q))
lowest_above (loop p) m n = lowest_above p m n
lowest_above (p parallel q) m n =
    cond (holds_both p m n) (lowest_above p m n) (cond (holds_both q m n) (lowest_above q m n) (p parallel q))
lowest_above (trap p) m n = lowest_above p m n
lowest_above (exit d) m n = exit d
lowest_above (local s p) m n = lowest_above p m n

abbrev pub is_parallel : Stmt → Bool
is_parallel nothing = false
is_parallel (pause k) = false
is_parallel (emit s) = false
is_parallel (present? s then p else q) = false
is_parallel (suspend p on s) = false
is_parallel (p ⨾ q) = false
is_parallel (loop p) = false
is_parallel (p parallel q) = true
is_parallel (trap p) = false
is_parallel (exit d) = false
is_parallel (local s p) = false

-- Two pauses are compatible: the lowest statement above both is a parallel.
unfoldable pub compatible : Stmt → ℕ → ℕ → Bool
compatible p m n = is_parallel (lowest_above p m n)

-- A running state's active set: at least one pause, each of them the block's, any two of them compatible.
pub record Running (p : Stmt) (A : Numbers) : Type 0 where
  pub some_active : (n : ℕ) × T (A n)
  pub in_block : (n : ℕ) → T (A n) → n < length (pauses p)
  pub all_compatible : (m n : ℕ) → T (A m) → T (A n) → m ≢ n → T (compatible p m n)

unfoldable pub Legal : Stmt → State → Type 0
Legal p fresh = Unit {0}
Legal p (running A) = Running p A
Legal p finished = Unit {0}

-- The status that a local gets in must, which is the one that it is executed with.
abbrev pub executed_as : ℕ → Step → Event → Status
executed_as s p E = local_status must s (gives must p (giving E s unknown)) (gives (absence_asked must) p (giving E s unknown))

-- What is kept of the part that a tested status chooses.
abbrev pub kept_by : Status → Numbers → Numbers → Numbers
kept_by present p q = p
kept_by absent p q = q
kept_by unknown p q = empty

-- The pauses kept. A statement with code other than 1 keeps none; with 1, a started pause keeps itself and a suspended body its
-- old set (both are `stay`); else the union over the parts executed.
unfoldable pub kept : Step → Event → Numbers
kept done E = empty
kept (stay A) E = A
kept (say s) E = empty
kept (leave d) E = empty
kept (test s p q) E = only_if ((gives must (test s p q) E).codes 1) (kept_by (E s) (kept p E) (kept q E))
kept (catch p) E = only_if ((gives must (catch p) E).codes 1) (kept p E)
kept (scope s p) E = only_if ((gives must (scope s p) E).codes 1) (kept p (giving E s (executed_as s p E)))
kept (chain p q) E =
    only_if ((gives must (chain p q) E).codes 1) (union (kept p E) (only_if ((gives must p E).codes 0) (kept q E)))
kept (beside p q) E = only_if ((gives must (beside p q) E).codes 1) (union (kept p E) (kept q E))

-- Code 1 at the root gives running, 0 finished.
unfoldable pub next : ℕ → Numbers → State
next c A = cond (eqb c 1) (running A) finished
