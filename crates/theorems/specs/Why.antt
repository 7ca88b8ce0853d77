-- What it means that a reason is true. Assumes nothing.
use Rattle.std.specs.Prelude.{◌≡◌, Bool, true, false, ℕ, ◌<◌, T}
use Rattle.std.proofs.Math.Option.{Option, none, some}
use Rattle.rules.specs.Statements.{Block, Stmt, nothing, pause, emit, present?◌then◌else◌, suspend◌on◌, ◌⨾◌, loop, ◌parallel◌, trap, exit, local, numbered}
use Rattle.rules.specs.Events.{present, Event, Hearing, event}
use Rattle.rules.specs.States.{State}
use Rattle.rules.specs.Rounds.{Answer, answered, not_constructive, outputs_with}
use Rattle.rules.specs.Taken.{every, emit_of, undecided_test, taken}
use Rattle.rules.specs.Reasons.{Asked, refused, is_present, not_executed, is_emit, on_path}
use Rattle.theorems.specs.Checked.{StandsIn}

-- Refused as not constructive.
abbrev pub is_13 : Answer → Bool
is_13 (answered vs c st n) = false
is_13 (not_constructive vs n) = true

-- A present or a suspend.
abbrev pub is_test : Stmt → Bool
is_test nothing = false
is_test (pause n) = false
is_test (emit s) = false
is_test (present? s then p else q) = true
is_test (suspend p on s) = true
is_test (p ⨾ q) = false
is_test (loop p) = false
is_test (p parallel q) = false
is_test (trap p) = false
is_test (exit d) = false
is_test (local s p) = false

-- Statement k is a present or a suspend that must be reached with its signal undecided there, and no lower one is.
pub record NamesTest (p : Stmt) (st : State) (E : Event) (k : ℕ) : Type 0 where
  pub is_one : T (is_test (numbered p k))
  pub reached : T (taken undecided_test p st E k)
  pub none_lower : (j : ℕ) → j < k → T (taken undecided_test p st E j) → ⊥

-- Statement k is an emit of s that was executed, and no lower one is.
pub record NamesEmit (p : Stmt) (st : State) (E : Event) (s k : ℕ) : Type 0 where
  pub is_one : numbered p k ≡ emit s
  pub executed : T (taken (emit_of s) p st E k)
  pub none_lower : (j : ℕ) → j < k → T (taken (emit_of s) p st E j) → ⊥

-- Statement k is on the path of statement n and was not executed, all above it on the path were, and nothing below it was, wherever the path leads on.
pub record NamesCut (p : Stmt) (st : State) (E : Event) (n k : ℕ) : Type 0 where
  pub on_its_path : T (on_path p n k)
  pub without_it : T (taken every p st E k) → ⊥
  pub all_above : (j : ℕ) → j < k → T (on_path p n j) → T (taken every p st E j)
  pub none_below : (j : ℕ) → T (on_path p j k) → T (taken every p st E j) → ⊥

-- Of an emit that was not executed.
pub record WasNotExecuted (p : Stmt) (st : State) (E : Event) (n : ℕ) : Type 0 where
  pub an_emit : T (is_emit (numbered p n))
  pub without_it : T (taken every p st E n) → ⊥

-- No local of the statement declares s.
abbrev pub NoLocal : ℕ → Stmt → Type 0
NoLocal s p = (q : Stmt) → StandsIn (local s q) p → ⊥

-- By the question, the instant's answer and the reason told: where a statement is named, the thing asked about is so and the statement is the one; where none
-- is, the thing asked about is not so. An answered instant reaches no undecided test.
unfoldable pub TrueReason : Asked → Block → State → Hearing → Answer → Option ℕ → Type 0
unfolding event outputs_with
TrueReason refused b st heard (answered vs c st' n) none = (k : ℕ) → T (taken undecided_test b.body st (event b heard vs) k) → ⊥
TrueReason refused b st heard (answered vs c st' n) (some k) = ⊥
TrueReason refused b st heard (not_constructive vs n) none = ⊥
TrueReason refused b st heard (not_constructive vs n) (some k) = NamesTest b.body st (event b heard vs) k
TrueReason (is_present s) b st heard (answered vs c st' n) none = T (outputs_with present b vs s) → ⊥
TrueReason (is_present s) b st heard (answered vs c st' n) (some k) = T (outputs_with present b vs s) × NamesEmit b.body st (event b heard vs) s k
TrueReason (is_present s) b st heard (not_constructive vs n) none = Unit {0}
TrueReason (is_present s) b st heard (not_constructive vs n) (some k) = ⊥
TrueReason (not_executed m) b st heard (answered vs c st' n) none = WasNotExecuted b.body st (event b heard vs) m → ⊥
TrueReason (not_executed m) b st heard (answered vs c st' n) (some k) = WasNotExecuted b.body st (event b heard vs) m × NamesCut b.body st (event b heard vs) m k
TrueReason (not_executed m) b st heard (not_constructive vs n) none = Unit {0}
TrueReason (not_executed m) b st heard (not_constructive vs n) (some k) = ⊥
