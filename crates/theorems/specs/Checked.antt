-- A block that passes the check, and the parts of a statement. Assumes nothing.
use Rattle.std.specs.Prelude.{◌≡◌, ◌⊎◌, ◌≢◌, ℕ, T}
use Rattle.sets.specs.Numbers.{Numbers}
use Rattle.rules.specs.Statements.{Block, Stmt, present?◌then◌else◌, suspend◌on◌, ◌⨾◌, loop, ◌parallel◌, trap, local, Numbered, Trapped}
use Rattle.rules.specs.Events.{Event}
use Rattle.rules.specs.Instant.{Step}
use Rattle.rules.specs.MustCan.{Question, gives}
use Rattle.rules.specs.Loops.{loops_pass}
use Rattle.rules.specs.Coherence.{Locals, execute}

pub record Checked (b : Block) : Type 0 where
  pub loops_are_good : T (loops_pass b.body)
  pub exits_are_trapped : Trapped 0 b.body
  pub pauses_are_numbered : Numbered 0 b.body

-- StandsIn q p: the statement q stands in p, or is p.
pub data StandsIn (q : Stmt) : Stmt → Type 0 where
  itself : StandsIn q q
  in_then : {s : ℕ} {p r : Stmt} → StandsIn q p → StandsIn q (present? s then p else r)
  in_else : {s : ℕ} {p r : Stmt} → StandsIn q r → StandsIn q (present? s then p else r)
  in_suspend : {s : ℕ} {p : Stmt} → StandsIn q p → StandsIn q (suspend p on s)
  in_first : {p r : Stmt} → StandsIn q p → StandsIn q (p ⨾ r)
  in_second : {p r : Stmt} → StandsIn q r → StandsIn q (p ⨾ r)
  in_loop : {p : Stmt} → StandsIn q p → StandsIn q (loop p)
  in_left : {p r : Stmt} → StandsIn q p → StandsIn q (p parallel r)
  in_right : {p r : Stmt} → StandsIn q r → StandsIn q (p parallel r)
  in_trap : {p : Stmt} → StandsIn q p → StandsIn q (trap p)
  in_local : {s : ℕ} {p : Stmt} → StandsIn q p → StandsIn q (local s p)

-- A step never has code 0: not in must, not in can at any event under either mark, and in no execution.
pub record NeverZero (S : Step) : Type 0 where
  pub not_given : (k : Question) (E : Event) → T ((gives k S E).codes 0) → ⊥
  pub not_executed : (l : Locals S) (W : Numbers) → (execute S l W).completes ≢ 0

-- A step's codes are 0 and 1: in must, in can at every event under either mark, and in every execution.
pub record ZeroOrOne (S : Step) : Type 0 where
  pub if_given : (k : Question) (E : Event) (c : ℕ) → T ((gives k S E).codes c) → (c ≡ 0) ⊎ (c ≡ 1)
  pub if_executed : (l : Locals S) (W : Numbers) → ((execute S l W).completes ≡ 0) ⊎ ((execute S l W).completes ≡ 1)
