-- A statement of the table by what stands below it. Assumes nothing.
use Rattle.std.specs.Prelude.{◌≡◌, ℕ, ◌+◌, ◌≤◌, ◌<◌}
use Rattle.rules.specs.Statements.{Depth, Stmt, nothing, pause, emit, present?◌then◌else◌, suspend◌on◌, ◌⨾◌, loop, ◌parallel◌, trap, exit, local}
use Rattle.tables.specs.Table.{statements, Has, Small}
use Rattle.tables.specs.declared.Table.{Table}
use Rattle.copies.specs.declared.nodes.Node.{Node}
use Rattle.copies.specs.declared.nodes.Node.TheVariants.{Leaf, Over, Twice, Joins}

-- The statement stands at i, within the table's 512 rows, and its numbers are small.
pub record Lies (tab : Table) (i : ℕ) (t : Stmt) : Type 0 where
  pub has : Has tab i t
  pub room : i + statements t ≤ 512
  pub small : Small t

-- Some statement stands at i.
pub record Somewhere (tab : Table) (i : ℕ) : Type 0 where
  pub tree : Stmt
  pub lies : Lies tab i tree

-- Statements by their children; a loop stands for itself.
pub data NoChild : Stmt → Type 0 where
  a_nothing : NoChild nothing
  a_pause : {n : ℕ} → NoChild (pause n)
  an_emit : {s : ℕ} → NoChild (emit s)
  an_exit : {d : Depth} → NoChild (exit d)

pub data OneChild : Stmt → Stmt → Type 0 where
  a_suspend : {s : ℕ} {p : Stmt} → OneChild (suspend p on s) p
  a_trap : {p : Stmt} → OneChild (trap p) p
  a_local : {s : ℕ} {p : Stmt} → OneChild (local s p) p

pub data TwoChildren : Stmt → Stmt → Stmt → Type 0 where
  a_present : {s : ℕ} {p q : Stmt} → TwoChildren (present? s then p else q) p q
  a_sequence : {p q : Stmt} → TwoChildren (p ⨾ q) p q
  a_parallel : {p q : Stmt} → TwoChildren (p parallel q) p q

-- The children stand where the code says, behind the statement.
pub record HasOne (tab : Table) (at i : ℕ) (t : Stmt) : Type 0 where
  pub child : Stmt
  pub its : OneChild t child
  pub lies : Lies tab i child
  pub behind : at < i

pub record HasBody (tab : Table) (at i : ℕ) (t : Stmt) : Type 0 where
  pub child : Stmt
  pub its : t ≡ loop child
  pub lies : Lies tab i child
  pub behind : at < i

pub record HasTwo (tab : Table) (at i k : ℕ) (t : Stmt) : Type 0 where
  pub first : Stmt
  pub second : Stmt
  pub its : TwoChildren t first second
  pub first_lies : Lies tab i first
  pub second_lies : Lies tab k second
  pub first_behind : at < i
  pub second_behind : at < k

unfoldable pub Parts : Table → ℕ → Stmt → Node → Type 0
Parts tab at t Leaf = NoChild t
Parts tab at t (Over i) = HasOne tab at i t
Parts tab at t (Twice i) = HasBody tab at i t
Parts tab at t (Joins i k) = HasTwo tab at i k t
