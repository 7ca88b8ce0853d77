-- The table's row of a statement that stands in it, and that a statement is at least one: by its kind. Assumes nothing.
use Prim.Native.Nat.{ℕ}
use Rattle.rules.specs.Statements.{Stmt, nothing, pause, emit, present?◌then◌else◌, suspend◌on◌, ◌⨾◌, loop, ◌parallel◌, trap, exit, local}
-- Known from the rules, and handed on.
pub use Rattle.rules.proofs.Preorder.{some_statement}
use Rattle.tables.specs.Table.{Row, Has}
use Rattle.tables.specs.declared.Table.{Table}

pub has_row : {tab : Table} {i : ℕ} (p : Stmt) → Has tab i p → Row tab i p
unfolding Has
has_row nothing h = h
has_row (pause n) h = h
has_row (emit s) h = h
has_row (present? s then p else q) h = h.0
has_row (suspend p on s) h = h.0
has_row (p ⨾ q) h = h.0
has_row (loop p) h = h.0
has_row (p parallel q) h = h.0
has_row (trap p) h = h.0
has_row (exit d) h = h
has_row (local s p) h = h.0
