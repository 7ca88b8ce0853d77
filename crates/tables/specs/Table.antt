-- The table of a block: kind, operand and subtree size by statement number, as the reader fills it and the evaluator walks it.
-- Assumes nothing.
use Rattle.std.specs.Prelude.{◌≡◌, cond, List, ℕ, ◌+◌, ◌<◌, eqb, get_or}
-- The sizes are counts of statements; who knows the table takes the count from here.
unfoldable pub use Rattle.rules.specs.Statements.{statements}
use Rattle.tables.specs.declared.Table.{Table}
use Rattle.tables.specs.Kinds.{operands_of}
use Rattle.rules.specs.Statements.{depth, Stmt, nothing, pause, emit, present?◌then◌else◌, suspend◌on◌, ◌⨾◌, loop, ◌parallel◌, trap, exit, local}

abbrev pub table_of : List ℕ → List ℕ → List ℕ → Table
table_of ks xs ns = record { kinds = ks; operands = xs; sizes = ns }

-- The kind numbers of "The block file".
unfoldable pub kind_of : Stmt → ℕ
kind_of nothing = 16
kind_of (pause n) = 17
kind_of (emit s) = 18
kind_of (present? s then p else q) = 19
kind_of (suspend p on s) = 20
kind_of (p ⨾ q) = 21
kind_of (loop p) = 22
kind_of (p parallel q) = 23
kind_of (trap p) = 24
kind_of (exit d) = 25
kind_of (local s p) = 26

-- The table's operand: a signal, an exit's depth, and for a pause its number; else 0.
unfoldable pub operand_of : Stmt → ℕ
operand_of nothing = 0
operand_of (pause n) = n
operand_of (emit s) = s
operand_of (present? s then p else q) = s
operand_of (suspend p on s) = s
operand_of (p ⨾ q) = 0
operand_of (loop p) = 0
operand_of (p parallel q) = 0
operand_of (trap p) = 0
operand_of (exit (depth d)) = d
operand_of (local s p) = s

-- The operand that the table keeps of a record of kind k with operand x, after n pauses.
unfoldable pub kept_operand : ℕ → ℕ → ℕ → ℕ
kept_operand k x n = cond (eqb k 17) n (cond (eqb (operands_of k) 1) x 0)

-- The table's row at i is the statement's.
pub record Row (tab : Table) (i : ℕ) (p : Stmt) : Type 0 where
  pub its_kind : get_or tab.kinds i 0 ≡ kind_of p
  pub its_operand : get_or tab.operands i 0 ≡ operand_of p
  pub its_size : get_or tab.sizes i 0 ≡ statements p

-- The table has the statement at i: its row, directly followed by its children.
unfoldable pub Has : Table → ℕ → Stmt → Type 0
unfolding statements
Has tab i nothing = Row tab i nothing
Has tab i (pause n) = Row tab i (pause n)
Has tab i (emit s) = Row tab i (emit s)
Has tab i (present? s then p else q) =
    Row tab i (present? s then p else q) × Has tab (i + 1) p × Has tab (i + 1 + statements p) q
Has tab i (suspend p on s) = Row tab i (suspend p on s) × Has tab (i + 1) p
Has tab i (p ⨾ q) = Row tab i (p ⨾ q) × Has tab (i + 1) p × Has tab (i + 1 + statements p) q
Has tab i (loop p) = Row tab i (loop p) × Has tab (i + 1) p
Has tab i (p parallel q) = Row tab i (p parallel q) × Has tab (i + 1) p × Has tab (i + 1 + statements p) q
Has tab i (trap p) = Row tab i (trap p) × Has tab (i + 1) p
Has tab i (exit d) = Row tab i (exit d)
Has tab i (local s p) = Row tab i (local s p) × Has tab (i + 1) p

-- The limits that a word's bits ask for: signals below 64, pauses below 128, depths below 16.
unfoldable pub Small : Stmt → Type 0
Small nothing = Unit {0}
Small (pause n) = n < 128
Small (emit s) = s < 64
Small (present? s then p else q) = (s < 64) × Small p × Small q
Small (suspend p on s) = (s < 64) × Small p
Small (p ⨾ q) = Small p × Small q
Small (loop p) = Small p
Small (p parallel q) = Small p × Small q
Small (trap p) = Small p
Small (exit (depth d)) = d < 16
Small (local s p) = (s < 64) × Small p
