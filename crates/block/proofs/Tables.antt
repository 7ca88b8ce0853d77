-- The table: which rows a store changes, and that a statement stays in the table while its rows stay.
use mathlib.Core.Path.{◌≡◌, refl, sym, ◌∙◌}
use mathlib.Core.List.{List}
use Prim.Native.Nat.{ℕ, ◌+◌, ◌≤◌, ◌<◌}
use native.Mathlib.Omega.{arith}
use lib.ListN.{get_or, set, length-set}
use lib.Seq.{get_or-set_same, get_or-set_other}
use Rattle.rules.specs.Statements.{Stmt, nothing, pause, emit, present?◌then◌else◌, suspend◌on◌, ◌⨾◌, loop, ◌parallel◌, trap, exit, local}
use Rattle.tables.specs.Table.{Row, Has, statements}
use Rattle.tables.specs.declared.Table.{Table}
use Rattle.block.specs.Format.{leaf, above, joined}
use Rattle.block.specs.Told.{Same, Full}
use Rattle.tables.specs.Table.{table_of, kept_operand}
use Rattle.block.proofs.Views.{Leaf, Above, Joined, a_nothing, a_pause, an_emit, an_exit, a_suspend, a_loop, a_trap, a_local, a_present, a_sequence, a_parallel}
use Rattle.block.proofs.Built.{Builds}

pub same_refl : {tab : Table} (i : ℕ) → Same tab tab i
same_refl i = record { same_kind = refl; same_operand = refl; same_size = refl }

pub same_trans : {t u v : Table} {i : ℕ} → Same t u i → Same u v i → Same t v i
same_trans s r = record { same_kind = r.same_kind ∙ s.same_kind; same_operand = r.same_operand ∙ s.same_operand; same_size = r.same_size ∙ s.same_size }

-- A store at n changes no other row.
pub same_row : (ks xs ns : List ℕ) (n k x j : ℕ) → (j ≡ n → ⊥) → Same (table_of ks xs ns) (table_of (set ks n k) (set xs n x) ns) j
same_row ks xs ns n k x j h = record { same_kind = get_or-set_other ks n j k 0 h; same_operand = get_or-set_other xs n j x 0 h; same_size = refl }

pub same_but_size : (ks xs ns : List ℕ) (n v j : ℕ) → (j ≡ n → ⊥) → Same (table_of ks xs ns) (table_of ks xs (set ns n v)) j
same_but_size ks xs ns n v j h = record { same_kind = refl; same_operand = refl; same_size = get_or-set_other ns n j v 0 h }

pub full_row : {ks xs ns : List ℕ} (n k x : ℕ) → Full (table_of ks xs ns) → Full (table_of (set ks n k) (set xs n x) ns)
full_row {ks} {xs} n k x f = record { all_kinds = length-set ks n k ∙ f.all_kinds; all_operands = length-set xs n x ∙ f.all_operands; all_sizes = f.all_sizes }

pub full_size : {ks xs ns : List ℕ} (n v : ℕ) → Full (table_of ks xs ns) → Full (table_of ks xs (set ns n v))
full_size {ns = ns} n v f = record { all_kinds = f.all_kinds; all_operands = f.all_operands; all_sizes = length-set ns n v ∙ f.all_sizes }

-- Kind and operand of row n.
pub record Begun (tab : Table) (n k x : ℕ) : Type 0 where
  pub kind_there : get_or tab.kinds n 0 ≡ k
  pub operand_there : get_or tab.operands n 0 ≡ x

pub begun_row : (ks xs ns : List ℕ) (n k x : ℕ) → n < 512 → Full (table_of ks xs ns) → Begun (table_of (set ks n k) (set xs n x) ns) n k x
begun_row ks xs ns n k x h f = record {
  kind_there = get_or-set_same ks n k 0 (omega (arith, f.all_kinds));
  operand_there = get_or-set_same xs n x 0 (omega (arith, f.all_operands));
}

pub begun_same : {t u : Table} {n k x : ℕ} → Begun t n k x → Same t u n → Begun u n k x
begun_same b s = record { kind_there = s.same_kind ∙ b.kind_there; operand_there = s.same_operand ∙ b.operand_there }

-- The size comes last: then the row is the statement's.
pub row_ends : (ks xs ns : List ℕ) (n k x before m size v : ℕ) (ps : List ℕ) (t : Stmt) → n < 512 → Full (table_of ks xs ns)
    → Begun (table_of ks xs ns) n k (kept_operand k x before) → Builds k x before m size ps t → v ≡ 1 + m
    → Row (table_of ks xs (set ns n v)) n t
row_ends ks xs ns n k x before m size v ps t h f b made e = record {
  its_kind = b.kind_there ∙ sym made.its_kind;
  its_operand = b.operand_there ∙ sym made.its_operand;
  its_size = get_or-set_same ns n v 0 (omega (arith, f.all_sizes)) ∙ e ∙ sym made.its_statements;
}

pub leaf_has : {tab : Table} {i k : ℕ} (x n : ℕ) → Leaf k → Row tab i (leaf k x n) → Has tab i (leaf k x n)
unfolding Has leaf
leaf_has x n a_nothing r = r
leaf_has x n a_pause r = r
leaf_has x n an_emit r = r
leaf_has x n an_exit r = r

pub above_has : {tab : Table} {i k : ℕ} (x : ℕ) (p : Stmt) → Above k → Row tab i (above k x p) → Has tab (i + 1) p → Has tab i (above k x p)
unfolding Has above
above_has x p a_suspend r h = (r, h)
above_has x p a_loop r h = (r, h)
above_has x p a_trap r h = (r, h)
above_has x p a_local r h = (r, h)

pub joined_has : {tab : Table} {i k : ℕ} (x : ℕ) (p q : Stmt) → Joined k → Row tab i (joined k x p q) → Has tab (i + 1) p → Has tab (i + 1 + statements p) q
    → Has tab i (joined k x p q)
unfolding Has joined
joined_has x p q a_present r h g = (r, h, g)
joined_has x p q a_sequence r h g = (r, h, g)
joined_has x p q a_parallel r h g = (r, h, g)

row_same : {t u : Table} {i : ℕ} {p : Stmt} → Same t u i → Row t i p → Row u i p
row_same s r = record { its_kind = s.same_kind ∙ r.its_kind; its_operand = s.same_operand ∙ r.its_operand; its_size = s.same_size ∙ r.its_size }

-- A statement whose rows are the same in another table stands there too.
module _ {t u : Table} where
  pub has_same : (p : Stmt) (i : ℕ) → ((j : ℕ) → i ≤ j → j < i + statements p → Same t u j) → Has t i p → Has u i p
  unfolding Has statements
  has_same nothing i s h = row_same (s i (omega arith) (omega arith)) h
  has_same (pause n) i s h = row_same (s i (omega arith) (omega arith)) h
  has_same (emit n) i s h = row_same (s i (omega arith) (omega arith)) h
  has_same (present? n then p else q) i s h = (
    row_same (s i (omega arith) (omega arith)) h.0,
    has_same p (i + 1) (λ j l m. s j (omega arith) (omega arith)) h.1,
    has_same q (i + 1 + statements p) (λ j l m. s j (omega arith) (omega arith)) h.2,
  )
  has_same (suspend p on n) i s h =
      (row_same (s i (omega arith) (omega arith)) h.0, has_same p (i + 1) (λ j l m. s j (omega arith) (omega arith)) h.1)
  has_same (p ⨾ q) i s h = (
    row_same (s i (omega arith) (omega arith)) h.0,
    has_same p (i + 1) (λ j l m. s j (omega arith) (omega arith)) h.1,
    has_same q (i + 1 + statements p) (λ j l m. s j (omega arith) (omega arith)) h.2,
  )
  has_same (loop p) i s h =
      (row_same (s i (omega arith) (omega arith)) h.0, has_same p (i + 1) (λ j l m. s j (omega arith) (omega arith)) h.1)
  has_same (p parallel q) i s h = (
    row_same (s i (omega arith) (omega arith)) h.0,
    has_same p (i + 1) (λ j l m. s j (omega arith) (omega arith)) h.1,
    has_same q (i + 1 + statements p) (λ j l m. s j (omega arith) (omega arith)) h.2,
  )
  has_same (trap p) i s h =
      (row_same (s i (omega arith) (omega arith)) h.0, has_same p (i + 1) (λ j l m. s j (omega arith) (omega arith)) h.1)
  has_same (exit d) i s h = row_same (s i (omega arith) (omega arith)) h
  has_same (local n p) i s h =
      (row_same (s i (omega arith) (omega arith)) h.0, has_same p (i + 1) (λ j l m. s j (omega arith) (omega arith)) h.1)
