-- The records of a doubled statement, as the code writes them. Assumes nothing.
use Rattle.std.specs.Prelude.{◌≡◌, cond, List, [], ◌∷◌, ℕ, ◌+◌, ◌≤◌, eqb, get_or, length}
use Rattle.std.proofs.lemmas.List.Edits.{sets}
use Rattle.sets.specs.Numbers.{listed}
use Rattle.rules.specs.Statements.{Stmt}
use Rattle.likeness.specs.Likeness.{naming}
use Rattle.tables.specs.declared.Table.{Table}
use Rattle.block.specs.Format.{preorder, bytes}
use Rattle.block.specs.Good.{locals}
use Rattle.writing.specs.Written.{records}
use Rattle.doubled.specs.Copies.{copies, renamed}
use Rattle.copies.specs.Nodes.{Lies}
use Rattle.copies.specs.declared.copying.Spot.{Spot}

-- The names that an array has.
abbrev pub names_of : List ℕ → ℕ → ℕ
names_of names s = get_or names s 0

-- The operand that is written: a local's is the next number, a signal's is its name, a depth stays.
unfoldable pub new_operand : ℕ → ℕ → (ℕ → ℕ) → ℕ → ℕ
new_operand k x ρ n = cond (eqb k 26) n (cond (listed (18 ∷ 19 ∷ 20 ∷ []) k) (ρ x) x)

-- The names inside a statement.
unfoldable pub names_in : ℕ → ℕ → (ℕ → ℕ) → ℕ → ℕ → ℕ
names_in k x ρ n = cond (eqb k 26) (naming ρ x n) ρ

-- A statement stands there, and there is room for its records and numbers for its locals.
pub record Writes (tab : Table) (at : ℕ) (spot : Spot) (lent : ℕ) : Type 0 where
  pub tree : Stmt
  pub lies : Lies tab at tree
  pub room : spot.to + bytes (preorder (copies 0 tree)) ≤ lent
  pub few : spot.next + length (locals (copies 0 tree)) ≤ 64

-- The doubled statement's records stand where they were to be written, and nothing else changed; where the next record goes, and the next
-- local's number.
pub record Copied (t : Stmt) (ρ : ℕ → ℕ) (j : ℕ) (spot after : Spot) (before now : List ℕ) : Type 0 where
  pub stored : now ≡ sets before spot.to (records (preorder (renamed ρ spot.next (copies j t))))
  pub ends : after.to ≡ spot.to + bytes (preorder (renamed ρ spot.next (copies j t)))
  pub counted : after.next ≡ spot.next + length (locals (copies j t))
