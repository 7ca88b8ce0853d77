-- What a doubled statement takes, as the code counts it: each count is the true one, or 4,000 if that is more. Assumes nothing.
use Rattle.std.specs.Prelude.{◌≡◌, cond, [], ◌∷◌, ℕ, ◌+◌, max, eqb, ltb, length}
use Rattle.sets.specs.Numbers.{listed}
use Rattle.rules.specs.Statements.{Stmt, pauses}
use Rattle.tables.specs.Table.{statements}
use Rattle.block.specs.Format.{preorder, bytes}
use Rattle.block.specs.Good.{path, locals}
use Rattle.doubled.specs.Copies.{copies, renamed}
use Rattle.copies.specs.declared.sizes.Size.{Size}

unfoldable pub capped : ℕ → ℕ
capped n = cond (ltb 4000 n) 4000 n

-- A statement's own records, by its kind: a loop has two, its own and that of the sequence in its body.
unfoldable pub own_size : ℕ → Size
own_size k =
    cond (eqb k 17) (record { statements = 1; pauses = 1; locals = 0; path = 1; bytes = 4 })
    (cond (listed (18 ∷ 19 ∷ 20 ∷ 25 ∷ []) k) (record { statements = 1; pauses = 0; locals = 0; path = 1; bytes = 6 })
    (cond (eqb k 22) (record { statements = 2; pauses = 0; locals = 0; path = 2; bytes = 8 })
    (cond (eqb k 26) (record { statements = 1; pauses = 0; locals = 1; path = 1; bytes = 6 })
    (record { statements = 1; pauses = 0; locals = 0; path = 1; bytes = 4 }))))

abbrev pub onto_size : Size → Size → Size
onto_size a b = record {
  statements = capped (a.statements + b.statements);
  pauses = capped (a.pauses + b.pauses);
  locals = capped (a.locals + b.locals);
  path = capped (a.path + b.path);
  bytes = capped (a.bytes + b.bytes);
}

abbrev pub side_size : Size → Size → Size
side_size a b = record {
  statements = capped (a.statements + b.statements);
  pauses = capped (a.pauses + b.pauses);
  locals = capped (a.locals + b.locals);
  path = max a.path b.path;
  bytes = capped (a.bytes + b.bytes);
}

-- Five counts, each as far as the cap.
pub record Counts (r : Size) (s p l d b : ℕ) : Type 0 where
  pub of_statements : r.statements ≡ capped s
  pub of_pauses : r.pauses ≡ capped p
  pub of_locals : r.locals ≡ capped l
  pub of_path : r.path ≡ capped d
  pub of_bytes : r.bytes ≡ capped b

-- The counts of a tree.
abbrev pub SizeOf : Size → Stmt → Type 0
SizeOf r t = Counts r (statements t) (length (pauses t)) (length (locals t)) (path t) (bytes (preorder t))

-- The counts of a statement doubled, whatever its numbers and names.
pub record Measured (t : Stmt) (r : Size) : Type 0 where
  pub counts : (ρ : ℕ → ℕ) (n j : ℕ) → SizeOf r (renamed ρ n (copies j t))
