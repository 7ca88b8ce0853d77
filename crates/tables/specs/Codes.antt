-- The loop check on the table: a statement's codes from its row and its children's codes. Assumes nothing.
use Rattle.std.specs.Prelude.{◌≡◌, Bool, false, cond, List, ℕ, ◌<◌, get_or, eqb, Some, None}
use Rattle.std.specs.declared.option.Option.{Option as Maybe}
use Rattle.std.proofs.Math.Option.{Option, none, some}
use Rattle.sets.specs.Numbers.{Numbers, single, union, without, only_if, maxima, downs, lowest}
use Rattle.sets.specs.Words.{bits}
use Rattle.rules.specs.Statements.{depth, code, Stmt, nothing, pause, emit, present?◌then◌else◌, suspend◌on◌, ◌⨾◌, loop, ◌parallel◌, trap, exit, local}
use Rattle.rules.specs.Loops.{codes_of}
use Rattle.tables.specs.Table.{Has, Small, kind_of, statements}
use Rattle.tables.specs.declared.Table.{Table}
use Rattle.rules.specs.Statements.{numbered}

-- The codes of a statement of kind k and operand x whose children have the codes P and Q.
unfoldable pub codes_for : ℕ → ℕ → Numbers → Numbers → Numbers
codes_for k x P Q =
    cond (eqb k 17) (single 1)
    (cond (eqb k 19) (union P Q)
    (cond (eqb k 20) P
    (cond (eqb k 21) (union (without 0 P) (only_if (P 0) Q))
    (cond (eqb k 22) (without 0 P)
    (cond (eqb k 23) (maxima P Q)
    (cond (eqb k 24) (downs P)
    (cond (eqb k 25) (single (code (depth x)))
    (cond (eqb k 26) P
    (single 0)))))))))

-- Two words have the codes of a statement's children.
unfoldable pub Fed : Stmt → ℕ → ℕ → Type 0
Fed nothing v w = Unit {0}
Fed (pause n) v w = Unit {0}
Fed (emit s) v w = Unit {0}
Fed (present? s then p else q) v w = (bits v ≡ codes_of p) × (bits w ≡ codes_of q)
Fed (suspend p on s) v w = bits v ≡ codes_of p
Fed (p ⨾ q) v w = (bits v ≡ codes_of p) × (bits w ≡ codes_of q)
Fed (loop p) v w = bits v ≡ codes_of p
Fed (p parallel q) v w = (bits v ≡ codes_of p) × (bits w ≡ codes_of q)
Fed (trap p) v w = bits v ≡ codes_of p
Fed (exit d) v w = Unit {0}
Fed (local s p) v w = bits v ≡ codes_of p

-- What was found, as the code says it.
abbrev pub found : Option ℕ → Maybe ℕ
found none = None
found (some k) = Some k

-- The number that was found, and n where none was.
abbrev pub number_or : ℕ → Option ℕ → ℕ
number_or n none = n
number_or n (some k) = k

-- The table has the small tree t, and nothing else, in its first rows.
pub record Tabled (tab : Table) (count : ℕ) (t : Stmt) : Type 0 where
  pub has : Has tab 0 t
  pub small : Small t
  pub counted : statements t ≡ count

-- The table's kinds are those of the tree's statements.
unfoldable pub Listed : List ℕ → Stmt → Type 0
Listed ks t = (i : ℕ) → i < statements t → get_or ks i 0 ≡ kind_of (numbered t i)

-- A loop whose body may complete with 0 when started.
unfoldable pub endless : Stmt → Bool
endless nothing = false
endless (pause n) = false
endless (emit s) = false
endless (present? s then p else q) = false
endless (suspend p on s) = false
endless (p ⨾ q) = false
endless (loop p) = codes_of p 0
endless (p parallel q) = false
endless (trap p) = false
endless (exit d) = false
endless (local s p) = false

unfoldable pub lowest_endless : Stmt → Option ℕ
lowest_endless p = lowest (statements p) (λ n. endless (numbered p n))
