-- What the search for the first clash asks of its table, and what its steps say. Assumes nothing.
use Rattle.std.specs.Prelude.{◌≡◌, ◌⊎◌, Option as Perhaps, Some, None, Bool, false, cond, List, ℕ, zero, suc, ◌+◌, ◌≤◌, ◌<◌, T, eqb, length, get_or}
use Rattle.std.proofs.Math.Option.{Option, none, some}
use Rattle.sets.specs.Words.{set_of}
use Rattle.rules.specs.Statements.{Stmt, pauses, Numbered}
use Rattle.rules.specs.States.{compatible}
use Rattle.tables.specs.Table.{Has, statements}
use Rattle.tables.specs.Kinds.{children_of}
use Rattle.records.specs.StateRecord.{Pair}

-- The answer's pair: the lowest first pause, then the lowest second.
unfoldable pub pair_of : Perhaps (ℕ × ℕ) → Option Pair
pair_of None = none
pair_of (Some p) = some (record { first = p.0; second = p.1 })

-- The table has the whole tree, with pauses numbered from 0, and each active pause is one of the tree's.
pub record Searchable (kinds sizes : List ℕ) (count : ℕ) (active : List ℕ) (t : Stmt) : Type 0 where
  pub operands : List ℕ
  pub has : Has (record { kinds = kinds; operands = operands; sizes = sizes }) 0 t
  pub numbered : Numbered 0 t
  pub counted : statements t ≡ count
  pub few : count ≤ 512
  pub in_block : (n : ℕ) → T (set_of active n) → n < length (pauses t)

-- The active pauses are among the first so many.
pub record Bounded (pauses : ℕ) (active : List ℕ) : Type 0 where
  pub bound : (n : ℕ) → T (set_of active n) → n < pauses
  pub width : pauses ≤ 128

-- How many pauses stand before statement i.
unfoldable pub before : List ℕ → ℕ → ℕ
before kinds zero = 0
before kinds (suc i) = cond (eqb (get_or kinds i 0) 17) 1 0 + before kinds i

pub record Filled (kinds : List ℕ) (count : ℕ) (firsts : List ℕ) : Type 0 where
  pub first : (i : ℕ) → i < count → get_or firsts i 0 ≡ before kinds i

-- A pair to be tested: the first pause is active and the lower one, in some table with its counts.
pub record Pairable (kinds sizes firsts active : List ℕ) (m n : ℕ) : Type 0 where
  pub count : ℕ
  pub tree : Stmt
  pub searchable : Searchable kinds sizes count active tree
  pub filled : Filled kinds count firsts
  pub member : T (set_of active m)
  pub lower : m < n
  pub in_width : n < 128

-- A statement of this kind has two parts: two children in the block's format.
unfoldable pub two_parts : ℕ → Bool
unfolding children_of
two_parts kind = eqb (children_of kind) 2

-- The statement p stands at i, with all below it among the first so many rows, and its pauses are numbered from those before it.
pub record Standing (kinds sizes : List ℕ) (count i : ℕ) (p : Stmt) : Type 0 where
  pub operands : List ℕ
  pub has : Has (record { kinds = kinds; operands = operands; sizes = sizes }) i p
  pub numbered : Numbered (before kinds i) p
  pub ends : i + statements p ≤ count
  pub few : count ≤ 512

-- The statement p at i holds both pauses, the first the lower one.
pub record Place (kinds sizes firsts : List ℕ) (m n i : ℕ) (p : Stmt) : Type 0 where
  pub count : ℕ
  pub stands : Standing kinds sizes count i p
  pub filled : Filled kinds count firsts
  pub lower : m < n
  pub low : before kinds i ≤ m
  pub high : n < before kinds i + length (pauses p)

-- From p at i the search stays, where p is the lowest above both, or goes to the part of p that holds both.
unfoldable pub Goes : List ℕ → List ℕ → List ℕ → ℕ → ℕ → ℕ → ℕ → Stmt → Type 0
Goes kinds sizes firsts m n i r p =
    ((r ≡ i) × (eqb (get_or kinds i 0) 23 ≡ compatible p m n))
    ⊎ ((q : Stmt) × (i < r) × Place kinds sizes firsts m n r q × (compatible q m n ≡ compatible p m n))

-- Pause k is active, and the statement p at i holds it.
pub record Holds (kinds active : List ℕ) (i : ℕ) (p : Stmt) (k : ℕ) : Type 0 where
  pub member : T (set_of active k)
  pub low : before kinds i ≤ k
  pub high : k < before kinds i + length (pauses p)

-- The flag of row i: set where the statement there holds an active pause.
pub record Flagged (kinds sizes : List ℕ) (count : ℕ) (active : List ℕ) (i : ℕ) (flag : Bool) : Type 0 where
  pub set : (p : Stmt) → Standing kinds sizes count i p → (k : ℕ) → Holds kinds active i p k → T flag

-- Any two active pauses that the statement at i holds are compatible.
pub record Agreed (kinds sizes : List ℕ) (count : ℕ) (active : List ℕ) (i : ℕ) : Type 0 where
  pub agree : (p : Stmt) → Standing kinds sizes count i p → (m n : ℕ) → m < n → Holds kinds active i p m → Holds kinds active i p n → T (compatible p m n)

-- Both, of every row from i on.
pub record Quiet (kinds sizes : List ℕ) (count : ℕ) (active : List ℕ) (live : List Bool) (i : ℕ) : Type 0 where
  pub flagged : (j : ℕ) → i ≤ j → Flagged kinds sizes count active j (get_or live j false)
  pub agreed : (j : ℕ) → i ≤ j → Agreed kinds sizes count active j
