-- Blocks and their statements, with signals and pauses by number ("The block file"). Assumes nothing.
use Rattle.std.specs.Prelude.{◌≡◌, List, [], ◌∷◌, ◌++◌, ℕ, zero, suc, ◌+◌, ◌<◌, length, get_or}

-- An exit's depth: the traps passed over before its own. It is a type apart, so that it is never taken for a code.
pub data Depth : Type 0 where
  depth : ℕ → Depth

-- The one conversion: an exit's completion code is its depth plus 2.
unfoldable pub code : Depth → ℕ
code (depth d) = d + 2

infix 20 present?◌then◌else◌
infix 20 suspend◌on◌
infixr 30 ◌⨾◌
infixr 25 ◌parallel◌
-- The eleven statements; `p ⨾ q` is the sequence. A pause carries its number, a local the number of its signal.
pub data Stmt : Type 0 where
  nothing : Stmt
  pause : ℕ → Stmt
  emit : ℕ → Stmt
  present?◌then◌else◌ : ℕ → Stmt → Stmt → Stmt
  suspend◌on◌ : Stmt → ℕ → Stmt
  ◌⨾◌ : Stmt → Stmt → Stmt
  loop : Stmt → Stmt
  ◌parallel◌ : Stmt → Stmt → Stmt
  trap : Stmt → Stmt
  exit : Depth → Stmt
  local : ℕ → Stmt → Stmt

-- A block: how many inputs and outputs it declares, and its tree. Signals: inputs from 0, then outputs, then locals.
pub record Block : Type 0 where
  pub inputs : ℕ
  pub outputs : ℕ
  pub body : Stmt

-- The pauses of a statement, in preorder.
unfoldable pub pauses : Stmt → List ℕ
pauses nothing = []
pauses (pause n) = n ∷ []
pauses (emit s) = []
pauses (present? s then p else q) = pauses p ++ pauses q
pauses (suspend p on s) = pauses p
pauses (p ⨾ q) = pauses p ++ pauses q
pauses (loop p) = pauses p
pauses (p parallel q) = pauses p ++ pauses q
pauses (trap p) = pauses p
pauses (exit d) = []
pauses (local s p) = pauses p

-- How many statements there are, the statement itself and all below it.
unfoldable pub statements : Stmt → ℕ
statements nothing = 1
statements (pause n) = 1
statements (emit s) = 1
statements (present? s then p else q) = 1 + statements p + statements q
statements (suspend p on s) = 1 + statements p
statements (p ⨾ q) = 1 + statements p + statements q
statements (loop p) = 1 + statements p
statements (p parallel q) = 1 + statements p + statements q
statements (trap p) = 1 + statements p
statements (exit d) = 1
statements (local s p) = 1 + statements p

-- The statements of a tree in preorder: the statement number n with all below it.
unfoldable pub preorder : Stmt → List Stmt
preorder nothing = nothing ∷ []
preorder (pause n) = pause n ∷ []
preorder (emit s) = emit s ∷ []
preorder (present? s then p else q) = (present? s then p else q) ∷ preorder p ++ preorder q
preorder (suspend p on s) = (suspend p on s) ∷ preorder p
preorder (p ⨾ q) = (p ⨾ q) ∷ preorder p ++ preorder q
preorder (loop p) = loop p ∷ preorder p
preorder (p parallel q) = (p parallel q) ∷ preorder p ++ preorder q
preorder (trap p) = trap p ∷ preorder p
preorder (exit d) = exit d ∷ []
preorder (local s p) = local s p ∷ preorder p

abbrev pub numbered : Stmt → ℕ → Stmt
numbered p n = get_or (preorder p) n nothing

-- n numbers from i on.
unfoldable pub from : ℕ → ℕ → List ℕ
from i zero = []
from i (suc n) = i ∷ from (suc i) n

-- Pauses are numbered from 0 in preorder; here from i, for a statement inside a block.
unfoldable pub Numbered : ℕ → Stmt → Type 0
Numbered i p = pauses p ≡ from i (length (pauses p))

-- Every exit finds its trap: its depth is below the number of traps around it, k of them around the statement.
unfoldable pub Trapped : ℕ → Stmt → Type 0
Trapped k nothing = Unit {0}
Trapped k (pause n) = Unit {0}
Trapped k (emit s) = Unit {0}
Trapped k (present? s then p else q) = Trapped k p × Trapped k q
Trapped k (suspend p on s) = Trapped k p
Trapped k (p ⨾ q) = Trapped k p × Trapped k q
Trapped k (loop p) = Trapped k p
Trapped k (p parallel q) = Trapped k p × Trapped k q
Trapped k (trap p) = Trapped (suc k) p
Trapped k (exit (depth d)) = d < k
Trapped k (local s p) = Trapped k p
