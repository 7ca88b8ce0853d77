-- Signals in their scope, limits and the numbers of locals, as properties of a tree: what a good reading gives besides what the
-- rules name. Assumes nothing.
use Rattle.std.specs.Prelude.{◌≡◌, ◌||◌, List, [], ◌∷◌, ◌++◌, ℕ, ◌+◌, ◌≤◌, max, T, ltb, length}
use Rattle.sets.specs.Numbers.{Numbers, union, single}
use Rattle.rules.specs.Statements.{from, Stmt, nothing, pause, emit, present?◌then◌else◌, suspend◌on◌, ◌⨾◌, loop, ◌parallel◌, trap, exit, local}

-- Each emit is of an output or of a local in whose body it stands, each test of these or of an input, and each local's number
-- is above the outputs. There are i inputs and o outputs, and S has the locals around the statement.
unfoldable pub Scoped : ℕ → ℕ → Numbers → Stmt → Type 0
Scoped i o S nothing = Unit {0}
Scoped i o S (pause n) = Unit {0}
Scoped i o S (emit s) = (i ≤ s) × T (ltb s (i + o) || S s)
Scoped i o S (present? s then p else q) = T (ltb s (i + o) || S s) × Scoped i o S p × Scoped i o S q
Scoped i o S (suspend p on s) = T (ltb s (i + o) || S s) × Scoped i o S p
Scoped i o S (p ⨾ q) = Scoped i o S p × Scoped i o S q
Scoped i o S (loop p) = Scoped i o S p
Scoped i o S (p parallel q) = Scoped i o S p × Scoped i o S q
Scoped i o S (trap p) = Scoped i o S p
Scoped i o S (exit d) = Unit {0}
Scoped i o S (local s p) = (i + o ≤ s) × Scoped i o (union (single s) S) p

-- The limits of a tree, as document 01 counts them: how many statements stand on the longest path from the root, how many traps
-- and how many locals are nested in each other.
unfoldable pub path : Stmt → ℕ
path nothing = 1
path (pause n) = 1
path (emit s) = 1
path (present? s then p else q) = 1 + max (path p) (path q)
path (suspend p on s) = 1 + path p
path (p ⨾ q) = 1 + max (path p) (path q)
path (loop p) = 1 + path p
path (p parallel q) = 1 + max (path p) (path q)
path (trap p) = 1 + path p
path (exit d) = 1
path (local s p) = 1 + path p

unfoldable pub nested_traps : Stmt → ℕ
nested_traps nothing = 0
nested_traps (pause n) = 0
nested_traps (emit s) = 0
nested_traps (present? s then p else q) = max (nested_traps p) (nested_traps q)
nested_traps (suspend p on s) = nested_traps p
nested_traps (p ⨾ q) = max (nested_traps p) (nested_traps q)
nested_traps (loop p) = nested_traps p
nested_traps (p parallel q) = max (nested_traps p) (nested_traps q)
nested_traps (trap p) = 1 + nested_traps p
nested_traps (exit d) = 0
nested_traps (local s p) = nested_traps p

unfoldable pub nested_locals : Stmt → ℕ
nested_locals nothing = 0
nested_locals (pause n) = 0
nested_locals (emit s) = 0
nested_locals (present? s then p else q) = max (nested_locals p) (nested_locals q)
nested_locals (suspend p on s) = nested_locals p
nested_locals (p ⨾ q) = max (nested_locals p) (nested_locals q)
nested_locals (loop p) = nested_locals p
nested_locals (p parallel q) = max (nested_locals p) (nested_locals q)
nested_locals (trap p) = nested_locals p
nested_locals (exit d) = 0
nested_locals (local s p) = 1 + nested_locals p

-- The locals of a statement, in preorder of declaration.
unfoldable pub locals : Stmt → List ℕ
locals nothing = []
locals (pause n) = []
locals (emit s) = []
locals (present? s then p else q) = locals p ++ locals q
locals (suspend p on s) = locals p
locals (p ⨾ q) = locals p ++ locals q
locals (loop p) = locals p
locals (p parallel q) = locals p ++ locals q
locals (trap p) = locals p
locals (exit d) = []
locals (local s p) = s ∷ locals p

-- Locals are numbered in preorder of declaration: each has the next number, here from n on.
unfoldable pub Next : ℕ → Stmt → Type 0
Next n p = locals p ≡ from n (length (locals p))

-- Each local's number is new to its scope: none of those in S, and none of a local around it.
unfoldable pub Apart : Numbers → Stmt → Type 0
Apart S nothing = Unit {0}
Apart S (pause n) = Unit {0}
Apart S (emit s) = Unit {0}
Apart S (present? s then p else q) = Apart S p × Apart S q
Apart S (suspend p on s) = Apart S p
Apart S (p ⨾ q) = Apart S p × Apart S q
Apart S (loop p) = Apart S p
Apart S (p parallel q) = Apart S p × Apart S q
Apart S (trap p) = Apart S p
Apart S (exit d) = Unit {0}
Apart S (local s p) = (T (S s) → ⊥) × Apart (union (single s) S) p
