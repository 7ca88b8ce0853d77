-- Signals in their scope and the numbers of locals, in a tree of edition 2: each of the four has the signal rule of its form. Assumes nothing.
use Rattle.std.specs.Prelude.{◌≡◌, ◌||◌, List, [], ◌∷◌, ◌++◌, ℕ, ◌+◌, ◌≤◌, T, ltb, length}
use Rattle.sets.specs.Numbers.{Numbers, union, single}
use Rattle.rules.specs.Statements.{from}
use Rattle.everyday.specs.Statements.{Alone, nothing, pause, halt, emit, sustain, await, exit, Around, suspend_on, loop, trap, local, abort_when}
use Rattle.everyday.specs.Statements.{Between, present_then_else, in_sequence, in_parallel, Everyday, alone, around, between}

-- Sustain is of an output or of a local in scope, as emit; await and abort test as present and suspend. There are i inputs and o outputs, and S has the
-- locals around the statement.
abbrev pub ScopedAlone : ℕ → ℕ → Numbers → Alone → Type 0
ScopedAlone i o S nothing = Unit {0}
ScopedAlone i o S pause = Unit {0}
ScopedAlone i o S halt = Unit {0}
ScopedAlone i o S (emit s) = (i ≤ s) × T (ltb s (i + o) || S s)
ScopedAlone i o S (sustain s) = (i ≤ s) × T (ltb s (i + o) || S s)
ScopedAlone i o S (await s) = T (ltb s (i + o) || S s)
ScopedAlone i o S (exit d) = Unit {0}

abbrev pub ScopedAround : ℕ → ℕ → Numbers → Around → Type 0
ScopedAround i o S (suspend_on s) = T (ltb s (i + o) || S s)
ScopedAround i o S loop = Unit {0}
ScopedAround i o S trap = Unit {0}
ScopedAround i o S (local s) = i + o ≤ s
ScopedAround i o S (abort_when s) = T (ltb s (i + o) || S s)

abbrev pub scope_inside : Around → Numbers → Numbers
scope_inside (suspend_on s) S = S
scope_inside loop S = S
scope_inside trap S = S
scope_inside (local s) S = union (single s) S
scope_inside (abort_when s) S = S

abbrev pub ScopedBetween : ℕ → ℕ → Numbers → Between → Type 0
ScopedBetween i o S (present_then_else s) = T (ltb s (i + o) || S s)
ScopedBetween i o S in_sequence = Unit {0}
ScopedBetween i o S in_parallel = Unit {0}

unfoldable pub Scoped₂ : ℕ → ℕ → Numbers → Everyday → Type 0
Scoped₂ i o S (alone a) = ScopedAlone i o S a
Scoped₂ i o S (around f p) = ScopedAround i o S f × Scoped₂ i o (scope_inside f S) p
Scoped₂ i o S (between b p q) = ScopedBetween i o S b × Scoped₂ i o S p × Scoped₂ i o S q

-- The locals of a statement, in preorder of declaration; each has the next number, here from n on.
abbrev pub declares : Around → List ℕ
declares (suspend_on s) = []
declares loop = []
declares trap = []
declares (local s) = s ∷ []
declares (abort_when s) = []

unfoldable pub locals₂ : Everyday → List ℕ
locals₂ (alone a) = []
locals₂ (around f p) = declares f ++ locals₂ p
locals₂ (between o p q) = locals₂ p ++ locals₂ q

unfoldable pub Next₂ : ℕ → Everyday → Type 0
unfolding locals₂
Next₂ n p = locals₂ p ≡ from n (length (locals₂ p))
