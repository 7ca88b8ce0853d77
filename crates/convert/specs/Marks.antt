-- The traps (1) and aborts (0) around a statement, as a word: the innermost is the lowest bit, and n of them stand there. Assumes nothing.
use Rattle.std.specs.Prelude.{Bool, List, [], ◌∷◌, ℕ, zero, suc, ◌/◌, ◌%◌, eqb}

unfoldable pub marks_of : ℕ → ℕ → List Bool
marks_of w zero = []
marks_of w (suc n) = eqb (w % 2) 1 ∷ marks_of (w / 2) n
