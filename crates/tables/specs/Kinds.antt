-- The kinds of a statement's record, of "The block file" in document 01. Assumes nothing.
use Rattle.std.specs.Prelude.{cond, [], ◌∷◌, ℕ, Option, Some, None}
use Rattle.sets.specs.Numbers.{listed}
-- What a record of a kind has: its length, how many operands, and how many children its statement has.
use Rattle.tables.specs.declared.kinds.Shape.{Shape}

-- Length 4, no operand; length 6, one operand.
abbrev pub short : ℕ → Option Shape
short n = Some (record { length = 4; operands = 0; children = n })

abbrev pub long : ℕ → Option Shape
long n = Some (record { length = 6; operands = 1; children = n })

-- Length 4, no operand: 16 nothing, 17 pause (no child); 22 loop, 24 trap (one); 21 sequence, 23 parallel (two). Length 6,
-- operand a signal: 18 emit (no child); 20 suspend, 26 local (one); 19 present (two). Length 6, operand a depth: 25 exit (no
-- child). No other kind is allowed.
unfoldable pub shape : ℕ → Option Shape
shape k =
    cond (listed (16 ∷ 17 ∷ []) k) (short 0)
    (cond (listed (22 ∷ 24 ∷ []) k) (short 1)
    (cond (listed (21 ∷ 23 ∷ []) k) (short 2)
    (cond (listed (18 ∷ 25 ∷ []) k) (long 0)
    (cond (listed (20 ∷ 26 ∷ []) k) (long 1)
    (cond (listed (19 ∷ []) k) (long 2)
    None)))))

-- Edition 2 has four kinds more: 32 halt (length 4, no child), 33 sustain, 34 await (length 6, operand a signal, no child) and 35 abort (length 6, operand a
-- signal, one child).
unfoldable pub wide_shape : ℕ → Option Shape
wide_shape k =
    cond (listed (32 ∷ []) k) (short 0)
    (cond (listed (33 ∷ 34 ∷ []) k) (long 0)
    (cond (listed (35 ∷ []) k) (long 1)
    (shape k)))

-- A number of a kind's shape; a kind that is not allowed has none, and 0 is no record's length.
abbrev pub of_shape : (Shape → ℕ) → Option Shape → ℕ
of_shape f None = 0
of_shape f (Some s) = f s

unfoldable pub length_of : ℕ → ℕ
unfolding shape
length_of k = of_shape (λ s. s.length) (shape k)

unfoldable pub operands_of : ℕ → ℕ
unfolding shape
operands_of k = of_shape (λ s. s.operands) (shape k)

unfoldable pub children_of : ℕ → ℕ
unfolding shape
children_of k = of_shape (λ s. s.children) (shape k)
