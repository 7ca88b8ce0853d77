-- The bytes of two doubled blocks, computed: case H of document 01, and two nested loops with a local in each. Assumes nothing.
use mathlib.Core.Path.{◌≡◌, refl}
use mathlib.Core.Bool.{true}
use mathlib.Core.List.{List, [], ◌∷◌, ◌++◌}
use Prim.Native.Nat.{ℕ}
use lib.ListN.{length}
use Rattle.sets.specs.Numbers.{listed}
use Rattle.rules.specs.Statements.{Stmt, pause, emit, present?◌then◌else◌, ◌⨾◌, loop, local, pauses}
use Rattle.tables.specs.Table.{kind_of, operand_of, statements}
use Rattle.block.specs.Format.{Header, preorder}
use Rattle.tables.specs.Kinds.{shape}
use Rattle.block.specs.Good.{path, nested_traps, nested_locals, locals}
use Rattle.records.specs.Numerals.{in_bytes}
use Rattle.writing.specs.Written.{shaped_bytes, records, header_bytes, block_bytes}
use Rattle.doubled.specs.Copies.{copies, renamed, doubled, doubled_header, within_limits}

-- H: O is 0, N is 1, S is 2. loop local S: (present S then emit O else emit N); pause; emit S.
H : Stmt
H = loop (local 2 ((present? 2 then emit 0 else emit 1) ⨾ pause 0 ⨾ emit 2))

H_header : Header
H_header = record { version = 3; inputs = 0; outputs = 2; locals = 1 }

-- A local's record and its body's: sequence, present S, emit O, emit N, sequence, pause, emit S.
body_of_H : ℕ → List ℕ
body_of_H s =
    6 ∷ 0 ∷ 26 ∷ 0 ∷ s ∷ 0 ∷ 4 ∷ 0 ∷ 21 ∷ 0 ∷ 6 ∷ 0 ∷ 19 ∷ 0 ∷ s ∷ 0 ∷ 6 ∷ 0 ∷ 18 ∷ 0 ∷ 0 ∷ 0 ∷ 6 ∷ 0 ∷ 18 ∷ 0 ∷ 1 ∷ 0
    ∷ 4 ∷ 0 ∷ 21 ∷ 0 ∷ 4 ∷ 0 ∷ 17 ∷ 0 ∷ 6 ∷ 0 ∷ 18 ∷ 0 ∷ s ∷ 0 ∷ []

-- Header with two locals; loop; sequence; the body with S as 2; the body with S as 3.
H_doubled : block_bytes (doubled_header H_header H) (doubled H_header H)
    ≡ (14 ∷ 0 ∷ 1 ∷ 0 ∷ 1 ∷ 0 ∷ 3 ∷ 0 ∷ 0 ∷ 0 ∷ 2 ∷ 0 ∷ 2 ∷ 0 ∷ 4 ∷ 0 ∷ 22 ∷ 0 ∷ 4 ∷ 0 ∷ 21 ∷ 0 ∷ []) ++ body_of_H 2 ++ body_of_H 3
unfolding H H_header body_of_H copies renamed doubled doubled_header locals pauses block_bytes header_bytes records shaped_bytes in_bytes shape listed preorder kind_of operand_of
H_doubled = refl

H_pauses : pauses (doubled H_header H) ≡ 0 ∷ 1 ∷ []
unfolding H H_header copies renamed doubled locals pauses
H_pauses = refl

H_within : within_limits (doubled_header H_header H) (doubled H_header H) ≡ true
unfolding H H_header copies renamed doubled doubled_header within_limits locals pauses statements path nested_traps nested_locals
H_within = refl

-- Two nested loops, a local in each: loop local 0: (emit 0; loop local 1: (emit 1; pause)). The inner body stands four times, and each
-- inner local is numbered after the outer one around it.
nested : Stmt
nested = loop (local 0 (emit 0 ⨾ loop (local 1 (emit 1 ⨾ pause 0))))

nested_header : Header
nested_header = record { version = 0; inputs = 0; outputs = 0; locals = 2 }

-- A local's record, a sequence, an emit of it and a pause.
inner : ℕ → List ℕ
inner s = 6 ∷ 0 ∷ 26 ∷ 0 ∷ s ∷ 0 ∷ 4 ∷ 0 ∷ 21 ∷ 0 ∷ 6 ∷ 0 ∷ 18 ∷ 0 ∷ s ∷ 0 ∷ 4 ∷ 0 ∷ 17 ∷ 0 ∷ []

-- A local's record, a sequence, an emit of it, the inner loop and its sequence.
outer : ℕ → List ℕ
outer s = 6 ∷ 0 ∷ 26 ∷ 0 ∷ s ∷ 0 ∷ 4 ∷ 0 ∷ 21 ∷ 0 ∷ 6 ∷ 0 ∷ 18 ∷ 0 ∷ s ∷ 0 ∷ 4 ∷ 0 ∷ 22 ∷ 0 ∷ 4 ∷ 0 ∷ 21 ∷ 0 ∷ []

nested_doubled : block_bytes (doubled_header nested_header nested) (doubled nested_header nested)
    ≡ (14 ∷ 0 ∷ 1 ∷ 0 ∷ 1 ∷ 0 ∷ 0 ∷ 0 ∷ 0 ∷ 0 ∷ 0 ∷ 0 ∷ 6 ∷ 0 ∷ 4 ∷ 0 ∷ 22 ∷ 0 ∷ 4 ∷ 0 ∷ 21 ∷ 0 ∷ [])
    ++ outer 0 ++ inner 1 ++ inner 2 ++ outer 3 ++ inner 4 ++ inner 5
unfolding nested nested_header inner outer copies renamed doubled doubled_header locals pauses block_bytes header_bytes records shaped_bytes in_bytes shape listed preorder kind_of operand_of
nested_doubled = refl
