-- What is written for small blocks of edition 2, from bytes to bytes, and a refusal of each new kind of cause: computed by the checker. Assumes nothing.
use mathlib.Core.Path.{◌≡◌, refl}
use mathlib.Core.List.{List, [], ◌∷◌, ◌++◌}
use Prim.Native.Nat.{ℕ}
use Rattle.sets.specs.Numbers.{listed, some_to, maxima, downs}
use Rattle.rules.specs.Statements.{code, pauses, preorder, statements}
use Rattle.tables.specs.Table.{kind_of, operand_of}
use Rattle.block.specs.Format.{is_broken, header}
use Rattle.tables.specs.Kinds.{shape}
use Rattle.block.specs.Good.{path, nested_traps, nested_locals}
use Rattle.records.specs.Numerals.{in_bytes}
use Rattle.writing.specs.Written.{shaped_bytes, records, header_bytes, block_bytes}
use Rattle.writing.specs.Answers.{writes, refuses}
use Rattle.doubled.specs.Copies.{within_limits}
use Rattle.everyday.specs.Statements.{is_stop}
use Rattle.everyday.specs.Conversion.{watches, pauses_made, convert, converted}
use Rattle.everyday.specs.Check.{codes₂}
use Rattle.converting.specs.Format.{sort_of, over_limit₂, due, read₂, bytes₂, lowest_endless₂, header_fault₂, reading₂}
use Rattle.converting.specs.Conversions.{converting_tree, converting_of, converting}

-- edition, inputs and outputs; version 7 and no locals
abbrev head : ℕ → ℕ → ℕ → List ℕ
head e i o = 14 ∷ 0 ∷ 1 ∷ 0 ∷ e ∷ 0 ∷ 7 ∷ 0 ∷ i ∷ 0 ∷ o ∷ 0 ∷ 0 ∷ 0 ∷ []

abbrev short : ℕ → List ℕ
short k = 4 ∷ 0 ∷ k ∷ 0 ∷ []

abbrev long : ℕ → ℕ → List ℕ
long k x = 6 ∷ 0 ∷ k ∷ 0 ∷ x ∷ 0 ∷ []

-- loop (pause; present s then exit 0 else nothing)
abbrev watching : ℕ → List ℕ
watching s = short 22 ++ short 21 ++ short 17 ++ long 19 s ++ long 25 0 ++ short 16

-- halt; sustain of output 1 and await of input 0 side by side
the_three : converting (head 2 1 1 ++ short 21 ++ short 23 ++ long 33 1 ++ long 34 0 ++ short 32)
    ≡ writes (head 1 1 1 ++ short 21 ++ short 23 ++ (short 22 ++ short 21 ++ long 18 1 ++ short 17) ++ (short 24 ++ watching 0) ++ (short 22 ++ short 17))
unfolding converting converting_of converting_tree reading₂ header_fault₂ read₂ due sort_of over_limit₂ is_broken header bytes₂ lowest_endless₂ codes₂ code listed some_to maxima downs
    converted convert pauses_made watches is_stop within_limits statements pauses path nested_traps nested_locals block_bytes header_bytes records shaped_bytes in_bytes shape preorder kind_of
    operand_of
the_three = refl

-- trap abort (trap (exit 1 parallel exit 0)) when input 0: the exit that leaves the abort goes one deeper, the inner trap's own does not
deeper_exits : converting (head 2 1 0 ++ short 24 ++ long 35 0 ++ short 24 ++ short 23 ++ long 25 1 ++ long 25 0)
    ≡ writes (head 1 1 0 ++ short 24 ++ short 24 ++ short 23 ++ short 21 ++ long 20 0 ++ (short 24 ++ short 23 ++ long 25 2 ++ long 25 0) ++ long 25 0 ++ watching 0)
unfolding converting converting_of converting_tree reading₂ header_fault₂ read₂ due sort_of over_limit₂ is_broken header bytes₂ lowest_endless₂ codes₂ code listed some_to maxima downs
    converted convert pauses_made watches is_stop within_limits statements pauses path nested_traps nested_locals block_bytes header_bytes records shaped_bytes in_bytes shape preorder kind_of
    operand_of
deeper_exits = refl

-- Refusals: edition 1; sustain of an input; an exit for which the abort would have to be a trap; a loop around an abort of nothing.
edition : converting (head 1 0 0 ++ short 32) ≡ refuses 3 0
unfolding converting converting_of reading₂ header_fault₂ is_broken header
edition = refl

sustain_input : converting (head 2 1 0 ++ long 33 0) ≡ refuses 5 14
unfolding converting converting_of reading₂ header_fault₂ read₂ due sort_of over_limit₂ is_broken header
sustain_input = refl

abort_no_trap : converting (head 2 1 0 ++ long 35 0 ++ long 25 0) ≡ refuses 6 20
unfolding converting converting_of reading₂ header_fault₂ read₂ due sort_of over_limit₂ is_broken header
abort_no_trap = refl

endless : converting (head 2 1 0 ++ short 22 ++ long 35 0 ++ short 16) ≡ refuses 8 14
unfolding converting converting_of reading₂ header_fault₂ read₂ due sort_of over_limit₂ is_broken header bytes₂ lowest_endless₂ codes₂ code some_to maxima downs
endless = refl
