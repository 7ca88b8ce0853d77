-- The bytes of small blocks, computed: the run program's block of document 01, and one with a local, a trap and an exit.
-- Assumes nothing.
use mathlib.Core.Path.{◌≡◌, refl}
use mathlib.Core.List.{[], ◌∷◌}
use Rattle.sets.specs.Numbers.{listed}
use Rattle.rules.specs.Statements.{depth, pause, emit, suspend◌on◌, ◌⨾◌, trap, exit, local}
use Rattle.tables.specs.Table.{kind_of, operand_of}
use Rattle.block.specs.Format.{preorder}
use Rattle.tables.specs.Kinds.{shape}
use Rattle.records.specs.Numerals.{in_bytes}
use Rattle.writing.specs.Written.{shaped_bytes, records, header_bytes, block_bytes}

run : block_bytes (record { version = 7; inputs = 1; outputs = 1; locals = 0 }) (suspend (pause 0 ⨾ emit 1) on 0)
    ≡ 14 ∷ 0 ∷ 1 ∷ 0 ∷ 1 ∷ 0 ∷ 7 ∷ 0 ∷ 1 ∷ 0 ∷ 1 ∷ 0 ∷ 0 ∷ 0 ∷ 6 ∷ 0 ∷ 20 ∷ 0 ∷ 0 ∷ 0 ∷ 4 ∷ 0 ∷ 21 ∷ 0 ∷ 4 ∷ 0 ∷ 17 ∷ 0 ∷ 6 ∷ 0 ∷ 18 ∷ 0 ∷ 1 ∷ 0 ∷ []
unfolding block_bytes header_bytes records shaped_bytes in_bytes shape listed preorder kind_of operand_of
run = refl

-- A version of 300 takes both of its bytes.
nested : block_bytes (record { version = 300; inputs = 0; outputs = 1; locals = 1 }) (local 1 (emit 1 ⨾ trap (exit (depth 0))))
    ≡ 14 ∷ 0 ∷ 1 ∷ 0 ∷ 1 ∷ 0 ∷ 44 ∷ 1 ∷ 0 ∷ 0 ∷ 1 ∷ 0 ∷ 1 ∷ 0 ∷ 6 ∷ 0 ∷ 26 ∷ 0 ∷ 1 ∷ 0 ∷ 4 ∷ 0 ∷ 21 ∷ 0 ∷ 6 ∷ 0 ∷ 18 ∷ 0 ∷ 1 ∷ 0 ∷ 4 ∷ 0 ∷ 24 ∷ 0 ∷ 6 ∷ 0 ∷ 25 ∷ 0 ∷ 0 ∷ 0 ∷ []
unfolding block_bytes header_bytes records shaped_bytes in_bytes shape listed preorder kind_of operand_of
nested = refl
