-- Worked texts, computed: what stands for a block with its bytes, and what is refused with its place. Assumes nothing.
use mathlib.Core.Path.{◌≡◌, refl}
use mathlib.Core.List.{List, [], ◌∷◌, map}
use Prim.Native.Nat.{ℕ}
use Rattle.sets.specs.Numbers.{listed, lowest, some_to, maxima, down, downs}
use Rattle.rules.specs.Loops.{codes_of}
use Rattle.tables.specs.Table.{kind_of, statements}
use Rattle.block.specs.Format.{reading, is_broken, header, header_fault, over_limit, wrong_signal, wrong_exit, statement_fault, past, inside}
use Rattle.tables.specs.Kinds.{shape, length_of, children_of}
use Rattle.block.specs.Format.{leaf, above, joined, read, preorder, bytes, offset, loops_checked, ended}
use Rattle.tables.specs.Codes.{endless, lowest_endless}
use Rattle.records.specs.Numerals.{in_bytes}
use Rattle.writing.specs.Written.{shaped_bytes, header_bytes}
use Rattle.writing.specs.Answers.{Writing, writes, refuses}
use Rattle.text.specs.Tokens.{same, keyword_from, all_digits, value_from, is_number, no_keyword, word_or, word_token, word_of, placed}
use Rattle.text.specs.Meaning.{signal_in, depth_in, declared}
use Rattle.text.specs.Machine.{declared_by, popped, operand_set, due_step, closed, after_step, by_sign, by_name, step, complete}
use Rattle.text.specs.Reader.{body_step, heading_sign, heading_name, heading_number, heading_step, read_step, finish, places, too_deep, read_placed, block_of, owed, text_read}

-- A text and what it gets.
record Worked : Type 0 where
  text : List ℕ
  gets : Writing

abbrev worked : List ℕ → Writing → Worked
worked t w = record { text = t; gets = w }

-- The run program's block of document 01, as it is written.
--     version 7; input I0; output O1; suspend   pause;   emit O1 when I0
abbrev run_program : Worked
run_program =
    worked (118 ∷ 101 ∷ 114 ∷ 115 ∷ 105 ∷ 111 ∷ 110 ∷ 32 ∷ 55 ∷ 59 ∷ 10 ∷ 105 ∷ 110 ∷ 112 ∷ 117 ∷ 116 ∷ 32 ∷ 73 ∷ 48 ∷ 59 ∷ 10 ∷ 111 ∷ 117 ∷ 116 ∷ 112 ∷ 117 ∷ 116
    ∷ 32 ∷ 79 ∷ 49 ∷ 59 ∷ 10 ∷ 115 ∷ 117 ∷ 115 ∷ 112 ∷ 101 ∷ 110 ∷ 100 ∷ 10 ∷ 32 ∷ 32 ∷ 112 ∷ 97 ∷ 117 ∷ 115 ∷ 101 ∷ 59 ∷ 10 ∷ 32 ∷ 32 ∷ 101 ∷ 109 ∷ 105 ∷
    116 ∷ 32 ∷ 79 ∷ 49 ∷ 10 ∷ 119 ∷ 104 ∷ 101 ∷ 110 ∷ 32 ∷ 73 ∷ 48 ∷ 10 ∷ [])
    (writes (14 ∷ 0 ∷ 1 ∷ 0 ∷ 1 ∷ 0 ∷ 7 ∷ 0 ∷ 1 ∷ 0 ∷ 1 ∷ 0 ∷ 0 ∷ 0 ∷ 6 ∷ 0 ∷ 20 ∷ 0 ∷ 0 ∷ 0 ∷ 4 ∷ 0 ∷ 21 ∷ 0 ∷ 4 ∷ 0 ∷ 17 ∷ 0 ∷ 6 ∷ 0 ∷ 18 ∷ 0 ∷ 1 ∷ 0 ∷
    []))

-- `;` binds tighter than `||`, both to the right.
--     version 1;output A;nothing;pause;emit A||pause||nothing
abbrev binding : Worked
binding =
    worked (118 ∷ 101 ∷ 114 ∷ 115 ∷ 105 ∷ 111 ∷ 110 ∷ 32 ∷ 49 ∷ 59 ∷ 111 ∷ 117 ∷ 116 ∷ 112 ∷ 117 ∷ 116 ∷ 32 ∷ 65 ∷ 59 ∷ 110 ∷ 111 ∷ 116 ∷ 104 ∷ 105 ∷ 110 ∷ 103 ∷
    59 ∷ 112 ∷ 97 ∷ 117 ∷ 115 ∷ 101 ∷ 59 ∷ 101 ∷ 109 ∷ 105 ∷ 116 ∷ 32 ∷ 65 ∷ 124 ∷ 124 ∷ 112 ∷ 97 ∷ 117 ∷ 115 ∷ 101 ∷ 124 ∷ 124 ∷ 110 ∷ 111 ∷ 116 ∷ 104 ∷
    105 ∷ 110 ∷ 103 ∷ [])
    (writes (14 ∷ 0 ∷ 1 ∷ 0 ∷ 1 ∷ 0 ∷ 1 ∷ 0 ∷ 0 ∷ 0 ∷ 1 ∷ 0 ∷ 0 ∷ 0 ∷ 4 ∷ 0 ∷ 23 ∷ 0 ∷ 4 ∷ 0 ∷ 21 ∷ 0 ∷ 4 ∷ 0 ∷ 16 ∷ 0 ∷ 4 ∷ 0 ∷ 21 ∷ 0 ∷ 4 ∷ 0 ∷ 17 ∷ 0 ∷
    6 ∷ 0 ∷ 18 ∷ 0 ∷ 0 ∷ 0 ∷ 4 ∷ 0 ∷ 23 ∷ 0 ∷ 4 ∷ 0 ∷ 17 ∷ 0 ∷ 4 ∷ 0 ∷ 16 ∷ 0 ∷ []))

-- Brackets hold what they hold.
--     version 1;[[nothing||pause];pause]
abbrev brackets : Worked
brackets =
    worked (118 ∷ 101 ∷ 114 ∷ 115 ∷ 105 ∷ 111 ∷ 110 ∷ 32 ∷ 49 ∷ 59 ∷ 91 ∷ 91 ∷ 110 ∷ 111 ∷ 116 ∷ 104 ∷ 105 ∷ 110 ∷ 103 ∷ 124 ∷ 124 ∷ 112 ∷ 97 ∷ 117 ∷ 115 ∷ 101 ∷
    93 ∷ 59 ∷ 112 ∷ 97 ∷ 117 ∷ 115 ∷ 101 ∷ 93 ∷ [])
    (writes (14 ∷ 0 ∷ 1 ∷ 0 ∷ 1 ∷ 0 ∷ 1 ∷ 0 ∷ 0 ∷ 0 ∷ 0 ∷ 0 ∷ 0 ∷ 0 ∷ 4 ∷ 0 ∷ 21 ∷ 0 ∷ 4 ∷ 0 ∷ 23 ∷ 0 ∷ 4 ∷ 0 ∷ 16 ∷ 0 ∷ 4 ∷ 0 ∷ 17 ∷ 0 ∷ 4 ∷ 0 ∷ 17 ∷ 0 ∷
    []))

-- An exit passes over the traps between it and its own; locals are numbered on.
--     version 65535;input A;trap T in signal S in trap U in present S then exit T else exit U end end end end
abbrev depths : Worked
depths =
    worked (118 ∷ 101 ∷ 114 ∷ 115 ∷ 105 ∷ 111 ∷ 110 ∷ 32 ∷ 54 ∷ 53 ∷ 53 ∷ 51 ∷ 53 ∷ 59 ∷ 105 ∷ 110 ∷ 112 ∷ 117 ∷ 116 ∷ 32 ∷ 65 ∷ 59 ∷ 116 ∷ 114 ∷ 97 ∷ 112 ∷ 32 ∷
    84 ∷ 32 ∷ 105 ∷ 110 ∷ 32 ∷ 115 ∷ 105 ∷ 103 ∷ 110 ∷ 97 ∷ 108 ∷ 32 ∷ 83 ∷ 32 ∷ 105 ∷ 110 ∷ 32 ∷ 116 ∷ 114 ∷ 97 ∷ 112 ∷ 32 ∷ 85 ∷ 32 ∷ 105 ∷ 110 ∷ 32 ∷
    112 ∷ 114 ∷ 101 ∷ 115 ∷ 101 ∷ 110 ∷ 116 ∷ 32 ∷ 83 ∷ 32 ∷ 116 ∷ 104 ∷ 101 ∷ 110 ∷ 32 ∷ 101 ∷ 120 ∷ 105 ∷ 116 ∷ 32 ∷ 84 ∷ 32 ∷ 101 ∷ 108 ∷ 115 ∷ 101 ∷
    32 ∷ 101 ∷ 120 ∷ 105 ∷ 116 ∷ 32 ∷ 85 ∷ 32 ∷ 101 ∷ 110 ∷ 100 ∷ 32 ∷ 101 ∷ 110 ∷ 100 ∷ 32 ∷ 101 ∷ 110 ∷ 100 ∷ 32 ∷ 101 ∷ 110 ∷ 100 ∷ [])
    (writes (14 ∷ 0 ∷ 1 ∷ 0 ∷ 1 ∷ 0 ∷ 255 ∷ 255 ∷ 1 ∷ 0 ∷ 0 ∷ 0 ∷ 1 ∷ 0 ∷ 4 ∷ 0 ∷ 24 ∷ 0 ∷ 6 ∷ 0 ∷ 26 ∷ 0 ∷ 1 ∷ 0 ∷ 4 ∷ 0 ∷ 24 ∷ 0 ∷ 6 ∷ 0 ∷ 19 ∷ 0 ∷ 1 ∷ 0
    ∷ 6 ∷ 0 ∷ 25 ∷ 0 ∷ 1 ∷ 0 ∷ 6 ∷ 0 ∷ 25 ∷ 0 ∷ 0 ∷ 0 ∷ []))

-- A name may be used again beside its scope.
--     version 0; loop pause end; signal S in emit S end; signal S in emit S end
abbrev side_by_side : Worked
side_by_side =
    worked (118 ∷ 101 ∷ 114 ∷ 115 ∷ 105 ∷ 111 ∷ 110 ∷ 32 ∷ 48 ∷ 59 ∷ 32 ∷ 108 ∷ 111 ∷ 111 ∷ 112 ∷ 32 ∷ 112 ∷ 97 ∷ 117 ∷ 115 ∷ 101 ∷ 32 ∷ 101 ∷ 110 ∷ 100 ∷ 59 ∷ 32
    ∷ 115 ∷ 105 ∷ 103 ∷ 110 ∷ 97 ∷ 108 ∷ 32 ∷ 83 ∷ 32 ∷ 105 ∷ 110 ∷ 32 ∷ 101 ∷ 109 ∷ 105 ∷ 116 ∷ 32 ∷ 83 ∷ 32 ∷ 101 ∷ 110 ∷ 100 ∷ 59 ∷ 32 ∷ 115 ∷ 105 ∷
    103 ∷ 110 ∷ 97 ∷ 108 ∷ 32 ∷ 83 ∷ 32 ∷ 105 ∷ 110 ∷ 32 ∷ 101 ∷ 109 ∷ 105 ∷ 116 ∷ 32 ∷ 83 ∷ 32 ∷ 101 ∷ 110 ∷ 100 ∷ [])
    (writes (14 ∷ 0 ∷ 1 ∷ 0 ∷ 1 ∷ 0 ∷ 0 ∷ 0 ∷ 0 ∷ 0 ∷ 0 ∷ 0 ∷ 2 ∷ 0 ∷ 4 ∷ 0 ∷ 21 ∷ 0 ∷ 4 ∷ 0 ∷ 22 ∷ 0 ∷ 4 ∷ 0 ∷ 17 ∷ 0 ∷ 4 ∷ 0 ∷ 21 ∷ 0 ∷ 6 ∷ 0 ∷ 26 ∷ 0 ∷
    0 ∷ 0 ∷ 6 ∷ 0 ∷ 18 ∷ 0 ∷ 0 ∷ 0 ∷ 6 ∷ 0 ∷ 26 ∷ 0 ∷ 1 ∷ 0 ∷ 6 ∷ 0 ∷ 18 ∷ 0 ∷ 1 ∷ 0 ∷ []))

-- No token at all: at the end of the text.
--
abbrev no_text : Worked
no_text =
    worked (32 ∷ 32 ∷ [])
    (refuses 15 2)

-- A name that is not declared.
--     version 1; emit A
abbrev undeclared : Worked
undeclared =
    worked (118 ∷ 101 ∷ 114 ∷ 115 ∷ 105 ∷ 111 ∷ 110 ∷ 32 ∷ 49 ∷ 59 ∷ 32 ∷ 101 ∷ 109 ∷ 105 ∷ 116 ∷ 32 ∷ 65 ∷ [])
    (refuses 15 16)

-- A trap's name where a signal's is due.
--     version 1; trap T in emit T end
abbrev wrong_sort : Worked
wrong_sort =
    worked (118 ∷ 101 ∷ 114 ∷ 115 ∷ 105 ∷ 111 ∷ 110 ∷ 32 ∷ 49 ∷ 59 ∷ 32 ∷ 116 ∷ 114 ∷ 97 ∷ 112 ∷ 32 ∷ 84 ∷ 32 ∷ 105 ∷ 110 ∷ 32 ∷ 101 ∷ 109 ∷ 105 ∷ 116 ∷ 32 ∷ 84 ∷
    32 ∷ 101 ∷ 110 ∷ 100 ∷ [])
    (refuses 15 26)

-- A name declared again in its scope.
--     version 1; input A, A; nothing
abbrev again : Worked
again =
    worked (118 ∷ 101 ∷ 114 ∷ 115 ∷ 105 ∷ 111 ∷ 110 ∷ 32 ∷ 49 ∷ 59 ∷ 32 ∷ 105 ∷ 110 ∷ 112 ∷ 117 ∷ 116 ∷ 32 ∷ 65 ∷ 44 ∷ 32 ∷ 65 ∷ 59 ∷ 32 ∷ 110 ∷ 111 ∷ 116 ∷ 104 ∷
    105 ∷ 110 ∷ 103 ∷ [])
    (refuses 15 20)

-- And inside, also by a trap.
--     version 1; input A; trap A in nothing end
abbrev again_inside : Worked
again_inside =
    worked (118 ∷ 101 ∷ 114 ∷ 115 ∷ 105 ∷ 111 ∷ 110 ∷ 32 ∷ 49 ∷ 59 ∷ 32 ∷ 105 ∷ 110 ∷ 112 ∷ 117 ∷ 116 ∷ 32 ∷ 65 ∷ 59 ∷ 32 ∷ 116 ∷ 114 ∷ 97 ∷ 112 ∷ 32 ∷ 65 ∷ 32 ∷
    105 ∷ 110 ∷ 32 ∷ 110 ∷ 111 ∷ 116 ∷ 104 ∷ 105 ∷ 110 ∷ 103 ∷ 32 ∷ 101 ∷ 110 ∷ 100 ∷ [])
    (refuses 15 25)

-- `else` may not be left out.
--     version 1; input A; present A then nothing end
abbrev no_else : Worked
no_else =
    worked (118 ∷ 101 ∷ 114 ∷ 115 ∷ 105 ∷ 111 ∷ 110 ∷ 32 ∷ 49 ∷ 59 ∷ 32 ∷ 105 ∷ 110 ∷ 112 ∷ 117 ∷ 116 ∷ 32 ∷ 65 ∷ 59 ∷ 32 ∷ 112 ∷ 114 ∷ 101 ∷ 115 ∷ 101 ∷ 110 ∷
    116 ∷ 32 ∷ 65 ∷ 32 ∷ 116 ∷ 104 ∷ 101 ∷ 110 ∷ 32 ∷ 110 ∷ 111 ∷ 116 ∷ 104 ∷ 105 ∷ 110 ∷ 103 ∷ 32 ∷ 101 ∷ 110 ∷ 100 ∷ [])
    (refuses 15 43)

-- One bar is no token.
--     version 1; nothing | nothing
abbrev one_bar : Worked
one_bar =
    worked (118 ∷ 101 ∷ 114 ∷ 115 ∷ 105 ∷ 111 ∷ 110 ∷ 32 ∷ 49 ∷ 59 ∷ 32 ∷ 110 ∷ 111 ∷ 116 ∷ 104 ∷ 105 ∷ 110 ∷ 103 ∷ 32 ∷ 124 ∷ 32 ∷ 110 ∷ 111 ∷ 116 ∷ 104 ∷ 105 ∷
    110 ∷ 103 ∷ [])
    (refuses 15 19)

-- A keyword is no name.
--     version 1; input end; nothing
abbrev keyword : Worked
keyword =
    worked (118 ∷ 101 ∷ 114 ∷ 115 ∷ 105 ∷ 111 ∷ 110 ∷ 32 ∷ 49 ∷ 59 ∷ 32 ∷ 105 ∷ 110 ∷ 112 ∷ 117 ∷ 116 ∷ 32 ∷ 101 ∷ 110 ∷ 100 ∷ 59 ∷ 32 ∷ 110 ∷ 111 ∷ 116 ∷ 104 ∷
    105 ∷ 110 ∷ 103 ∷ [])
    (refuses 15 17)

-- Seventeen letters.
--     version 1; input ABCDEFGHIJKLMNOPQ; nothing
abbrev long_name : Worked
long_name =
    worked (118 ∷ 101 ∷ 114 ∷ 115 ∷ 105 ∷ 111 ∷ 110 ∷ 32 ∷ 49 ∷ 59 ∷ 32 ∷ 105 ∷ 110 ∷ 112 ∷ 117 ∷ 116 ∷ 32 ∷ 65 ∷ 66 ∷ 67 ∷ 68 ∷ 69 ∷ 70 ∷ 71 ∷ 72 ∷ 73 ∷ 74 ∷ 75
    ∷ 76 ∷ 77 ∷ 78 ∷ 79 ∷ 80 ∷ 81 ∷ 59 ∷ 32 ∷ 110 ∷ 111 ∷ 116 ∷ 104 ∷ 105 ∷ 110 ∷ 103 ∷ [])
    (refuses 15 17)

-- 65,536 is no number.
--     version 65536; nothing
abbrev large_version : Worked
large_version =
    worked (118 ∷ 101 ∷ 114 ∷ 115 ∷ 105 ∷ 111 ∷ 110 ∷ 32 ∷ 54 ∷ 53 ∷ 53 ∷ 51 ∷ 54 ∷ 59 ∷ 32 ∷ 110 ∷ 111 ∷ 116 ∷ 104 ∷ 105 ∷ 110 ∷ 103 ∷ [])
    (refuses 15 8)

-- The text ends too early: its length.
--     version 1; [ nothing
abbrev unclosed : Worked
unclosed =
    worked (118 ∷ 101 ∷ 114 ∷ 115 ∷ 105 ∷ 111 ∷ 110 ∷ 32 ∷ 49 ∷ 59 ∷ 32 ∷ 91 ∷ 32 ∷ 110 ∷ 111 ∷ 116 ∷ 104 ∷ 105 ∷ 110 ∷ 103 ∷ [])
    (refuses 15 20)

-- Behind the end.
--     version 1; nothing end
abbrev closed_twice : Worked
closed_twice =
    worked (118 ∷ 101 ∷ 114 ∷ 115 ∷ 105 ∷ 111 ∷ 110 ∷ 32 ∷ 49 ∷ 59 ∷ 32 ∷ 110 ∷ 111 ∷ 116 ∷ 104 ∷ 105 ∷ 110 ∷ 103 ∷ 32 ∷ 101 ∷ 110 ∷ 100 ∷ [])
    (refuses 15 19)

-- In the grammar, names in order; then 5 on the block.
--     version 1; input A; emit A
abbrev emit_of_input : Worked
emit_of_input =
    worked (118 ∷ 101 ∷ 114 ∷ 115 ∷ 105 ∷ 111 ∷ 110 ∷ 32 ∷ 49 ∷ 59 ∷ 32 ∷ 105 ∷ 110 ∷ 112 ∷ 117 ∷ 116 ∷ 32 ∷ 65 ∷ 59 ∷ 32 ∷ 101 ∷ 109 ∷ 105 ∷ 116 ∷ 32 ∷ 65 ∷ [])
    (refuses 5 14)

-- And 8.
--     version 1; loop nothing end
abbrev empty_loop : Worked
empty_loop =
    worked (118 ∷ 101 ∷ 114 ∷ 115 ∷ 105 ∷ 111 ∷ 110 ∷ 32 ∷ 49 ∷ 59 ∷ 32 ∷ 108 ∷ 111 ∷ 111 ∷ 112 ∷ 32 ∷ 110 ∷ 111 ∷ 116 ∷ 104 ∷ 105 ∷ 110 ∷ 103 ∷ 32 ∷ 101 ∷ 110 ∷
    100 ∷ [])
    (refuses 8 14)

abbrev table : List Worked
table =
    run_program ∷ binding ∷ brackets ∷ depths ∷ side_by_side ∷ no_text ∷ undeclared ∷ wrong_sort ∷ again ∷ again_inside ∷ no_else ∷ one_bar ∷ keyword ∷
    long_name ∷ large_version ∷ unclosed ∷ closed_twice ∷ emit_of_input ∷ empty_loop ∷ []

all_worked : map (λ (w : Worked). text_read w.text) table ≡ map (λ (w : Worked). w.gets) table
unfolding text_read owed block_of read_placed too_deep places finish read_step heading_step heading_number heading_name heading_sign body_step complete step by_name by_sign
    after_step closed due_step operand_set popped declared_by declared depth_in signal_in placed word_of word_token word_or no_keyword is_number value_from all_digits keyword_from same
    header_bytes shaped_bytes in_bytes reading is_broken header header_fault shape length_of children_of over_limit wrong_signal wrong_exit statement_fault past inside leaf above joined
    read preorder bytes offset endless lowest_endless loops_checked ended kind_of statements codes_of listed lowest some_to maxima down downs
all_worked = refl
