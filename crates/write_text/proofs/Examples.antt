-- Worked texts, computed from the definitions: what is written for three blocks. Assumes nothing.
use mathlib.Core.Path.{◌≡◌, refl}
use mathlib.Core.List.{List, [], ◌∷◌, map}
use Prim.Native.Nat.{ℕ}
use Rattle.sets.specs.Numbers.{listed, lowest, some_to, maxima, down, downs}
use Rattle.rules.specs.Statements.{from}
use Rattle.rules.specs.Loops.{codes_of}
use Rattle.tables.specs.Table.{kind_of, statements}
use Rattle.block.specs.Format.{reading, is_broken, header, header_fault, over_limit, wrong_signal, wrong_exit, statement_fault, past, inside}
use Rattle.tables.specs.Kinds.{shape, length_of, children_of}
use Rattle.block.specs.Format.{leaf, above, joined, read, preorder, bytes, offset, loops_checked, ended}
use Rattle.tables.specs.Codes.{endless, lowest_endless}
use Rattle.writing.specs.Answers.{writes}
use Rattle.text.specs.Shown.{decimal_in, forms, shown, arms_text, names_text, part_text, text_bytes}
use Rattle.write_text.specs.WriteText.{text_writing_of, text_writing}

-- A block and its text.
record Worked : Type 0 where
  block : List ℕ
  text : List ℕ

-- The run program's block of document 01.
--     version 7;
--     input I0;
--     output O1;
--     suspend
--       pause;
--       emit O1
--     when I0
abbrev run_program : Worked
run_program = record {
  block =
      14 ∷ 0 ∷ 1 ∷ 0 ∷ 1 ∷ 0 ∷ 7 ∷ 0 ∷ 1 ∷ 0 ∷ 1 ∷ 0 ∷ 0 ∷ 0 ∷ 6 ∷ 0 ∷ 20 ∷ 0 ∷ 0 ∷ 0 ∷ 4 ∷ 0 ∷ 21 ∷ 0 ∷ 4 ∷ 0 ∷ 17 ∷ 0 ∷ 6 ∷ 0 ∷ 18 ∷ 0 ∷ 1 ∷ 0 ∷ [];
  text =
      118 ∷ 101 ∷ 114 ∷ 115 ∷ 105 ∷ 111 ∷ 110 ∷ 32 ∷ 55 ∷ 59 ∷ 10 ∷ 105 ∷ 110 ∷ 112 ∷ 117 ∷ 116 ∷ 32 ∷ 73 ∷ 48 ∷ 59 ∷ 10 ∷ 111 ∷ 117 ∷ 116 ∷ 112 ∷ 117 ∷ 116
      ∷ 32 ∷ 79 ∷ 49 ∷ 59 ∷ 10 ∷ 115 ∷ 117 ∷ 115 ∷ 112 ∷ 101 ∷ 110 ∷ 100 ∷ 10 ∷ 32 ∷ 32 ∷ 112 ∷ 97 ∷ 117 ∷ 115 ∷ 101 ∷ 59 ∷ 10 ∷ 32 ∷ 32 ∷ 101 ∷ 109 ∷ 105
      ∷ 116 ∷ 32 ∷ 79 ∷ 49 ∷ 10 ∷ 119 ∷ 104 ∷ 101 ∷ 110 ∷ 32 ∷ 73 ∷ 48 ∷ 10 ∷ [];
}

-- Brackets where the grammar needs them, and nowhere else.
--     version 1;
--     [
--       [
--         nothing
--         ||
--         pause
--       ]
--       ||
--       pause;
--       nothing
--     ];
--     [
--       pause;
--       nothing
--     ];
--     [
--       pause
--       ||
--       nothing
--     ]
abbrev brackets : Worked
brackets = record {
  block =
      14 ∷ 0 ∷ 1 ∷ 0 ∷ 1 ∷ 0 ∷ 1 ∷ 0 ∷ 0 ∷ 0 ∷ 0 ∷ 0 ∷ 0 ∷ 0 ∷ 4 ∷ 0 ∷ 21 ∷ 0 ∷ 4 ∷ 0 ∷ 23 ∷ 0 ∷ 4 ∷ 0 ∷ 23 ∷ 0 ∷ 4 ∷ 0 ∷ 16 ∷ 0 ∷ 4 ∷ 0 ∷ 17 ∷ 0 ∷ 4 ∷ 0
      ∷ 21 ∷ 0 ∷ 4 ∷ 0 ∷ 17 ∷ 0 ∷ 4 ∷ 0 ∷ 16 ∷ 0 ∷ 4 ∷ 0 ∷ 21 ∷ 0 ∷ 4 ∷ 0 ∷ 21 ∷ 0 ∷ 4 ∷ 0 ∷ 17 ∷ 0 ∷ 4 ∷ 0 ∷ 16 ∷ 0 ∷ 4 ∷ 0 ∷ 23 ∷ 0 ∷ 4 ∷ 0 ∷ 17 ∷ 0 ∷ 4 ∷ 0
      ∷ 16 ∷ 0 ∷ [];
  text =
      118 ∷ 101 ∷ 114 ∷ 115 ∷ 105 ∷ 111 ∷ 110 ∷ 32 ∷ 49 ∷ 59 ∷ 10 ∷ 91 ∷ 10 ∷ 32 ∷ 32 ∷ 91 ∷ 10 ∷ 32 ∷ 32 ∷ 32 ∷ 32 ∷ 110 ∷ 111 ∷ 116 ∷ 104 ∷ 105 ∷ 110
      ∷ 103 ∷ 10 ∷ 32 ∷ 32 ∷ 32 ∷ 32 ∷ 124 ∷ 124 ∷ 10 ∷ 32 ∷ 32 ∷ 32 ∷ 32 ∷ 112 ∷ 97 ∷ 117 ∷ 115 ∷ 101 ∷ 10 ∷ 32 ∷ 32 ∷ 93 ∷ 10 ∷ 32 ∷ 32 ∷ 124 ∷ 124 ∷ 10
      ∷ 32 ∷ 32 ∷ 112 ∷ 97 ∷ 117 ∷ 115 ∷ 101 ∷ 59 ∷ 10 ∷ 32 ∷ 32 ∷ 110 ∷ 111 ∷ 116 ∷ 104 ∷ 105 ∷ 110 ∷ 103 ∷ 10 ∷ 93 ∷ 59 ∷ 10 ∷ 91 ∷ 10 ∷ 32 ∷ 32 ∷ 112 ∷ 97
      ∷ 117 ∷ 115 ∷ 101 ∷ 59 ∷ 10 ∷ 32 ∷ 32 ∷ 110 ∷ 111 ∷ 116 ∷ 104 ∷ 105 ∷ 110 ∷ 103 ∷ 10 ∷ 93 ∷ 59 ∷ 10 ∷ 91 ∷ 10 ∷ 32 ∷ 32 ∷ 112 ∷ 97 ∷ 117 ∷ 115 ∷ 101
      ∷ 10 ∷ 32 ∷ 32 ∷ 124 ∷ 124 ∷ 10 ∷ 32 ∷ 32 ∷ 110 ∷ 111 ∷ 116 ∷ 104 ∷ 105 ∷ 110 ∷ 103 ∷ 10 ∷ 93 ∷ 10 ∷ [];
}

-- Traps by how many stand around them, signals by their numbers.
--     version 65535;
--     input I0;
--     output O1, O2;
--     trap T0 in
--       signal S3 in
--         trap T1 in
--           present S3 then
--             exit T0
--           else
--             emit O2;
--             exit T1
--           end
--         end
--       end
--     end
abbrev names : Worked
names = record {
  block =
      14 ∷ 0 ∷ 1 ∷ 0 ∷ 1 ∷ 0 ∷ 255 ∷ 255 ∷ 1 ∷ 0 ∷ 2 ∷ 0 ∷ 1 ∷ 0 ∷ 4 ∷ 0 ∷ 24 ∷ 0 ∷ 6 ∷ 0 ∷ 26 ∷ 0 ∷ 3 ∷ 0 ∷ 4 ∷ 0 ∷ 24 ∷ 0 ∷ 6 ∷ 0 ∷ 19 ∷ 0 ∷ 3 ∷ 0 ∷ 6 ∷ 0
      ∷ 25 ∷ 0 ∷ 1 ∷ 0 ∷ 4 ∷ 0 ∷ 21 ∷ 0 ∷ 6 ∷ 0 ∷ 18 ∷ 0 ∷ 2 ∷ 0 ∷ 6 ∷ 0 ∷ 25 ∷ 0 ∷ 0 ∷ 0 ∷ [];
  text =
      118 ∷ 101 ∷ 114 ∷ 115 ∷ 105 ∷ 111 ∷ 110 ∷ 32 ∷ 54 ∷ 53 ∷ 53 ∷ 51 ∷ 53 ∷ 59 ∷ 10 ∷ 105 ∷ 110 ∷ 112 ∷ 117 ∷ 116 ∷ 32 ∷ 73 ∷ 48 ∷ 59 ∷ 10 ∷ 111 ∷ 117
      ∷ 116 ∷ 112 ∷ 117 ∷ 116 ∷ 32 ∷ 79 ∷ 49 ∷ 44 ∷ 32 ∷ 79 ∷ 50 ∷ 59 ∷ 10 ∷ 116 ∷ 114 ∷ 97 ∷ 112 ∷ 32 ∷ 84 ∷ 48 ∷ 32 ∷ 105 ∷ 110 ∷ 10 ∷ 32 ∷ 32 ∷ 115 ∷ 105
      ∷ 103 ∷ 110 ∷ 97 ∷ 108 ∷ 32 ∷ 83 ∷ 51 ∷ 32 ∷ 105 ∷ 110 ∷ 10 ∷ 32 ∷ 32 ∷ 32 ∷ 32 ∷ 116 ∷ 114 ∷ 97 ∷ 112 ∷ 32 ∷ 84 ∷ 49 ∷ 32 ∷ 105 ∷ 110 ∷ 10 ∷ 32 ∷ 32
      ∷ 32 ∷ 32 ∷ 32 ∷ 32 ∷ 112 ∷ 114 ∷ 101 ∷ 115 ∷ 101 ∷ 110 ∷ 116 ∷ 32 ∷ 83 ∷ 51 ∷ 32 ∷ 116 ∷ 104 ∷ 101 ∷ 110 ∷ 10 ∷ 32 ∷ 32 ∷ 32 ∷ 32 ∷ 32 ∷ 32 ∷ 32 ∷ 32
      ∷ 101 ∷ 120 ∷ 105 ∷ 116 ∷ 32 ∷ 84 ∷ 48 ∷ 10 ∷ 32 ∷ 32 ∷ 32 ∷ 32 ∷ 32 ∷ 32 ∷ 101 ∷ 108 ∷ 115 ∷ 101 ∷ 10 ∷ 32 ∷ 32 ∷ 32 ∷ 32 ∷ 32 ∷ 32 ∷ 32 ∷ 32 ∷ 101
      ∷ 109 ∷ 105 ∷ 116 ∷ 32 ∷ 79 ∷ 50 ∷ 59 ∷ 10 ∷ 32 ∷ 32 ∷ 32 ∷ 32 ∷ 32 ∷ 32 ∷ 32 ∷ 32 ∷ 101 ∷ 120 ∷ 105 ∷ 116 ∷ 32 ∷ 84 ∷ 49 ∷ 10 ∷ 32 ∷ 32 ∷ 32 ∷ 32 ∷ 32
      ∷ 32 ∷ 101 ∷ 110 ∷ 100 ∷ 10 ∷ 32 ∷ 32 ∷ 32 ∷ 32 ∷ 101 ∷ 110 ∷ 100 ∷ 10 ∷ 32 ∷ 32 ∷ 101 ∷ 110 ∷ 100 ∷ 10 ∷ 101 ∷ 110 ∷ 100 ∷ 10 ∷ [];
}

abbrev table : List Worked
table = run_program ∷ brackets ∷ names ∷ []

all_worked : map (λ (w : Worked). text_writing w.block) table ≡ map (λ (w : Worked). writes w.text) table
unfolding text_writing text_writing_of text_bytes part_text names_text arms_text shown forms decimal_in from reading is_broken header header_fault shape length_of children_of over_limit
    wrong_signal wrong_exit statement_fault past inside leaf above joined read preorder bytes offset endless lowest_endless loops_checked ended kind_of statements codes_of listed lowest
    some_to maxima down downs
all_worked = refl
