-- The reading computed on small blocks: the run program's block, and a refusal of each number.
use mathlib.Core.Path.{◌≡◌, refl}
use mathlib.Core.List.{List, [], ◌∷◌, ◌++◌}
use Prim.Native.Nat.{ℕ}
use Rattle.sets.specs.Numbers.{listed, lowest, some_to, maxima, downs}
use Rattle.rules.specs.Statements.{depth, code, pause, emit, suspend◌on◌, ◌⨾◌, trap, exit, local}
use Rattle.rules.specs.Loops.{codes_of}
use Rattle.tables.specs.Table.{kind_of, statements}
use Rattle.block.specs.Format.{good, turned_down, reading, is_broken, header, header_fault, over_limit, wrong_signal, wrong_exit}
use Rattle.tables.specs.Kinds.{shape, length_of, children_of}
use Rattle.block.specs.Format.{statement_fault, past, inside, leaf, above, joined, read, preorder, bytes, offset, loops_checked, ended}
use Rattle.tables.specs.Codes.{endless, lowest_endless}

abbrev head : ℕ → ℕ → ℕ → List ℕ
head i o l = 14 ∷ 0 ∷ 1 ∷ 0 ∷ 1 ∷ 0 ∷ 7 ∷ 0 ∷ i ∷ 0 ∷ o ∷ 0 ∷ l ∷ 0 ∷ []

abbrev short : ℕ → List ℕ
short k = 4 ∷ 0 ∷ k ∷ 0 ∷ []

abbrev long : ℕ → ℕ → List ℕ
long k x = 6 ∷ 0 ∷ k ∷ 0 ∷ x ∷ 0 ∷ []

run : reading (head 1 1 0 ++ long 20 0 ++ short 21 ++ short 17 ++ long 18 1)
    ≡ good (record {
      header = record { version = 7; inputs = 1; outputs = 1; locals = 0 };
      body = suspend (pause 0 ⨾ emit 1) on 0;
      statements = 4;
      pauses = 1;
    })
unfolding reading is_broken header header_fault shape length_of children_of over_limit wrong_signal wrong_exit statement_fault past inside leaf above joined
    read preorder bytes offset endless lowest_endless loops_checked ended listed lowest some_to maxima downs codes_of code kind_of statements
run = refl

inner : reading (head 0 0 0 ++ short 22 ++ short 22 ++ short 16) ≡ turned_down 8 18
unfolding reading is_broken header header_fault shape length_of children_of over_limit wrong_signal wrong_exit statement_fault past inside leaf above joined
    read preorder bytes offset endless lowest_endless loops_checked ended listed lowest some_to maxima downs codes_of code kind_of statements
inner = refl

locals : reading (head 0 1 1 ++ long 26 1 ++ short 21 ++ long 18 1 ++ short 24 ++ long 25 0)
    ≡ good (record {
      header = record { version = 7; inputs = 0; outputs = 1; locals = 1 };
      body = local 1 (emit 1 ⨾ trap (exit (depth 0)));
      statements = 5;
      pauses = 0;
    })
unfolding reading is_broken header header_fault shape length_of children_of over_limit wrong_signal wrong_exit statement_fault past inside leaf above joined
    read preorder bytes offset endless lowest_endless loops_checked ended listed lowest some_to maxima downs codes_of code kind_of statements
locals = refl
