-- The smallest block on a shelf: its entry's bytes, and what both parties are told of it. Assumes nothing.
use mathlib.Core.Path.{◌≡◌, refl}
use mathlib.Core.List.{List, [], ◌∷◌}
use Prim.Native.Nat.{ℕ}
use native.Mathlib.Omega.{arith}
use lib.Dec.{T}
use Rattle.sets.specs.Numbers.{listed, lowest, some_to}
use Rattle.rules.specs.Loops.{codes_of}
use Rattle.tables.specs.Table.{kind_of, statements}
use Rattle.block.specs.Format.{reading, is_broken, header, header_fault, over_limit, wrong_signal, wrong_exit, statement_fault, past}
use Rattle.tables.specs.Kinds.{shape, length_of, children_of}
use Rattle.block.specs.Format.{leaf, read, preorder, loops_checked, ended}
use Rattle.tables.specs.Codes.{endless, lowest_endless}
use Rattle.records.specs.Numerals.{in_bytes}
use Rattle.shelf.specs.Entries.{Entry, entry_bytes, in_use, shelf_of, those, taken, find, is_good, Legal}
use Rattle.shelf.specs.Calls.{install, fetch, withdraw, refused, done, entry, fetched, withdrawn, told_by, told, taken_out}
use Rattle.shelf.proofs.Legality.{none_legal, legal_more}
use Rattle.shelf.proofs.Answers.{told_alone, told_shelf, Accepted, accepted_fits, no_other_lack}

-- A block that does nothing: the header, then `nothing`.
abbrev smallest : List ℕ
smallest = 14 ∷ 0 ∷ 1 ∷ 0 ∷ 1 ∷ 0 ∷ 7 ∷ 0 ∷ 0 ∷ 0 ∷ 0 ∷ 0 ∷ 0 ∷ 0 ∷ 4 ∷ 0 ∷ 16 ∷ 0 ∷ []

abbrev its_entry : Entry
its_entry = entry 1 300 smallest

pub its_bytes : entry_bytes its_entry ≡ 26 ∷ 0 ∷ 5 ∷ 0 ∷ 1 ∷ 0 ∷ 44 ∷ 1 ∷ smallest
unfolding entry_bytes in_bytes
its_bytes = refl

is_good_block : T (is_good (reading smallest))
unfolding is_good reading is_broken header header_fault shape length_of children_of over_limit wrong_signal wrong_exit statement_fault past leaf read preorder
    endless lowest_endless loops_checked ended listed lowest some_to codes_of kind_of statements
is_good_block = tt

may_go_in : Accepted [] 1 300 smallest
unfolding taken in_use
may_go_in = record { its_party = omega arith; its_block = is_good_block; not_taken = refl; quota_kept = omega arith }

pub goes_in : told (shelf_of []) (install 1 300 smallest) ≡ done
unfolding those
goes_in = (no_other_lack [] 1 300 smallest none_legal (omega arith) may_go_in).0

-- On the shelf with that entry alone: its party gets it back, may not install the name again and may withdraw it; the other party has none.
abbrev one : List Entry
one = its_entry ∷ []

one_legal : Legal one
unfolding those
one_legal = legal_more [] its_entry none_legal (accepted_fits [] 1 300 smallest (omega arith) may_go_in)

pub its_own : told (shelf_of one) (fetch 1 300) ≡ record { number = 0; place = 0; part = smallest }
unfolding told_alone told_by fetched find those
its_own = told_shelf one one_legal (fetch 1 300)

pub not_the_others : told (shelf_of one) (fetch 0 300) ≡ refused 22 0
unfolding told_alone told_by fetched find those
not_the_others = told_shelf one one_legal (fetch 0 300)

pub may_withdraw : told (shelf_of one) (withdraw 1 300) ≡ done
unfolding told_alone told_by withdrawn find those
may_withdraw = told_shelf one one_legal (withdraw 1 300)

pub none_left : taken_out 1 300 one ≡ []
unfolding those
none_left = refl
