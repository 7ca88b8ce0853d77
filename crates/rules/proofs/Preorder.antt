-- The statements of a tree in preorder, by their numbers: the first is the tree itself, and each child's come one after the other behind it. Assumes nothing.
use mathlib.Core.Path.{◌≡◌, refl, sym, ◌∙◌, ap}
use mathlib.Core.List.{List, ◌∷◌, ◌++◌}
use Prim.Native.Nat.{ℕ, suc, ◌+◌, ◌<◌}
use native.Mathlib.Nat.{suc-add}
use native.Mathlib.Numerals.{one-add}
use native.Mathlib.Omega.{arith}
use lib.ListN.{length, get_or, length-append, get_or-append}
use lib.Seq.{get_or-append-add}
use Rattle.rules.specs.Statements.{Stmt, nothing, pause, emit, present?◌then◌else◌, suspend◌on◌, ◌⨾◌, loop, ◌parallel◌, trap, exit, local, statements, preorder, numbered}

-- The first of them is the statement itself.
pub first_is : (p : Stmt) → numbered p 0 ≡ p
unfolding preorder
first_is nothing = refl
first_is (pause n) = refl
first_is (emit s) = refl
first_is (present? s then p else q) = refl
first_is (suspend p on s) = refl
first_is (p ⨾ q) = refl
first_is (loop p) = refl
first_is (p parallel q) = refl
first_is (trap p) = refl
first_is (exit d) = refl
first_is (local s p) = refl

both_length : (p q : Stmt) → length (preorder p) ≡ statements p → length (preorder q) ≡ statements q → suc (length (preorder p ++ preorder q)) ≡ 1 + statements p + statements q
both_length p q e f = omega (arith, length-append (preorder p) (preorder q), e, f)

pub all_counted : (p : Stmt) → length (preorder p) ≡ statements p
unfolding preorder statements
all_counted nothing = refl
all_counted (pause n) = refl
all_counted (emit s) = refl
all_counted (present? s then p else q) = both_length p q (all_counted p) (all_counted q)
all_counted (suspend p on s) = omega (arith, all_counted p)
all_counted (p ⨾ q) = both_length p q (all_counted p) (all_counted q)
all_counted (loop p) = omega (arith, all_counted p)
all_counted (p parallel q) = both_length p q (all_counted p) (all_counted q)
all_counted (trap p) = omega (arith, all_counted p)
all_counted (exit d) = refl
all_counted (local s p) = omega (arith, all_counted p)

pub some_statement : (p : Stmt) → 0 < statements p
unfolding statements
some_statement nothing = omega arith
some_statement (pause n) = omega arith
some_statement (emit s) = omega arith
some_statement (present? s then p else q) = omega arith
some_statement (suspend p on s) = omega arith
some_statement (p ⨾ q) = omega arith
some_statement (loop p) = omega arith
some_statement (p parallel q) = omega arith
some_statement (trap p) = omega arith
some_statement (exit d) = omega arith
some_statement (local s p) = omega arith

-- A child's statements in the tree: of the only child, of the first and of the second.
pub only_child : (t p : Stmt) → preorder t ≡ t ∷ preorder p → (m : ℕ) → numbered t (1 + m) ≡ numbered p m
only_child t p e m = ap (λ (j : ℕ). numbered t j) (one-add m) ∙ ap (λ (ps : List Stmt). get_or ps (suc m) nothing) e

module _ (t p q : Stmt) (e : preorder t ≡ t ∷ preorder p ++ preorder q) where
  pub first_child : (m : ℕ) → m < statements p → numbered t (1 + m) ≡ numbered p m
  first_child m l =
      ap (λ (j : ℕ). numbered t j) (one-add m) ∙ ap (λ (ps : List Stmt). get_or ps (suc m) nothing) e
      ∙ get_or-append (preorder p) (preorder q) nothing m (omega (arith, all_counted p))

  pub second_child : (m : ℕ) → numbered t (1 + statements p + m) ≡ numbered q m
  second_child m =
      ap (λ (j : ℕ). numbered t j) (ap (λ (j : ℕ). j + m) (one-add (statements p)) ∙ suc-add (statements p) m)
      ∙ ap (λ (ps : List Stmt). get_or ps (suc (statements p + m)) nothing) e
      ∙ ap (λ (j : ℕ). get_or (preorder p ++ preorder q) (j + m) nothing) (sym (all_counted p)) ∙ get_or-append-add (preorder p) (preorder q) m nothing
