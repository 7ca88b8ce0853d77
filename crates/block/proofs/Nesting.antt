-- Paths, nesting and the numbers of locals, by the view of a statement's kind; and locals that are numbered on are new to their
-- scopes. Assumes nothing.
use mathlib.Core.Path.{◌≡◌, refl, sym, subst, ◌∙◌, ap}
use mathlib.Core.Logic.{⊎_elim}
use mathlib.Core.Bool.{Bool, true, false, cond}
use mathlib.Core.List.{List, [], ◌∷◌, ◌++◌}
use Prim.Native.Nat.{ℕ, zero, suc, ◌+◌, ◌≤◌, ◌<◌, max}
use native.Mathlib.Nat.{zero-add, add-zero, suc-add, add-suc}
use native.Mathlib.Numerals.{add-one}
use native.Mathlib.Omega.{arith}
use lib.Dec.{T, eqb, eqb→eq}
use lib.ListN.{length, length-append}
use Rattle.sets.specs.Numbers.{Numbers, union, single}
use Rattle.sets.proofs.Members.{or_out}
use Rattle.rules.specs.Statements.{from, Stmt, nothing, pause, emit, present?◌then◌else◌, suspend◌on◌, ◌⨾◌, loop, ◌parallel◌, trap, exit, local}
use Rattle.block.specs.Format.{leaf, above, joined}
use Rattle.block.specs.Good.{path, nested_traps, nested_locals, locals, Next, Apart}
use Rattle.block.proofs.Views.{Leaf, Above, Joined, a_nothing, a_pause, an_emit, an_exit, a_suspend, a_loop, a_trap, a_local, a_present, a_sequence, a_parallel}

-- What a statement of kind k and operand x adds to the longest path, the nesting and the locals of its children.
pub record Nests (k x deep traps nested : ℕ) (ls : List ℕ) (t : Stmt) : Type 0 where
  pub its_path : path t ≡ 1 + deep
  pub its_traps : nested_traps t ≡ cond (eqb k 24) 1 0 + traps
  pub its_nested : nested_locals t ≡ cond (eqb k 26) 1 0 + nested
  pub its_locals : locals t ≡ cond (eqb k 26) (x ∷ ls) ls

pub leaf_nests : {k : ℕ} (x n : ℕ) → Leaf k → Nests k x 0 0 0 [] (leaf k x n)
unfolding path nested_traps nested_locals locals leaf
leaf_nests x n a_nothing = record { its_path = refl; its_traps = refl; its_nested = refl; its_locals = refl }
leaf_nests x n a_pause = record { its_path = refl; its_traps = refl; its_nested = refl; its_locals = refl }
leaf_nests x n an_emit = record { its_path = refl; its_traps = refl; its_nested = refl; its_locals = refl }
leaf_nests x n an_exit = record { its_path = refl; its_traps = refl; its_nested = refl; its_locals = refl }

pub above_nests : {k : ℕ} (x : ℕ) (p : Stmt) → Above k → Nests k x (path p) (nested_traps p) (nested_locals p) (locals p) (above k x p)
unfolding path nested_traps nested_locals locals above
above_nests x p a_suspend = record { its_path = refl; its_traps = omega arith; its_nested = omega arith; its_locals = refl }
above_nests x p a_loop = record { its_path = refl; its_traps = omega arith; its_nested = omega arith; its_locals = refl }
above_nests x p a_trap = record { its_path = refl; its_traps = refl; its_nested = omega arith; its_locals = refl }
above_nests x p a_local = record { its_path = refl; its_traps = omega arith; its_nested = refl; its_locals = refl }

pub joined_nests : {k : ℕ} (x : ℕ) (p q : Stmt) → Joined k
    → Nests k x (max (path p) (path q)) (max (nested_traps p) (nested_traps q)) (max (nested_locals p) (nested_locals q)) (locals p ++ locals q) (joined k x p q)
unfolding path nested_traps nested_locals locals joined
joined_nests x p q a_present = record { its_path = refl; its_traps = omega arith; its_nested = omega arith; its_locals = refl }
joined_nests x p q a_sequence = record { its_path = refl; its_traps = omega arith; its_nested = omega arith; its_locals = refl }
joined_nests x p q a_parallel = record { its_path = refl; its_traps = omega arith; its_nested = omega arith; its_locals = refl }

-- Numbers in a row, in two parts, and back.
pub from_append : (i m n : ℕ) → from i (m + n) ≡ from i m ++ from (i + m) n
unfolding from
from_append i zero n = ap (λ (k : ℕ). from i k) (zero-add n) ∙ ap (λ (k : ℕ). from k n) (sym (add-zero i))
from_append i (suc m) n = ap (λ (k : ℕ). from i k) (suc-add m n) ∙ ap (λ (l : List ℕ). i ∷ l) (from_append (suc i) m n ∙ ap (λ (k : ℕ). from (suc i) m ++ from k n) (suc-add i m ∙ sym (add-suc i m)))

pub both_in_row : (i j : ℕ) (xs ys : List ℕ) → xs ≡ from i (length xs) → ys ≡ from j (length ys) → j ≡ i + length xs → xs ++ ys ≡ from i (length (xs ++ ys))
both_in_row i j xs ys ex ey ej =
    let y : ys ≡ from (i + length xs) (length ys) = subst (λ (k : ℕ). ys ≡ from k (length ys)) ej ey in
    (λ i'. ex i' ++ y i') ∙ sym (from_append i (length xs) (length ys)) ∙ ap (λ (k : ℕ). from i k) (sym (length-append xs ys))

-- A number before a row, where the test says so.
pub in_row : (z : Bool) {n x : ℕ} (ls : List ℕ) → (z ≡ true → x ≡ n) → ls ≡ from (n + cond z 1 0) (length ls)
    → cond z (x ∷ ls) ls ≡ from n (length (cond z (x ∷ ls) ls))
unfolding from
in_row true {n} {x} ls e f = let l : ls ≡ from (suc n) (length ls) = f ∙ ap (λ (k : ℕ). from k (length ls)) (add-one n) in λ i. e refl i ∷ l i
in_row false {n} {x} ls e f = f ∙ ap (λ (k : ℕ). from k (length ls)) (add-zero n)

pub length_where : (z : Bool) (x : ℕ) (ls : List ℕ) → length (cond z (x ∷ ls) ls) ≡ cond z 1 0 + length ls
length_where true x ls = omega arith
length_where false x ls = omega arith

-- The parts of a row are rows.
row_left : (i : ℕ) (xs ys : List ℕ) → xs ++ ys ≡ from i (length (xs ++ ys)) → xs ≡ from i (length xs)
unfolding from
row_left i [] ys e = refl
row_left i (x ∷ xs) ys e =
    let h : x ≡ i = cc in
    let r : xs ++ ys ≡ from (suc i) (length (xs ++ ys)) = cc in
    let ih = row_left (suc i) xs ys r in λ j. h j ∷ ih j

row_right : (i : ℕ) (xs ys : List ℕ) → xs ++ ys ≡ from i (length (xs ++ ys)) → ys ≡ from (i + length xs) (length ys)
unfolding from
row_right i [] ys e = e ∙ ap (λ (k : ℕ). from k (length ys)) (sym (add-zero i))
row_right i (x ∷ xs) ys e =
    let r : xs ++ ys ≡ from (suc i) (length (xs ++ ys)) = cc in
    row_right (suc i) xs ys r ∙ ap (λ (k : ℕ). from k (length ys)) (suc-add i (length xs) ∙ sym (add-suc i (length xs)))

pub rows_of : (i : ℕ) (xs ys : List ℕ) → xs ++ ys ≡ from i (length (xs ++ ys)) → (xs ≡ from i (length xs)) × (ys ≡ from (i + length xs) (length ys))
rows_of i xs ys e = (row_left i xs ys e, row_right i xs ys e)

pub row_tail : (i x : ℕ) (xs : List ℕ) → x ∷ xs ≡ from i (length (x ∷ xs)) → (x ≡ i) × (xs ≡ from (suc i) (length xs))
unfolding from
row_tail i x xs e = (cc, cc)

-- Locals numbered on from n are new to a scope whose numbers are all below n.
abbrev Below : Numbers → ℕ → Type 0
Below S n = (s : ℕ) → T (S s) → s < n

below_more : (S : Numbers) (m n : ℕ) → m ≤ n → Below S m → Below S n
below_more S m n l f s t = omega (arith, f s t)

pub next_apart : (S : Numbers) (n : ℕ) (t : Stmt) → Below S n → Next n t → Apart S t
unfolding Next Apart locals
next_apart S n nothing f e = tt
next_apart S n (pause m) f e = tt
next_apart S n (emit s) f e = tt
next_apart S n (present? s then p else q) f e =
    let r = rows_of n (locals p) (locals q) e in
    (next_apart S n p f r.0, next_apart S (n + length (locals p)) q (below_more S n _ (omega arith) f) r.1)
next_apart S n (suspend p on s) f e = next_apart S n p f e
next_apart S n (p ⨾ q) f e =
    let r = rows_of n (locals p) (locals q) e in
    (next_apart S n p f r.0, next_apart S (n + length (locals p)) q (below_more S n _ (omega arith) f) r.1)
next_apart S n (loop p) f e = next_apart S n p f e
next_apart S n (p parallel q) f e =
    let r = rows_of n (locals p) (locals q) e in
    (next_apart S n p f r.0, next_apart S (n + length (locals p)) q (below_more S n _ (omega arith) f) r.1)
next_apart S n (trap p) f e = next_apart S n p f e
next_apart S n (exit d) f e = tt
next_apart S n (local s p) f e =
    let r = row_tail n s (locals p) e in (
      λ t. let l : s < n = f s t in omega (arith, r.0),
      next_apart (union (single s) S) (suc n) p (λ m t. ⊎_elim (λ i. omega (arith, eqb→eq m s i, r.0)) (λ i. omega (arith, f m i)) (or_out (eqb m s) (S m) t)) r.1,
    )
