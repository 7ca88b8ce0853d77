-- The table and the tree: a statement's first pause is the count of pauses before it, so that a part holds two pauses exactly when
-- they lie in its interval. Assumes nothing.
use mathlib.Core.Path.{◌≡◌, refl, sym, ap, ◌∙◌, subst, subst⁻¹}
use mathlib.Core.Logic.{◌⊎◌, inl, inr}
use mathlib.Core.Bool.{Bool, true, false, cond, ◌&&◌, ◌||◌}
use mathlib.Core.List.{List, ◌∷◌, ◌++◌}
use Prim.Native.Nat.{ℕ, zero, suc, ◌+◌, ◌≤◌, ◌<◌}
use native.Mathlib.Nat.{le_refl}
use native.Mathlib.Numerals.{add-one}
use native.Mathlib.Omega.{arith}
use lib.Dec.{T, eqb, eqb→eq}
use lib.ListN.{length, get_or, take, drop, length-append}
use lib.Seq.{take_at, drop_at}
use borrow.Author.Tests.{eqb-false}
use Rattle.sets.specs.Numbers.{listed}
use Rattle.sets.proofs.Members.{is_true, is_false, of_true, or_left, or_right, or_out, and_in, and_left, and_right}
use Rattle.rules.specs.Statements.{Stmt, nothing, pause, emit, present?◌then◌else◌, suspend◌on◌, ◌⨾◌, loop, ◌parallel◌, trap, exit, local, pauses, from, Numbered}
use Rattle.rules.specs.States.{holds_both, lowest_above, is_parallel, compatible}
use Rattle.tables.specs.Table.{kind_of, statements, Has}
use Rattle.tables.specs.declared.Table.{Table}
use Rattle.tables.proofs.Rows.{has_row, some_statement}
use Rattle.records.specs.Clashing.{before, two_parts}

-- What there is below a statement, by how many parts it has.
pub record One (tab : Table) (i : ℕ) (p q : Stmt) : Type 0 where
  pub its_pauses : pauses p ≡ pauses q
  pub its_size : statements p ≡ 1 + statements q
  pub part : Has tab (i + 1) q
  pub not_two : two_parts (kind_of p) ≡ false
  pub no_pause : eqb (kind_of p) 17 ≡ false
  pub above : (m n : ℕ) → compatible p m n ≡ compatible q m n

abbrev pub choice : Stmt → Stmt → Stmt → ℕ → ℕ → Stmt
choice p q r m n = cond (holds_both q m n) (lowest_above q m n) (cond (holds_both r m n) (lowest_above r m n) p)

pub record Two (tab : Table) (i : ℕ) (p q r : Stmt) : Type 0 where
  pub its_pauses : pauses p ≡ pauses q ++ pauses r
  pub its_size : statements p ≡ 1 + statements q + statements r
  pub first : Has tab (i + 1) q
  pub second : Has tab (i + 1 + statements q) r
  pub is_two : two_parts (kind_of p) ≡ true
  pub no_pause : eqb (kind_of p) 17 ≡ false
  pub above : (m n : ℕ) → lowest_above p m n ≡ choice p q r m n
  pub its_kind : eqb (kind_of p) 23 ≡ is_parallel p

pub data Shape (tab : Table) (i : ℕ) (p : Stmt) : Type 0 where
  leaf : length (pauses p) ≤ 1 → statements p ≡ 1 → cond {A = ℕ} (eqb (kind_of p) 17) 1 0 ≡ length (pauses p) → Shape tab i p
  one : (q : Stmt) → One tab i p q → Shape tab i p
  two : (q r : Stmt) → Two tab i p q r → Shape tab i p

pub shape : (tab : Table) (i : ℕ) (p : Stmt) → Has tab i p → Shape tab i p
unfolding Has statements pauses kind_of lowest_above two_parts compatible listed
shape tab i nothing h = leaf (omega arith) refl refl
shape tab i (pause n) h = leaf (omega arith) refl refl
shape tab i (emit s) h = leaf (omega arith) refl refl
shape tab i (exit d) h = leaf (omega arith) refl refl
shape tab i (suspend p on s) h = one p (record { its_pauses = refl; its_size = refl; part = h.1; not_two = refl; no_pause = refl; above = λ m n. refl })
shape tab i (loop p) h = one p (record { its_pauses = refl; its_size = refl; part = h.1; not_two = refl; no_pause = refl; above = λ m n. refl })
shape tab i (trap p) h = one p (record { its_pauses = refl; its_size = refl; part = h.1; not_two = refl; no_pause = refl; above = λ m n. refl })
shape tab i (local s p) h = one p (record { its_pauses = refl; its_size = refl; part = h.1; not_two = refl; no_pause = refl; above = λ m n. refl })
shape tab i (present? s then p else q) h =
    two p q (record { its_pauses = refl; its_size = refl; first = h.1; second = h.2; is_two = refl; no_pause = refl; above = λ m n. refl; its_kind = refl })
shape tab i (p ⨾ q) h =
    two p q (record { its_pauses = refl; its_size = refl; first = h.1; second = h.2; is_two = refl; no_pause = refl; above = λ m n. refl; its_kind = refl })
shape tab i (p parallel q) h =
    two p q (record { its_pauses = refl; its_size = refl; first = h.1; second = h.2; is_two = refl; no_pause = refl; above = λ m n. refl; its_kind = refl })

-- Pauses before a place.
pub before_step : (kinds : List ℕ) (i : ℕ) {k : ℕ} → get_or kinds i 0 ≡ k → before kinds (i + 1) ≡ cond (eqb k 17) 1 0 + before kinds i
unfolding before
before_step kinds i e = ap (before kinds) (add-one i) ∙ ap (λ (k : ℕ). cond (eqb k 17) 1 0 + before kinds i) e

abbrev Before : Table → ℕ → Stmt → Type 0
Before tab i p = before tab.kinds (i + statements p) ≡ before tab.kinds i + length (pauses p)

-- From a place to the next, past a statement that is no pause.
pub before_next : (tab : Table) (i : ℕ) (p : Stmt) → Has tab i p → eqb (kind_of p) 17 ≡ false → before tab.kinds (i + 1) ≡ before tab.kinds i
before_next tab i p h e =
    before_step tab.kinds i (has_row p h).its_kind
    ∙ ap (λ (b : Bool). cond b 1 0 + before tab.kinds i) e ∙ omega arith

before_by : (tab : Table) (i : ℕ) (p : Stmt) → Has tab i p → Shape tab i p
    → ((j : ℕ) (q : Stmt) → statements q < statements p → Has tab j q → Before tab j q) → Before tab i p
before_by tab i p h (leaf l s k) f =
    let a : before tab.kinds (i + 1) ≡ cond (eqb (kind_of p) 17) 1 0 + before tab.kinds i = before_step tab.kinds i (has_row p h).its_kind in
    ap (λ (n : ℕ). before tab.kinds (i + n)) s ∙ omega arith
before_by tab i p h (one q o) f =
    let a : before tab.kinds (i + 1) ≡ before tab.kinds i = before_next tab i p h o.no_pause in
    let b : before tab.kinds (i + 1 + statements q) ≡ before tab.kinds (i + 1) + length (pauses q) = f (i + 1) q (omega (arith, o.its_size)) o.part in
    let c : length (pauses p) ≡ length (pauses q) = ap length o.its_pauses in
    let d : i + statements p ≡ i + 1 + statements q = omega (arith, o.its_size) in
    ap (before tab.kinds) d ∙ omega arith
before_by tab i p h (two q r o) f =
    let a : before tab.kinds (i + 1) ≡ before tab.kinds i = before_next tab i p h o.no_pause in
    let b : before tab.kinds (i + 1 + statements q) ≡ before tab.kinds (i + 1) + length (pauses q) = f (i + 1) q (omega (arith, o.its_size)) o.first in
    let c : before tab.kinds (i + 1 + statements q + statements r) ≡ before tab.kinds (i + 1 + statements q) + length (pauses r) =
    f (i + 1 + statements q) r (omega (arith, o.its_size)) o.second in
    let e : length (pauses p) ≡ length (pauses q) + length (pauses r) = ap length o.its_pauses ∙ length-append (pauses q) (pauses r) in
    let d : i + statements p ≡ i + 1 + statements q + statements r = omega (arith, o.its_size) in
    ap (before tab.kinds) d ∙ omega arith

before_fuel : (tab : Table) (fuel i : ℕ) (p : Stmt) → statements p ≤ fuel → Has tab i p → Before tab i p
before_fuel tab zero i p l h = absurd (omega (arith, some_statement p))
before_fuel tab (suc f) i p l h = before_by tab i p h (shape tab i p h) (λ j q s g. before_fuel tab f j q (omega arith) g)

pub before_part : (tab : Table) (i : ℕ) (p : Stmt) → Has tab i p → Before tab i p
before_part tab i p h = before_fuel tab (statements p) i p (le_refl (statements p)) h

-- Numbers from a place on.
length_from : (a n : ℕ) → length (from a n) ≡ n
unfolding from
length_from a zero = refl
length_from a (suc n) = ap suc (length_from (suc a) n)

from_add : (a m n : ℕ) → from a (m + n) ≡ from a m ++ from (a + m) n
unfolding from
from_add a zero n = let p : 0 + n ≡ n = omega arith in let q : a ≡ a + 0 = omega arith in ap (from a) p ∙ ap (λ (k : ℕ). from k n) q
from_add a (suc m) n =
    let p : suc m + n ≡ suc (m + n) = omega arith in
    let q : suc a + m ≡ a + suc m = omega arith in
    ap (from a) p ∙ ap (λ (l : List ℕ). a ∷ l) (from_add (suc a) m n ∙ ap (λ (k : ℕ). from (suc a) m ++ from k n) q)

listed_from : (a n k : ℕ) → a ≤ k → k < a + n → T (listed (from a n) k)
unfolding from listed
listed_from a zero k h l = absurd (omega arith)
listed_from a (suc n) k h l = go (eqb k a) refl (λ (f : k ≡ a → ⊥). listed_from (suc a) n k (omega arith) (omega arith))
  where
    go : (b : Bool) → eqb k a ≡ b → ((k ≡ a → ⊥) → T (listed (from (suc a) n) k)) → T (eqb k a || listed (from (suc a) n) k)
    go true e f = or_left (eqb k a) (listed (from (suc a) n) k) (of_true e)
    go false e f = or_right (eqb k a) (listed (from (suc a) n) k) (f (eqb-false k a e))

from_listed : (a n k : ℕ) → T (listed (from a n) k) → (a ≤ k) × (k < a + n)
unfolding from listed
from_listed a zero k t = absurd t
from_listed a (suc n) k t = go (or_out (eqb k a) (listed (from (suc a) n) k) t) (λ s. from_listed (suc a) n k s)
  where
    go : T (eqb k a) ⊎ T (listed (from (suc a) n) k) → (T (listed (from (suc a) n) k) → (suc a ≤ k) × (k < suc a + n)) → (a ≤ k) × (k < a + suc n)
    go (inl s) f = let e : k ≡ a = eqb→eq k a s in (omega arith, omega arith)
    go (inr s) f = let r = f s in (omega (arith, r.0), omega (arith, r.1))

-- A numbered statement holds the pauses of its interval.
pub listed_pauses : (a : ℕ) (p : Stmt) (k : ℕ) → Numbered a p → a ≤ k → k < a + length (pauses p) → T (listed (pauses p) k)
unfolding Numbered
listed_pauses a p k e h l = subst⁻¹ (λ (xs : List ℕ). T (listed xs k)) e (listed_from a (length (pauses p)) k h l)

pub pauses_listed : (a : ℕ) (p : Stmt) (k : ℕ) → Numbered a p → T (listed (pauses p) k) → (a ≤ k) × (k < a + length (pauses p))
unfolding Numbered
pauses_listed a p k e t = from_listed a (length (pauses p)) k (subst (λ (xs : List ℕ). T (listed xs k)) e t)

pub holds : (a : ℕ) (p : Stmt) (m n : ℕ) → Numbered a p → m < n → a ≤ m → n < a + length (pauses p) → holds_both p m n ≡ true
unfolding holds_both
holds a p m n e l h k =
    is_true (listed (pauses p) m && listed (pauses p) n)
    (and_in (listed (pauses p) m) (listed (pauses p) n) (listed_pauses a p m e h (omega arith)) (listed_pauses a p n e (omega arith) k))

pub holds_not_second : (a : ℕ) (p : Stmt) (m n : ℕ) → Numbered a p → a + length (pauses p) ≤ n → holds_both p m n ≡ false
unfolding holds_both
holds_not_second a p m n e h =
    is_false (listed (pauses p) m && listed (pauses p) n)
    (λ t. let r = pauses_listed a p n e (and_right (listed (pauses p) m) (listed (pauses p) n) t) in omega (arith, r.1))

pub holds_not_first : (a : ℕ) (p : Stmt) (m n : ℕ) → Numbered a p → m < a → holds_both p m n ≡ false
unfolding holds_both
holds_not_first a p m n e h =
    is_false (listed (pauses p) m && listed (pauses p) n)
    (λ t. let r = pauses_listed a p m e (and_left (listed (pauses p) m) (listed (pauses p) n) t) in omega (arith, r.0))

-- The parts of a numbered statement are numbered.
pub numbered_one : (a : ℕ) (p q : Stmt) → pauses p ≡ pauses q → Numbered a p → Numbered a q
unfolding Numbered
numbered_one a p q s e = subst (λ (xs : List ℕ). xs ≡ from a (length xs)) s e

module _ (a : ℕ) (p q r : Stmt) (s : pauses p ≡ pauses q ++ pauses r) (e : Numbered a p) where
  parted : pauses q ++ pauses r ≡ from a (length (pauses q)) ++ from (a + length (pauses q)) (length (pauses r))
  unfolding Numbered
  parted =
      subst (λ (xs : List ℕ). xs ≡ from a (length xs)) s e ∙ ap (from a) (length-append (pauses q) (pauses r))
      ∙ from_add a (length (pauses q)) (length (pauses r))

  pub numbered_first : Numbered a q
  unfolding Numbered
  numbered_first =
      sym (take_at (pauses q) (pauses r) (length (pauses q)) refl) ∙ ap (take (length (pauses q))) parted
      ∙ take_at (from a (length (pauses q))) (from (a + length (pauses q)) (length (pauses r))) (length (pauses q)) (length_from a (length (pauses q)))

  pub numbered_second : Numbered (a + length (pauses q)) r
  unfolding Numbered
  numbered_second =
      sym (drop_at (pauses q) (pauses r) (length (pauses q)) refl) ∙ ap (drop (length (pauses q))) parted
      ∙ drop_at (from a (length (pauses q))) (from (a + length (pauses q)) (length (pauses r))) (length (pauses q)) (length_from a (length (pauses q)))
