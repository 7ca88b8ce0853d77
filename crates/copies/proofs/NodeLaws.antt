-- A statement's kind tells its children, and where they stand: by cases on the statement. Assumes nothing.
use mathlib.Core.Path.{◌≡◌, refl, ◌∙◌, ap, subst, subst⁻¹}
use mathlib.Core.Logic.{◌⊎◌, inl, inr}
use mathlib.Core.List.{List, [], ◌∷◌}
use mathlib.Core.Bool.{false, ◌||◌}
use Prim.Native.Nat.{ℕ, ◌+◌, ◌-◌, ◌<◌}
use native.Mathlib.Omega.{arith}
use lib.Dec.{T, eqb, eqb→eq}
use lib.ListN.{get_or}
use Rattle.sets.specs.Numbers.{listed}
use Rattle.sets.proofs.Members.{eqb_in, or_left, or_right, or_out}
use Rattle.rules.specs.Statements.{Stmt, nothing, pause, emit, present?◌then◌else◌, suspend◌on◌, ◌⨾◌, loop, ◌parallel◌, trap, exit, local}
use Rattle.tables.specs.Table.{kind_of, statements, Has, Small}
use Rattle.tables.specs.declared.Table.{Table}
use Rattle.tables.proofs.Rows.{has_row, some_statement}
use Rattle.copies.specs.Nodes.{Lies, Somewhere, NoChild, a_nothing, a_pause, an_emit, an_exit, OneChild, a_suspend}
use Rattle.copies.specs.Nodes.{a_trap, a_local, TwoChildren, a_present, a_sequence, a_parallel, HasOne, HasBody, HasTwo, Parts}
use Rattle.copies.specs.declared.nodes.Node.{Node}
use Rattle.copies.specs.declared.nodes.Node.TheVariants.{Leaf, Over, Twice, Joins}

module _ {tab : Table} {at : ℕ} {t : Stmt} (l : Lies tab at t) where
  pub in_table : at < 512
  in_table = omega (arith, l.room, some_statement t)

  pub its_kind : get_or tab.kinds at 0 ≡ kind_of t
  its_kind = (has_row t l.has).its_kind

  only_child : {p : Stmt} → OneChild t p → Has tab (at + 1) p → statements t ≡ 1 + statements p → Small p → HasOne tab at (at + 1) t
  only_child {p} o h e s = record { child = p; its = o; lies = record { has = h; room = omega (arith, l.room, e); small = s }; behind = omega arith }

  both_children : {p q : Stmt} → TwoChildren t p q → Has tab (at + 1) p → Has tab (at + 1 + statements p) q → statements t ≡ 1 + statements p + statements q → Small p → Small q
      → (k : ℕ) → k ≡ at + 1 + get_or tab.sizes (at + 1) 0 → HasTwo tab at (at + 1) k t
  both_children {p} {q} o h i e s u k ek =
      let place : k ≡ at + 1 + statements p = ek ∙ ap (λ (n : ℕ). at + 1 + n) (has_row p h).its_size in
      record {
        first = p;
        second = q;
        its = o;
        first_lies = record { has = h; room = omega (arith, l.room, e); small = s };
        second_lies = record { has = subst⁻¹ (λ (n : ℕ). Has tab n q) place i; room = omega (arith, l.room, e); small = u };
        first_behind = omega arith;
        second_behind = omega arith;
      }

-- The kinds with two children, and with one that is not copied twice.
abbrev pub joins : List ℕ
joins = 19 ∷ 21 ∷ 23 ∷ []

abbrev pub overs : List ℕ
overs = 20 ∷ 24 ∷ 26 ∷ []

pub has_two : {tab : Table} {at : ℕ} (t : Stmt) → Lies tab at t → T (listed joins (kind_of t)) → (k : ℕ) → k ≡ at + 1 + get_or tab.sizes (at + 1) 0 → HasTwo tab at (at + 1) k t
unfolding kind_of listed Has Small statements
has_two nothing l x k e = absurd x
has_two (pause n) l x k e = absurd x
has_two (emit s) l x k e = absurd x
has_two (present? s then p else q) l x k e = both_children l a_present l.has.1 l.has.2 refl l.small.1 l.small.2 k e
has_two (suspend p on s) l x k e = absurd x
has_two (p ⨾ q) l x k e = both_children l a_sequence l.has.1 l.has.2 refl l.small.0 l.small.1 k e
has_two (loop p) l x k e = absurd x
has_two (p parallel q) l x k e = both_children l a_parallel l.has.1 l.has.2 refl l.small.0 l.small.1 k e
has_two (trap p) l x k e = absurd x
has_two (exit d) l x k e = absurd x
has_two (local s p) l x k e = absurd x

pub has_one : {tab : Table} {at : ℕ} (t : Stmt) → Lies tab at t → T (listed overs (kind_of t)) → HasOne tab at (at + 1) t
unfolding kind_of listed Has Small statements
has_one nothing l x = absurd x
has_one (pause n) l x = absurd x
has_one (emit s) l x = absurd x
has_one (present? s then p else q) l x = absurd x
has_one (suspend p on s) l x = only_child l a_suspend l.has.1 refl l.small.1
has_one (p ⨾ q) l x = absurd x
has_one (loop p) l x = absurd x
has_one (p parallel q) l x = absurd x
has_one (trap p) l x = only_child l a_trap l.has.1 refl l.small
has_one (exit d) l x = absurd x
has_one (local s p) l x = only_child l a_local l.has.1 refl l.small.1

pub has_body : {tab : Table} {at : ℕ} (t : Stmt) → Lies tab at t → T (eqb (kind_of t) 22) → HasBody tab at (at + 1) t
unfolding kind_of Has Small statements
has_body nothing l x = absurd x
has_body (pause n) l x = absurd x
has_body (emit s) l x = absurd x
has_body (present? s then p else q) l x = absurd x
has_body (suspend p on s) l x = absurd x
has_body (p ⨾ q) l x = absurd x
has_body (loop p) l x = record {
  child = p;
  its = refl;
  lies = record { has = l.has.1; room = omega (arith, l.room); small = l.small };
  behind = omega arith;
}
has_body (p parallel q) l x = absurd x
has_body (trap p) l x = absurd x
has_body (exit d) l x = absurd x
has_body (local s p) l x = absurd x

pub has_none : (t : Stmt) → (T (listed joins (kind_of t)) → ⊥) → (T (listed overs (kind_of t)) → ⊥) → (T (eqb (kind_of t) 22) → ⊥) → NoChild t
unfolding kind_of listed
has_none nothing f g h = a_nothing
has_none (pause n) f g h = a_pause
has_none (emit s) f g h = an_emit
has_none (present? s then p else q) f g h = absurd (f tt)
has_none (suspend p on s) f g h = absurd (g tt)
has_none (p ⨾ q) f g h = absurd (f tt)
has_none (loop p) f g h = absurd (h tt)
has_none (p parallel q) f g h = absurd (f tt)
has_none (trap p) f g h = absurd (g tt)
has_none (exit d) f g h = an_exit
has_none (local s p) f g h = absurd (g tt)

-- What the tests of the kind say.
of_three : (a b c k : ℕ) → (k ≡ a) ⊎ ((k ≡ b) ⊎ (k ≡ c)) → T (listed (a ∷ b ∷ c ∷ []) k)
unfolding listed
of_three a b c k (inl e) = or_left (eqb k a) _ (eqb_in e)
of_three a b c k (inr (inl e)) = or_right (eqb k a) _ (or_left (eqb k b) _ (eqb_in e))
of_three a b c k (inr (inr e)) = or_right (eqb k a) _ (or_right (eqb k b) _ (or_left (eqb k c) false (eqb_in e)))

in_three : (a b c k : ℕ) → T (listed (a ∷ b ∷ c ∷ []) k) → (k ≡ a) ⊎ ((k ≡ b) ⊎ (k ≡ c))
unfolding listed
in_three a b c k t = go (or_out (eqb k a) _ t)
  where
    last : T (eqb k c) ⊎ T false → k ≡ c
    last (inl x) = eqb→eq k c x
    last (inr x) = absurd x

    then_b : T (eqb k b) ⊎ T (eqb k c || false) → (k ≡ b) ⊎ (k ≡ c)
    then_b (inl x) = inl (eqb→eq k b x)
    then_b (inr x) = inr (last (or_out (eqb k c) false x))

    go : T (eqb k a) ⊎ T (eqb k b || (eqb k c || false)) → (k ≡ a) ⊎ ((k ≡ b) ⊎ (k ≡ c))
    go (inl x) = inl (eqb→eq k a x)
    go (inr x) = inr (then_b (or_out (eqb k b) (eqb k c || false) x))

module _ {tab : Table} {at : ℕ} {t : Stmt} (l : Lies tab at t) where
  abbrev k : ℕ
  k = get_or tab.kinds at 0

  pub joins_parts : (k ≡ 19) ⊎ ((k ≡ 21) ⊎ (k ≡ 23)) → (i : ℕ) → (at + 1 < 512 → i ≡ at + 1 + get_or tab.sizes (at + 1) 0) → Parts tab at t (Joins (at + 1) i)
  unfolding Parts
  joins_parts e i f =
      let x = subst (λ (n : ℕ). T (listed joins n)) (its_kind l) (of_three 19 21 23 k e) in
      let w = has_two t l x _ refl in has_two t l x i (f (omega (arith, w.first_lies.room, some_statement w.first)))

  pub over_parts : (k ≡ 20) ⊎ ((k ≡ 24) ⊎ (k ≡ 26)) → Parts tab at t (Over (at + 1))
  unfolding Parts
  over_parts e = has_one t l (subst (λ (n : ℕ). T (listed overs n)) (its_kind l) (of_three 20 24 26 k e))

  pub twice_parts : k ≡ 22 → Parts tab at t (Twice (at + 1))
  unfolding Parts
  twice_parts e = has_body t l (subst (λ (n : ℕ). T (eqb n 22)) (its_kind l) (eqb_in e))

  pub leaf_parts : ((k ≡ 19) ⊎ ((k ≡ 21) ⊎ (k ≡ 23)) → ⊥) → ((k ≡ 20) ⊎ ((k ≡ 24) ⊎ (k ≡ 26)) → ⊥) → (k ≡ 22 → ⊥) → Parts tab at t Leaf
  unfolding Parts
  leaf_parts f g h =
      has_none t (λ x. f (in_three 19 21 23 k (subst⁻¹ (λ (n : ℕ). T (listed joins n)) (its_kind l) x)))
      (λ x. g (in_three 20 24 26 k (subst⁻¹ (λ (n : ℕ). T (listed overs n)) (its_kind l) x)))
      (λ x. h (eqb→eq k 22 (subst⁻¹ (λ (n : ℕ). T (eqb n 22)) (its_kind l) x)))

-- What the code was told, by the answer's form.
module _ {tab : Table} {at : ℕ} {t : Stmt} {r : Node} (w : Parts tab at t r) where
  pub as_leaf : Lies tab at t → r ≡ Leaf → NoChild t
  unfolding Parts
  as_leaf l e = subst (λ (r : Node). Parts tab at t r) e w

  pub as_over : {i : ℕ} → r ≡ Over i → HasOne tab at i t
  unfolding Parts
  as_over e = subst (λ (r : Node). Parts tab at t r) e w

  pub as_twice : {i : ℕ} → r ≡ Twice i → HasBody tab at i t
  unfolding Parts
  as_twice e = subst (λ (r : Node). Parts tab at t r) e w

  pub as_joins : {i k : ℕ} → r ≡ Joins i k → HasTwo tab at i k t
  unfolding Parts
  as_joins e = subst (λ (r : Node). Parts tab at t r) e w

-- A child may be asked for: less of the table is left.
pub child_called : {tab : Table} {at i n : ℕ} {p : Stmt} → 512 - at ≡ n → at < i → Lies tab i p → (512 - i < n) × Somewhere tab i
child_called {p = p} e l h = (omega (arith, h.room, some_statement p), record { tree = p; lies = h })
