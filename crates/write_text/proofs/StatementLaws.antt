-- A statement's text is its opening piece, its children's texts with the piece between them, and its closing piece: by cases on the
-- statement, each by computing. Assumes nothing.
use mathlib.Core.Path.{◌≡◌, refl, sym, ap, ◌∙◌, subst, subst⁻¹}
use mathlib.Core.Logic.{◌⊎◌, inl, inr}
use mathlib.Core.Bool.{Bool, false, cond, not}
use mathlib.Core.List.{List, [], ◌∷◌}
use Prim.Native.Nat.{ℕ, suc, ◌+◌, ◌-◌, ◌≤◌, ◌<◌}
use native.Mathlib.Omega.{arith}
use lib.Dec.{T, eqb, lit≤}
use lib.ListN.{length, get_or}
use Rattle.sets.specs.Numbers.{listed}
use Rattle.sets.proofs.Members.{eqb_in, or_left, or_right}
use Rattle.rules.specs.Statements.{depth, Stmt, nothing, pause, emit, present?◌then◌else◌, suspend◌on◌, ◌⨾◌, loop, ◌parallel◌, trap, exit, local}
use Rattle.tables.specs.Table.{kind_of, operand_of, statements, Has}
use Rattle.tables.specs.declared.Table.{Table}
use Rattle.tables.proofs.Rows.{has_row, some_statement}
use Rattle.text.specs.Grammar.{Arms, Basic, Nothing, Pause, Emit, Exit, Present, Suspend, Loop, Trap, Signal}
use Rattle.text.specs.Shown.{forms, of_basic, signal_word, trap_word, arms_text, basic_text}
use Rattle.write_text.specs.Pieces.{Puts, row_text, opening_name, closing_name}
use Rattle.write_text.specs.Spots.{at_level, statement_text, bare, first_word, middle_word, last_word, opening_text, closing_text, between_text, first_level, second_level, inside, Stands, Asks}
use Rattle.write_text.specs.declared.statements.Level.{Level}
use Rattle.write_text.specs.declared.statements.Level.TheVariants as level
use Rattle.write_text.specs.declared.statements.Spot.{Spot}
use Rattle.write_text.proofs.Putting.{and_then, before, told_as}
use Rattle.write_text.proofs.SpotLaws.{never_bare, inside_few}

pub basic_any : (n : Level) (b : Basic) (d : ℕ) (r : List ℕ) → at_level n (of_basic b) d r ≡ basic_text b d r
unfolding at_level arms_text
basic_any level.Basic b d r = refl
basic_any level.Sequence b d r = refl
basic_any level.Whole b d r = refl

-- The pieces around what is inside, with brackets or without.
unfoldable around : Spot → ℕ → ℕ → Bool → (ℕ → List ℕ → List ℕ) → List ℕ → List ℕ
unfolding row_text opening_name closing_name first_word middle_word last_word
around s k x z body r =
    let last = cond z r (row_text s.indent (last_word k) (closing_name k x s.inputs s.outputs) [] r) in
    let inner = body (cond (not z) (suc s.indent) s.indent) last in
    cond z inner (row_text s.indent (first_word k) (opening_name k x s.traps s.inputs s.outputs) (middle_word k) inner)

module _ (s : Spot) where
  abbrev shown_at : Stmt → ℕ → Level → ℕ → List ℕ → List ℕ
  shown_at p k n d r = at_level n (forms (signal_word s.inputs s.outputs) trap_word k p) d r

  -- Whatever is due, a basic statement has its pieces around it.
  pieces : (k x : ℕ) (body : ℕ → List ℕ → List ℕ) (b : Basic) (r : List ℕ) → eqb k 21 ≡ false → eqb k 23 ≡ false → basic_text b s.indent r ≡ around s k x false body r
      → at_level s.level (of_basic b) s.indent r ≡ around s k x (bare k s.level) body r
  pieces k x body b r e f g = basic_any s.level b s.indent r ∙ g ∙ sym (ap (λ (z : Bool). around s k x z body r) (never_bare k s.level e f))

-- One child.
pub record One (tab : Table) (at k x : ℕ) (t : Stmt) : Type 0 where
  pub child : Stmt
  pub stands : Stands tab (at + 1) child
  pub its_text : (s : Spot) (to : ℕ) (r : List ℕ) → opening_text s k x (statement_text (inside s k level.Whole to) child (closing_text s k x r)) ≡ statement_text s t r

-- Two children, the second at a number of its own.
pub record Two (tab : Table) (at next k x : ℕ) (t : Stmt) : Type 0 where
  pub first : Stmt
  pub second : Stmt
  pub first_stands : Stands tab (at + 1) first
  pub second_stands : Stands tab next second
  pub behind : at < next
  pub its_text : (s : Spot) (to half : ℕ) (r : List ℕ)
      → opening_text s k x (statement_text (inside s k (first_level k) to) first (between_text k s.indent (inside s k (first_level k) to).indent
      (statement_text (inside s k (second_level k) half) second (closing_text s k x r)))) ≡ statement_text s t r

module _ {tab : Table} {at : ℕ} {t : Stmt} (w : Stands tab at t) where
  pub in_table : at < 512
  in_table = omega (arith, w.room, some_statement t)

abbrev overs : List ℕ
overs = 20 ∷ 22 ∷ 24 ∷ 26 ∷ []

abbrev joins : List ℕ
joins = 19 ∷ 21 ∷ 23 ∷ []

-- The eleven statements.
module _ (s : Spot) (to : ℕ) where
  abbrev f : ℕ → List ℕ
  f = signal_word s.inputs s.outputs

  abbrev as_arms_of : ℕ → Stmt → Arms
  as_arms_of k p = (forms f trap_word k p).as_arms

  suspended : (x : ℕ) (p : Stmt) (r : List ℕ) → opening_text s 20 x (statement_text (inside s 20 level.Whole to) p (closing_text s 20 x r)) ≡ statement_text s (suspend p on x) r
  unfolding opening_text closing_text statement_text at_level forms inside bare row_text first_word middle_word last_word opening_name closing_name around listed arms_text
  suspended x p r = sym (pieces s 20 x (λ d q. shown_at s p s.traps level.Whole d q) (Suspend (as_arms_of s.traps p) (f x)) r refl refl refl)

  looped : (p : Stmt) (r : List ℕ) → opening_text s 22 0 (statement_text (inside s 22 level.Whole to) p (closing_text s 22 0 r)) ≡ statement_text s (loop p) r
  unfolding opening_text closing_text statement_text at_level forms inside bare row_text first_word middle_word last_word opening_name closing_name around listed arms_text
  looped p r = sym (pieces s 22 0 (λ d q. shown_at s p s.traps level.Whole d q) (Loop (as_arms_of s.traps p)) r refl refl refl)

  trapped : (p : Stmt) (r : List ℕ) → opening_text s 24 0 (statement_text (inside s 24 level.Whole to) p (closing_text s 24 0 r)) ≡ statement_text s (trap p) r
  unfolding opening_text closing_text statement_text at_level forms inside bare row_text first_word middle_word last_word opening_name closing_name around listed arms_text
  trapped p r = sym (pieces s 24 0 (λ d q. shown_at s p (suc s.traps) level.Whole d q) (Trap (trap_word s.traps) (as_arms_of (suc s.traps) p)) r refl refl refl)

  hidden : (x : ℕ) (p : Stmt) (r : List ℕ) → opening_text s 26 x (statement_text (inside s 26 level.Whole to) p (closing_text s 26 x r)) ≡ statement_text s (local x p) r
  unfolding opening_text closing_text statement_text at_level forms inside bare row_text first_word middle_word last_word opening_name closing_name around listed arms_text
  hidden x p r = sym (pieces s 26 x (λ d q. shown_at s p s.traps level.Whole d q) (Signal (f x) (as_arms_of s.traps p)) r refl refl refl)

  module _ (half : ℕ) where
    abbrev two_text : ℕ → ℕ → Stmt → Stmt → List ℕ → List ℕ
    two_text k x p q r =
        opening_text s k x (statement_text (inside s k (first_level k) to) p (between_text k s.indent (inside s k (first_level k) to).indent
        (statement_text (inside s k (second_level k) half) q (closing_text s k x r))))

    abbrev inside_two : Stmt → Stmt → ℕ → Level → Level → ℕ → List ℕ → List ℕ
    inside_two p q k m n d u = shown_at s p s.traps m d (between_text k s.indent d (shown_at s q s.traps n d u))

    tested : (x : ℕ) (p q : Stmt) (r : List ℕ) → two_text 19 x p q r ≡ statement_text s (present? x then p else q) r
    unfolding opening_text closing_text between_text statement_text at_level forms inside bare first_level second_level row_text first_word middle_word last_word opening_name closing_name around listed arms_text
    tested x p q r =
        sym (pieces s 19 x (λ d u. inside_two p q 19 level.Whole level.Whole d u)
        (Present (f x) (as_arms_of s.traps p) (as_arms_of s.traps q)) r refl refl refl)

    chained : (p q : Stmt) (r : List ℕ) → two_text 21 0 p q r ≡ statement_text s (p ⨾ q) r
    unfolding opening_text closing_text between_text statement_text at_level forms inside bare first_level second_level row_text first_word middle_word last_word opening_name closing_name around listed arms_text
    chained p q r = go s.level
      where
        go : (n : Level) → around s 21 0 (bare 21 n) (λ d u. inside_two p q 21 level.Basic level.Sequence d u) r ≡ shown_at s (p ⨾ q) s.traps n s.indent r
        go level.Basic = refl
        go level.Sequence = refl
        go level.Whole = refl

    paired : (p q : Stmt) (r : List ℕ) → two_text 23 0 p q r ≡ statement_text s (p parallel q) r
    unfolding opening_text closing_text between_text statement_text at_level forms inside bare first_level second_level row_text first_word middle_word last_word opening_name closing_name around listed arms_text
    paired p q r = go s.level
      where
        go : (n : Level) → around s 23 0 (bare 23 n) (λ d u. inside_two p q 23 level.Sequence level.Whole d u) r ≡ shown_at s (p parallel q) s.traps n s.indent r
        go level.Basic = refl
        go level.Sequence = refl
        go level.Whole = refl

-- The kinds with two children, and with one.
abbrev Joins : ℕ → Type 0
Joins k = (k ≡ 19) ⊎ ((k ≡ 21) ⊎ (k ≡ 23))

abbrev Overs : ℕ → Type 0
Overs k = (k ≡ 20) ⊎ ((k ≡ 22) ⊎ ((k ≡ 24) ⊎ (k ≡ 26)))

-- A statement without children is its opening piece.
leaf_of : (t : Stmt) {k : ℕ} → k ≡ kind_of t → (Joins k → ⊥) → (Overs k → ⊥) → (s : Spot) (r : List ℕ) → opening_text s (kind_of t) (operand_of t) r ≡ statement_text s t r
unfolding kind_of operand_of opening_text statement_text at_level forms bare row_text first_word middle_word last_word opening_name closing_name around listed arms_text
leaf_of nothing e a b s r = sym (pieces s 16 0 (λ d q. r) Nothing r refl refl refl)
leaf_of (pause n) e a b s r = sym (pieces s 17 n (λ d q. r) Pause r refl refl refl)
leaf_of (emit x) e a b s r = sym (pieces s 18 x (λ d q. r) (Emit (signal_word s.inputs s.outputs x)) r refl refl refl)
leaf_of (present? x then p else q) e a b s r = absurd (a (inl e))
leaf_of (suspend p on x) e a b s r = absurd (b (inl e))
leaf_of (p ⨾ q) e a b s r = absurd (a (inr (inl e)))
leaf_of (loop p) e a b s r = absurd (b (inr (inl e)))
leaf_of (p parallel q) e a b s r = absurd (a (inr (inr e)))
leaf_of (trap p) e a b s r = absurd (b (inr (inr (inl e))))
leaf_of (exit (depth x)) e a b s r = sym (pieces s 25 x (λ d q. r) (Exit (trap_word (s.traps - 1 - x))) r refl refl refl)
leaf_of (local x p) e a b s r = absurd (b (inr (inr (inr e))))

one_of : {tab : Table} {at : ℕ} (t : Stmt) → Stands tab at t → T (listed overs (kind_of t)) → One tab at (kind_of t) (operand_of t) t
unfolding kind_of operand_of listed Has statements
one_of nothing w x = absurd x
one_of (pause n) w x = absurd x
one_of (emit s) w x = absurd x
one_of (present? s then p else q) w x = absurd x
one_of (suspend p on s) w x = record { child = p; stands = record { has = w.has.1; room = omega (arith, w.room) }; its_text = λ u to r. suspended u to s p r }
one_of (p ⨾ q) w x = absurd x
one_of (loop p) w x = record { child = p; stands = record { has = w.has.1; room = omega (arith, w.room) }; its_text = λ u to r. looped u to p r }
one_of (p parallel q) w x = absurd x
one_of (trap p) w x = record { child = p; stands = record { has = w.has.1; room = omega (arith, w.room) }; its_text = λ u to r. trapped u to p r }
one_of (exit d) w x = absurd x
one_of (local s p) w x = record { child = p; stands = record { has = w.has.1; room = omega (arith, w.room) }; its_text = λ u to r. hidden u to s p r }

module _ {tab : Table} {at next : ℕ} (e : next ≡ at + 1 + get_or tab.sizes (at + 1) 0) where
  both : {k x : ℕ} {t : Stmt} (p q : Stmt) → Has tab (at + 1) p → Has tab (at + 1 + statements p) q → at + 1 + statements p + statements q ≤ 512
      → ((s : Spot) (to half : ℕ) (r : List ℕ) → two_text s to half k x p q r ≡ statement_text s t r) → Two tab at next k x t
  both p q h i l e_text =
      let place : next ≡ at + 1 + statements p = e ∙ ap (λ (n : ℕ). at + 1 + n) (has_row p h).its_size in
      record {
        first = p;
        second = q;
        first_stands = record { has = h; room = omega (arith, l) };
        second_stands = record { has = subst⁻¹ (λ (n : ℕ). Has tab n q) place i; room = omega (arith, place, l) };
        behind = omega (arith, place);
        its_text = e_text;
      }

  two_of : (t : Stmt) → Stands tab at t → T (listed joins (kind_of t)) → Two tab at next (kind_of t) (operand_of t) t
  unfolding kind_of operand_of listed Has statements
  two_of nothing w x = absurd x
  two_of (pause n) w x = absurd x
  two_of (emit s) w x = absurd x
  two_of (present? s then p else q) w x = both p q w.has.1 w.has.2 (omega (arith, w.room)) (λ u to half r. tested u to half s p q r)
  two_of (suspend p on s) w x = absurd x
  two_of (p ⨾ q) w x = both p q w.has.1 w.has.2 (omega (arith, w.room)) (λ u to half r. chained u to half p q r)
  two_of (loop p) w x = absurd x
  two_of (p parallel q) w x = both p q w.has.1 w.has.2 (omega (arith, w.room)) (λ u to half r. paired u to half p q r)
  two_of (trap p) w x = absurd x
  two_of (exit d) w x = absurd x
  two_of (local s p) w x = absurd x

-- By what the table has.
of_three : {a b c k : ℕ} → (k ≡ a) ⊎ ((k ≡ b) ⊎ (k ≡ c)) → T (listed (a ∷ b ∷ c ∷ []) k)
unfolding listed
of_three {a} {b} {c} {k} (inl e) = or_left (eqb k a) _ (eqb_in e)
of_three {a} {b} {c} {k} (inr (inl e)) = or_right (eqb k a) _ (or_left (eqb k b) _ (eqb_in e))
of_three {a} {b} {c} {k} (inr (inr e)) = or_right (eqb k a) _ (or_right (eqb k b) _ (or_left (eqb k c) false (eqb_in e)))

of_four : {a b c d k : ℕ} → (k ≡ a) ⊎ ((k ≡ b) ⊎ ((k ≡ c) ⊎ (k ≡ d))) → T (listed (a ∷ b ∷ c ∷ d ∷ []) k)
unfolding listed
of_four {a} {b} {c} {d} {k} (inl e) = or_left (eqb k a) _ (eqb_in e)
of_four {a} {b} {c} {d} {k} (inr s) = or_right (eqb k a) _ (of_three s)

kind_range : (t : Stmt) → (16 ≤ kind_of t) × (kind_of t ≤ 26)
unfolding kind_of
kind_range nothing = (lit≤ tt, lit≤ tt)
kind_range (pause n) = (lit≤ tt, lit≤ tt)
kind_range (emit s) = (lit≤ tt, lit≤ tt)
kind_range (present? s then p else q) = (lit≤ tt, lit≤ tt)
kind_range (suspend p on s) = (lit≤ tt, lit≤ tt)
kind_range (p ⨾ q) = (lit≤ tt, lit≤ tt)
kind_range (loop p) = (lit≤ tt, lit≤ tt)
kind_range (p parallel q) = (lit≤ tt, lit≤ tt)
kind_range (trap p) = (lit≤ tt, lit≤ tt)
kind_range (exit d) = (lit≤ tt, lit≤ tt)
kind_range (local s p) = (lit≤ tt, lit≤ tt)

module _ {tab : Table} {at : ℕ} {t : Stmt} (w : Stands tab at t) where
  abbrev k : ℕ
  k = get_or tab.kinds at 0

  abbrev x : ℕ
  x = get_or tab.operands at 0

  its_kind : k ≡ kind_of t
  its_kind = (has_row t w.has).its_kind

  its_operand : x ≡ operand_of t
  its_operand = (has_row t w.has).its_operand

  pub allowed : (16 ≤ k) × (k ≤ 26)
  allowed = subst⁻¹ (λ (n : ℕ). (16 ≤ n) × (n ≤ 26)) its_kind (kind_range t)

  pub leaf_text : (Joins k → ⊥) → (Overs k → ⊥) → (s : Spot) (r : List ℕ) → opening_text s k x r ≡ statement_text s t r
  leaf_text a b s r =
      ap (λ (n : ℕ). opening_text s n x r) its_kind ∙ ap (λ (n : ℕ). opening_text s (kind_of t) n r) its_operand ∙ leaf_of t its_kind a b s r

  pub one_child : Overs k → One tab at k x t
  one_child a =
      subst⁻¹ (λ (n : ℕ). One tab at n x t) its_kind (subst⁻¹ (λ (n : ℕ). One tab at (kind_of t) n t) its_operand
      (one_of t w (subst (λ (n : ℕ). T (listed overs n)) its_kind (of_four a))))

  pub two_children : Joins k → (next : ℕ) → (at + 1 < 512 → next ≡ at + 1 + get_or tab.sizes (at + 1) 0) → Two tab at next k x t
  two_children a next e =
      let h = subst (λ (n : ℕ). T (listed joins n)) its_kind (of_three a) in
      let there = two_of refl t w h in
      let place = e (omega (arith, there.first_stands.room, some_statement there.first)) in
      subst⁻¹ (λ (n : ℕ). Two tab at next n x t) its_kind (subst⁻¹ (λ (n : ℕ). Two tab at next (kind_of t) n t) its_operand (two_of place t w h))

-- What is put and what may be asked for, part by part; a child's spot is the one that the code made.
module _ (s : Spot) {tab : Table} {at k x : ℕ} {t : Stmt} {a b : List ℕ} {m : ℕ} where
  module _ (w : One tab at k x t) (p : Puts a b s.to m (opening_text s k x)) where
    abbrev body : List ℕ → List ℕ
    body r = statement_text (inside s k level.Whole m) w.child (closing_text s k x r)

    body_short : (r : List ℕ) {n : ℕ} → s.to + length (statement_text s t r) ≤ n → m + length (body r) ≤ n
    body_short r l = omega (arith, l, p.ends (body r), ap length (w.its_text s m r))

    module _ {u : Spot} (e : u ≡ inside s k level.Whole m) where
      pub over_asks : (r : List ℕ) → s.to + length (statement_text s t r) ≤ 1000000 → s.indent ≤ at → s.traps ≤ at → Asks tab (at + 1) u
      unfolding inside
      over_asks r l d j =
          let few = inside_few s k level.Whole m at (at + 1) d j (omega arith) in
          subst⁻¹ (λ (u : Spot). Asks tab (at + 1) u) e
          (record { tree = w.child; stands = w.stands; rest = closing_text s k x r; short = body_short r l; few_open = few.0; few_traps = few.1 })

      module _ {c : List ℕ} {i : ℕ} (q : Puts b c u.to i (statement_text u w.child)) where
        over_inside : Puts b c m i (statement_text (inside s k level.Whole m) w.child)
        unfolding inside
        over_inside = subst (λ (u : Spot). Puts b c u.to i (statement_text u w.child)) e q

        pub over_closes : (r : List ℕ) → s.to + length (statement_text s t r) ≤ 1000000 → i ≤ 2000000
        over_closes r l = omega (arith, body_short r l, over_inside.ends (closing_text s k x r))

        pub over_put : {d : List ℕ} {o : ℕ} → Puts c d i o (closing_text s k x) → Puts a d s.to o (statement_text s t)
        over_put z = told_as (w.its_text s m) (and_then (before body p) (and_then (before (closing_text s k x) over_inside) z))

  module _ {next : ℕ} (w : Two tab at next k x t) (p : Puts a b s.to m (opening_text s k x)) where
    abbrev inner : Spot
    inner = inside s k (first_level k) m

    abbrev second_body : ℕ → List ℕ → List ℕ
    second_body h r = statement_text (inside s k (second_level k) h) w.second (closing_text s k x r)

    abbrev between_body : ℕ → List ℕ → List ℕ
    between_body h r = between_text k s.indent inner.indent (second_body h r)

    abbrev first_body : ℕ → List ℕ → List ℕ
    first_body h r = statement_text inner w.first (between_body h r)

    first_short : (h : ℕ) (r : List ℕ) {n : ℕ} → s.to + length (statement_text s t r) ≤ n → m + length (first_body h r) ≤ n
    first_short h r l = omega (arith, l, p.ends (first_body h r), ap length (w.its_text s m h r))

    module _ {u : Spot} (e : u ≡ inside s k (first_level k) m) where
      pub first_asks : (r : List ℕ) → s.to + length (statement_text s t r) ≤ 1000000 → s.indent ≤ at → s.traps ≤ at → Asks tab (at + 1) u
      unfolding inside
      first_asks r l d j =
          let few = inside_few s k (first_level k) m at (at + 1) d j (omega arith) in
          subst⁻¹ (λ (u : Spot). Asks tab (at + 1) u) e
          (record { tree = w.first; stands = w.first_stands; rest = between_body 0 r; short = first_short 0 r l; few_open = few.0; few_traps = few.1 })

      module _ {c : List ℕ} {i : ℕ} (q : Puts b c u.to i (statement_text u w.first)) where
        first_inside : Puts b c m i (statement_text inner w.first)
        unfolding inside
        first_inside = subst (λ (u : Spot). Puts b c u.to i (statement_text u w.first)) e q

        between_short : (h : ℕ) (r : List ℕ) {n : ℕ} → s.to + length (statement_text s t r) ≤ n → i + length (between_body h r) ≤ n
        between_short h r l = omega (arith, first_short h r l, first_inside.ends (between_body h r))

        pub first_ends : (r : List ℕ) → s.to + length (statement_text s t r) ≤ 1000000 → i ≤ 2000000
        first_ends r l = omega (arith, between_short 0 r l)

        module _ {d : List ℕ} {h : ℕ} (v : Puts c d i h (between_text k s.indent u.indent)) where
          between_inside : Puts c d i h (between_text k s.indent inner.indent)
          between_inside = subst (λ (u : Spot). Puts c d i h (between_text k s.indent u.indent)) e v

          second_short : (r : List ℕ) {n : ℕ} → s.to + length (statement_text s t r) ≤ n → h + length (second_body h r) ≤ n
          second_short r l = omega (arith, between_short h r l, between_inside.ends (second_body h r))

          module _ {y : Spot} (g : y ≡ inside s k (second_level k) h) where
            pub second_asks : (r : List ℕ) → s.to + length (statement_text s t r) ≤ 1000000 → s.indent ≤ at → s.traps ≤ at → Asks tab next y
            unfolding inside
            second_asks r l d j =
                let few = inside_few s k (second_level k) h at next d j w.behind in
                subst⁻¹ (λ (u : Spot). Asks tab next u) g
                (record { tree = w.second; stands = w.second_stands; rest = closing_text s k x r; short = second_short r l; few_open = few.0; few_traps = few.1 })

            module _ {f : List ℕ} {o : ℕ} (z : Puts d f y.to o (statement_text y w.second)) where
              second_inside : Puts d f h o (statement_text (inside s k (second_level k) h) w.second)
              unfolding inside
              second_inside = subst (λ (u : Spot). Puts d f u.to o (statement_text u w.second)) g z

              pub joins_closes : (r : List ℕ) → s.to + length (statement_text s t r) ≤ 1000000 → o ≤ 2000000
              joins_closes r l = omega (arith, second_short r l, second_inside.ends (closing_text s k x r))

              pub joins_put : {l : List ℕ} {j : ℕ} → Puts f l o j (closing_text s k x) → Puts a l s.to j (statement_text s t)
              joins_put c =
                  told_as (w.its_text s m h) (and_then (before (first_body h) p) (and_then (before (between_body h) first_inside)
                  (and_then (before (second_body h) between_inside) (and_then (before (closing_text s k x) second_inside) c))))
