-- A number that is reached is one of the tree's, and the statement of that number is of the kind asked for: by induction over the statement, started and resumed. A
-- child's numbers are the tree's, so much later. Assumes nothing.
use mathlib.Core.Path.{◌≡◌, refl, sym, ◌∙◌, subst}
use mathlib.Core.Logic.{◌⊎◌, inl, inr}
use mathlib.Core.Bool.{Bool, true, false, cond}
use mathlib.Core.List.{◌∷◌, ◌++◌}
use Prim.Native.Nat.{ℕ, ◌+◌, ◌<◌}
use native.Mathlib.Omega.{arith}
use lib.Dec.{T, eqb→eq}
use Rattle.sets.specs.Numbers.{Numbers, empty, single, union, only_if}
use Rattle.sets.proofs.Members.{union_out, only_if_test, only_if_member, single_out}
use Rattle.rules.specs.Statements.{Stmt, nothing, pause, emit, present?◌then◌else◌, suspend◌on◌, ◌⨾◌, loop, ◌parallel◌, trap, exit, local, statements, preorder, numbered}
use Rattle.rules.specs.Events.{Status, present, absent, unknown, Event, giving}
use Rattle.rules.specs.Instant.{active, started, resumed}
use Rattle.rules.specs.MustCan.{must, gives}
use Rattle.rules.specs.States.{State, fresh, running, finished, executed_as, kept_by}
use Rattle.rules.specs.Taken.{Wanted, every, emit_of, undecided_test, wants, wants_emit, wants_test, itself_if, taken_started, taken_resumed, taken}
use Rattle.rules.proofs.Preorder.{some_statement, only_child, first_child, second_child}
use Rattle.theorems.specs.Why.{is_test}

-- The kind asked for.
abbrev pub Fits : Wanted → Stmt → Type 0
Fits every p = Unit {0}
Fits (emit_of s) p = p ≡ emit s
Fits undecided_test p = T (is_test p)

-- Number k is that of a statement of p, which has the number i itself, and that statement fits.
pub record Among (w : Wanted) (i : ℕ) (p : Stmt) (k : ℕ) : Type 0 where
  pub later : ℕ
  pub place : k ≡ i + later
  pub below : later < statements p
  pub fits : Fits w (numbered p later)

plain : (w : Wanted) (p : Stmt) → T (wants w) → Fits w p
plain every p t = tt
plain (emit_of s) p t = absurd t
plain undecided_test p t = absurd t

an_emit : (w : Wanted) (s : ℕ) → T (wants_emit w s) → Fits w (emit s)
an_emit every s t = tt
an_emit (emit_of r) s t = go (eqb→eq s r t)
  where
    go : s ≡ r → emit s ≡ emit r
    go e = λ i. emit (e i)
an_emit undecided_test s t = absurd t

a_test : (w : Wanted) (p : Stmt) (v : Status) → T (is_test p) → T (wants_test w v) → Fits w p
a_test every p v q t = tt
a_test (emit_of s) p v q t = absurd t
a_test undecided_test p v q t = q

-- All members of a set are such numbers.
pub record AllAmong (w : Wanted) (i : ℕ) (p : Stmt) (X : Numbers) : Type 0 where
  pub each : (k : ℕ) → T (X k) → Among w i p k

module _ {w : Wanted} {i : ℕ} {p : Stmt} where
  none_there : AllAmong w i p empty
  none_there = record { each = λ k t. absurd t }

  either_there : {X Y : Numbers} → AllAmong w i p X → AllAmong w i p Y → AllAmong w i p (union X Y)
  either_there {X} {Y} f g = record { each = λ k t. pick k (union_out X Y k t) }
    where
      pick : (k : ℕ) → T (X k) ⊎ T (Y k) → Among w i p k
      pick k (inl u) = f.each k u
      pick k (inr u) = g.each k u

  only_there : (b : Bool) {X : Numbers} → AllAmong w i p X → AllAmong w i p (only_if b X)
  only_there b {X} f = record { each = λ k t. f.each k (only_if_member b X k t) }

  by_status : (v : Status) {X Y : Numbers} → AllAmong w i p X → AllAmong w i p Y → AllAmong w i p (kept_by v X Y)
  by_status present f g = f
  by_status absent f g = g
  by_status unknown f g = none_there

  by_active : (b : Bool) {X Y : Numbers} → AllAmong w i p X → AllAmong w i p Y → AllAmong w i p (cond b X Y)
  by_active true f g = f
  by_active false f g = g

module _ (w : Wanted) (i : ℕ) where
  itself : (b : Bool) (p : Stmt) → (T b → Fits w (numbered p 0)) → AllAmong w i p (itself_if b i)
  itself b p f = record {
    each = λ k t. record {
      later = 0;
      place = single_out i k (only_if_member b (single i) k t) ∙ omega arith;
      below = some_statement p;
      fits = f (only_if_test b (single i) k t);
    };
  }

  in_only : (t p : Stmt) {X : Numbers} → preorder t ≡ t ∷ preorder p → statements t ≡ 1 + statements p → AllAmong w (i + 1) p X → AllAmong w i t X
  in_only t p e n f = record {
    each = λ k u.
        let a = f.each k u in
        record {
          later = 1 + a.later;
          place = omega (arith, a.place);
          below = omega (arith, a.below, n);
          fits = subst (Fits w) (sym (only_child t p e a.later)) a.fits;
        };
  }

  module _ (t p q : Stmt) (e : preorder t ≡ t ∷ preorder p ++ preorder q) (n : statements t ≡ 1 + statements p + statements q) where
    in_first : {X : Numbers} → AllAmong w (i + 1) p X → AllAmong w i t X
    in_first f = record {
      each = λ k u.
          let a = f.each k u in
          record {
            later = 1 + a.later;
            place = omega (arith, a.place);
            below = omega (arith, a.below, n);
            fits = subst (Fits w) (sym (first_child t p q e a.later a.below)) a.fits;
          };
    }

    in_second : {X : Numbers} → AllAmong w (i + 1 + statements p) q X → AllAmong w i t X
    in_second f = record {
      each = λ k u.
          let a = f.each k u in
          record {
            later = 1 + statements p + a.later;
            place = omega (arith, a.place);
            below = omega (arith, a.below, n);
            fits = subst (Fits w) (sym (second_child t p q e a.later)) a.fits;
          };
    }

pub started_among : (w : Wanted) (p : Stmt) (i : ℕ) (E : Event) → AllAmong w i p (taken_started w i p E)
unfolding taken_started preorder statements
started_among w nothing i E = itself w i (wants w) nothing (plain w nothing)
started_among w (pause n) i E = itself w i (wants w) (pause n) (plain w (pause n))
started_among w (emit s) i E = itself w i (wants_emit w s) (emit s) (an_emit w s)
started_among w (present? s then p else q) i E =
    either_there (itself w i (wants_test w (E s)) (present? s then p else q) (a_test w (present? s then p else q) (E s) tt))
    (by_status (E s) (in_first w i (present? s then p else q) p q refl refl (started_among w p (i + 1) E))
    (in_second w i (present? s then p else q) p q refl refl (started_among w q (i + 1 + statements p) E)))
started_among w (suspend p on s) i E =
    either_there (itself w i (wants w) (suspend p on s) (plain w (suspend p on s))) (in_only w i (suspend p on s) p refl refl (started_among w p (i + 1) E))
started_among w (p ⨾ q) i E =
    either_there (itself w i (wants w) (p ⨾ q) (plain w (p ⨾ q)))
    (either_there (in_first w i (p ⨾ q) p q refl refl (started_among w p (i + 1) E))
    (only_there ((gives must (started p) E).codes 0) (in_second w i (p ⨾ q) p q refl refl (started_among w q (i + 1 + statements p) E))))
started_among w (loop p) i E = either_there (itself w i (wants w) (loop p) (plain w (loop p))) (in_only w i (loop p) p refl refl (started_among w p (i + 1) E))
started_among w (p parallel q) i E =
    either_there (itself w i (wants w) (p parallel q) (plain w (p parallel q)))
    (either_there (in_first w i (p parallel q) p q refl refl (started_among w p (i + 1) E)) (in_second w i (p parallel q) p q refl refl (started_among w q (i + 1 + statements p) E)))
started_among w (trap p) i E = either_there (itself w i (wants w) (trap p) (plain w (trap p))) (in_only w i (trap p) p refl refl (started_among w p (i + 1) E))
started_among w (exit d) i E = itself w i (wants w) (exit d) (plain w (exit d))
started_among w (local s p) i E =
    either_there (itself w i (wants w) (local s p) (plain w (local s p)))
    (in_only w i (local s p) p refl refl (started_among w p (i + 1) (giving E s (executed_as s (started p) E))))

pub resumed_among : (w : Wanted) (A : Numbers) (p : Stmt) (i : ℕ) (E : Event) → AllAmong w i p (taken_resumed w A i p E)
unfolding taken_resumed preorder statements
resumed_among w A nothing i E = itself w i (wants w) nothing (plain w nothing)
resumed_among w A (pause n) i E = itself w i (wants w) (pause n) (plain w (pause n))
resumed_among w A (emit s) i E = itself w i (wants w) (emit s) (plain w (emit s))
resumed_among w A (present? s then p else q) i E =
    either_there (itself w i (wants w) (present? s then p else q) (plain w (present? s then p else q)))
    (by_active (active A p) (in_first w i (present? s then p else q) p q refl refl (resumed_among w A p (i + 1) E))
    (in_second w i (present? s then p else q) p q refl refl (resumed_among w A q (i + 1 + statements p) E)))
resumed_among w A (suspend p on s) i E =
    either_there (itself w i (wants_test w (E s)) (suspend p on s) (a_test w (suspend p on s) (E s) tt))
    (by_status (E s) none_there (in_only w i (suspend p on s) p refl refl (resumed_among w A p (i + 1) E)))
resumed_among w A (p ⨾ q) i E =
    either_there (itself w i (wants w) (p ⨾ q) (plain w (p ⨾ q)))
    (by_active (active A p)
    (either_there (in_first w i (p ⨾ q) p q refl refl (resumed_among w A p (i + 1) E))
    (only_there ((gives must (resumed A p) E).codes 0) (in_second w i (p ⨾ q) p q refl refl (started_among w q (i + 1 + statements p) E))))
    (in_second w i (p ⨾ q) p q refl refl (resumed_among w A q (i + 1 + statements p) E)))
resumed_among w A (loop p) i E =
    either_there (itself w i (wants w) (loop p) (plain w (loop p)))
    (either_there (in_only w i (loop p) p refl refl (resumed_among w A p (i + 1) E))
    (only_there ((gives must (resumed A p) E).codes 0) (in_only w i (loop p) p refl refl (started_among w p (i + 1) E))))
resumed_among w A (p parallel q) i E =
    either_there (itself w i (wants w) (p parallel q) (plain w (p parallel q)))
    (either_there (only_there (active A p) (in_first w i (p parallel q) p q refl refl (resumed_among w A p (i + 1) E)))
    (only_there (active A q) (in_second w i (p parallel q) p q refl refl (resumed_among w A q (i + 1 + statements p) E))))
resumed_among w A (trap p) i E = either_there (itself w i (wants w) (trap p) (plain w (trap p))) (in_only w i (trap p) p refl refl (resumed_among w A p (i + 1) E))
resumed_among w A (exit d) i E = itself w i (wants w) (exit d) (plain w (exit d))
resumed_among w A (local s p) i E =
    either_there (itself w i (wants w) (local s p) (plain w (local s p)))
    (in_only w i (local s p) p refl refl (resumed_among w A p (i + 1) (giving E s (executed_as s (resumed A p) E))))

taken_among : (w : Wanted) (p : Stmt) (st : State) (E : Event) → AllAmong w 0 p (taken w p st E)
unfolding taken
taken_among w p fresh E = started_among w p 0 E
taken_among w p (running A) E = resumed_among w A p 0 E
taken_among w p finished E = none_there

-- Of a block's tree: the number is below the count, and the statement of that number fits.
module _ (w : Wanted) (p : Stmt) (st : State) (E : Event) (k : ℕ) (t : T (taken w p st E k)) where
  pub taken_below : k < statements p
  taken_below = let a = (taken_among w p st E).each k t in omega (arith, a.place, a.below)

  pub taken_fits : Fits w (numbered p k)
  taken_fits = let a = (taken_among w p st E).each k t in subst (λ (j : ℕ). Fits w (numbered p j)) (omega (arith, a.place)) a.fits
