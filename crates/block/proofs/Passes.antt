-- What is known of a record that passes all tests, and the bounds that this keeps.
use mathlib.Core.Path.{◌≡◌, refl, sym, ◌∙◌, ap}
use mathlib.Core.Logic.{◌⊎◌, inl, inr, ⊎_elim}
use mathlib.Core.Bool.{Bool, true, false, not, cond, ◌&&◌, ◌||◌}
use mathlib.Core.List.{List}
use Prim.Native.Nat.{ℕ, suc, ◌+◌, ◌-◌, ◌≤◌, ◌<◌}
use native.Mathlib.Omega.{arith}
use lib.Dec.{T, eqb, ltb, leb}
use lib.ListN.{length}
use borrow.Author.Tests.{ltb-true, ltb-false, leb-true, leb-false, eqb-true, eqb-false, not-false, eq-eqb, ne_eqb, lt-ltb, le-leb, lt-leb, le-ltb}
use Rattle.sets.proofs.Members.{of_true, is_true}
use Rattle.block.specs.Format.{Header, Around, Sofar, length_at, kind_at, operand_at, is_broken, declared_here, over_limit, wrong_signal, wrong_exit, fault_as, statement_fault}
use Rattle.tables.specs.Kinds.{length_of}
use Rattle.block.proofs.Views.{Kind, kind?, known_length}
use Rattle.block.proofs.Tests.{fault_due, as_last}

-- A record of kind k with operand x that passes.
pub record Passes (room end : ℕ) (h : Header) (a : Around) (r : Sofar) (k x : ℕ) : Type 0 where
  pub its_kind : Kind k
  pub ends : r.place + length_of k ≤ end
  pub roomy : room ≡ 0 → ⊥
  pub counted : r.statements < 512
  pub pausing : k ≡ 17 → r.pauses < 128
  pub trapping : k ≡ 24 → a.traps < 16
  pub nesting : k ≡ 26 → a.nested < 6
  pub emitting : k ≡ 18 → (h.inputs ≤ x) × T (declared_here h a x)
  pub testing : (k ≡ 19) ⊎ (k ≡ 20) → T (declared_here h a x)
  pub declaring : k ≡ 26 → (r.locals < h.locals) × (x ≡ h.inputs + h.outputs + r.locals)
  pub exiting : k ≡ 25 → x < a.traps

pub none_of : (t : Bool) (n m : ℕ) → cond t (suc n) m ≡ 0 → (t ≡ false) × (m ≡ 0)
none_of true n m e = absurd (omega arith)
none_of false n m e = (refl, e)

or_left : (s t : Bool) → (s || t) ≡ false → s ≡ false
or_left true t e = e
or_left false t e = refl

or_right : (s t : Bool) → (s || t) ≡ false → t ≡ false
or_right true t e = absurd (true≠false e)
  where
    true≠false : true ≡ false → ⊥
    true≠false e = let z : ◌≡◌ {A = ℕ} 0 1 = cc in omega arith
or_right false t e = e

-- A test of a kind that is known.
and_then_not : (s t : Bool) → (s && t) ≡ false → s ≡ true → t ≡ false
and_then_not true t e h = e
and_then_not false t e h = let z : ◌≡◌ {A = ℕ} 0 1 = cc in absurd (omega arith)

and_both : (s t : Bool) → not (s && t) ≡ false → (s ≡ true) × (t ≡ true)
and_both true true e = (refl, refl)
and_both true false e = let z : ◌≡◌ {A = ℕ} 0 1 = cc in absurd (omega arith)
and_both false t e = let z : ◌≡◌ {A = ℕ} 0 1 = cc in absurd (omega arith)

either_true : (s t : Bool) → (s ≡ true) ⊎ (t ≡ true) → (s || t) ≡ true
either_true true t e = refl
either_true false t (inl e) = let z : ◌≡◌ {A = ℕ} 0 1 = cc in absurd (omega arith)
either_true false t (inr e) = e

-- The five tests of a record as one of kind k.
record Tests (room : ℕ) (b : List ℕ) (h : Header) (a : Around) (r : Sofar) (k : ℕ) : Type 0 where
  whole : is_broken b r.place ≡ false
  right : not (eqb (length_of k) (length_at b r.place)) ≡ false
  within : over_limit room a r k ≡ false
  signal : wrong_signal h a r k (operand_at b r.place) ≡ false
  exits : wrong_exit a k (operand_at b r.place) ≡ false

tests : (room : ℕ) (b : List ℕ) (h : Header) (a : Around) (r : Sofar) (k : ℕ) → fault_as room b h a r k ≡ 0 → Tests room b h a r k
unfolding fault_as
tests room b h a r k e =
    let e₂ = none_of _ 0 _ e in
    let e₃ = none_of _ 1 _ e₂.1 in
    let e₄ = none_of _ 3 _ e₃.1 in
    let e₅ = none_of _ 4 _ e₄.1 in
    let e₆ = none_of _ 5 _ e₅.1 in
    record { whole = e₂.0; right = e₃.0; within = e₄.0; signal = e₅.0; exits = e₆.0 }

-- A statement's record that passes is due, and passes as one of its kind.
due_good : (room : ℕ) (b : List ℕ) (h : Header) (a : Around) (r : Sofar) → statement_fault room b h a r ≡ 0
    → (r.place < length b) × (fault_as room b h a r (kind_at b r.place) ≡ 0)
unfolding statement_fault
due_good room b h a r e = let e₁ = none_of _ 6 _ e in (leb-false (length b) r.place e₁.0, e₁.1)

pub broken_none : (b : List ℕ) (at : ℕ) → is_broken b at ≡ false → (4 ≤ length b - at) × (4 ≤ length_at b at) × (length_at b at ≤ length b - at)
unfolding is_broken
broken_none b at e =
    let e₁ = or_left (ltb (length b - at) 4) (ltb (length_at b at) 4 || ltb (length b - at) (length_at b at)) e in
    let e₂ = or_right (ltb (length b - at) 4) (ltb (length_at b at) 4 || ltb (length b - at) (length_at b at)) e in
    let e₃ = or_left (ltb (length_at b at) 4) (ltb (length b - at) (length_at b at)) e₂ in
    let e₄ = or_right (ltb (length_at b at) 4) (ltb (length b - at) (length_at b at)) e₂ in
    (ltb-false _ _ e₁, ltb-false _ _ e₃, ltb-false _ _ e₄)

record Limits (room : ℕ) (a : Around) (r : Sofar) (k : ℕ) : Type 0 where
  roomy : room ≡ 0 → ⊥
  counted : r.statements < 512
  pausing : k ≡ 17 → r.pauses < 128
  trapping : k ≡ 24 → a.traps < 16
  nesting : k ≡ 26 → a.nested < 6

limits : (room : ℕ) (a : Around) (r : Sofar) (k : ℕ) → over_limit room a r k ≡ false → Limits room a r k
unfolding over_limit
limits room a r k e =
    let c₁ = eqb room 0 in
    let c₂ = leb 512 r.statements in
    let c₃ = eqb k 17 && leb 128 r.pauses in
    let c₄ = eqb k 24 && leb 16 a.traps in
    let c₅ = eqb k 26 && leb 6 a.nested in
    let e₂ = or_right c₁ (c₂ || (c₃ || (c₄ || c₅))) e in
    let e₃ = or_right c₂ (c₃ || (c₄ || c₅)) e₂ in
    let e₄ = or_right c₃ (c₄ || c₅) e₃ in
    record {
      roomy = eqb-false room 0 (or_left c₁ (c₂ || (c₃ || (c₄ || c₅))) e);
      counted = leb-false 512 r.statements (or_left c₂ (c₃ || (c₄ || c₅)) e₂);
      pausing = λ i. leb-false 128 r.pauses (and_then_not (eqb k 17) (leb 128 r.pauses) (or_left c₃ (c₄ || c₅) e₃) (eq-eqb k 17 i));
      trapping = λ i. leb-false 16 a.traps (and_then_not (eqb k 24) (leb 16 a.traps) (or_left c₄ c₅ e₄) (eq-eqb k 24 i));
      nesting = λ i. leb-false 6 a.nested (and_then_not (eqb k 26) (leb 6 a.nested) (or_right c₄ c₅ e₄) (eq-eqb k 26 i));
    }

record Signals (h : Header) (a : Around) (r : Sofar) (k x : ℕ) : Type 0 where
  emitting : k ≡ 18 → (h.inputs ≤ x) × T (declared_here h a x)
  testing : (k ≡ 19) ⊎ (k ≡ 20) → T (declared_here h a x)
  declaring : k ≡ 26 → (r.locals < h.locals) × (x ≡ h.inputs + h.outputs + r.locals)

signals : (h : Header) (a : Around) (r : Sofar) (k x : ℕ) → wrong_signal h a r k x ≡ false → Signals h a r k x
unfolding wrong_signal
signals h a r k x e =
    let here = declared_here h a x in
    let n₁ = not (leb h.inputs x && here) in
    let next = ltb r.locals h.locals && eqb x (h.inputs + h.outputs + r.locals) in
    let c₁ = eqb k 18 && n₁ in
    let c₂ = (eqb k 19 || eqb k 20) && not here in
    let c₃ = eqb k 26 && not next in
    let e₂ = or_right c₁ (c₂ || c₃) e in
    record {
      emitting = λ i.
          let both = and_both (leb h.inputs x) here (and_then_not (eqb k 18) n₁ (or_left c₁ (c₂ || c₃) e) (eq-eqb k 18 i)) in
          (leb-true h.inputs x both.0, of_true both.1);
      testing = λ i.
          of_true (not-false here (and_then_not (eqb k 19 || eqb k 20) (not here) (or_left c₂ c₃ e₂)
          (either_true (eqb k 19) (eqb k 20) (⊎_elim (λ j. inl (eq-eqb k 19 j)) (λ j. inr (eq-eqb k 20 j)) i))));
      declaring = λ i.
          let both = and_both (ltb r.locals h.locals) (eqb x (h.inputs + h.outputs + r.locals)) (and_then_not (eqb k 26) (not next) (or_right c₂ c₃ e₂) (eq-eqb k 26 i)) in
          (ltb-true _ _ both.0, eqb-true _ _ both.1);
    }

exit_below : (a : Around) (k x : ℕ) → wrong_exit a k x ≡ false → k ≡ 25 → x < a.traps
unfolding wrong_exit
exit_below a k x e i = leb-false a.traps x (and_then_not (eqb k 25) (leb a.traps x) e (eq-eqb k 25 i))

pub passes_as : (room : ℕ) (b : List ℕ) (h : Header) (a : Around) (r : Sofar) (k : ℕ) → r.place < length b → fault_as room b h a r k ≡ 0
    → Passes room (length b) h a r k (operand_at b r.place)
passes_as room b h a r k due e =
    let t = tests room b h a r k e in
    let x = operand_at b r.place in
    let w = broken_none b r.place t.whole in
    let l : length_of k ≡ length_at b r.place = eqb-true _ _ (not-false _ t.right) in
    let m = limits room a r k t.within in
    let s = signals h a r k x t.signal in
    record {
      its_kind = kind? k (λ z. absurd (omega (arith, w.1, l, z)));
      ends = omega (arith, w.0, w.2, l, due);
      roomy = m.roomy;
      counted = m.counted;
      pausing = m.pausing;
      trapping = m.trapping;
      nesting = m.nesting;
      emitting = s.emitting;
      testing = s.testing;
      declaring = s.declaring;
      exiting = exit_below a k x t.exits;
    }

pub passes : (room : ℕ) (b : List ℕ) (h : Header) (a : Around) (r : Sofar) → statement_fault room b h a r ≡ 0
    → Passes room (length b) h a r (kind_at b r.place) (operand_at b r.place)
passes room b h a r e = let d = due_good room b h a r e in passes_as room b h a r (kind_at b r.place) d.0 d.1

-- A record that passes has its kind's length.
pub right_length : (room : ℕ) (b : List ℕ) (h : Header) (a : Around) (r : Sofar) → statement_fault room b h a r ≡ 0
    → length_of (kind_at b r.place) ≡ length_at b r.place
right_length room b h a r e = eqb-true _ _ (not-false _ (tests room b h a r (kind_at b r.place) (due_good room b h a r e).1).right)

-- The other way: a record of which all this is known passes.
both_false : (s t : Bool) → s ≡ false → t ≡ false → (s || t) ≡ false
both_false s t e f = ap (λ (z : Bool). z || t) e ∙ f

when_false : (s t : Bool) → (s ≡ true → t ≡ false) → (s && t) ≡ false
when_false true t f = f refl
when_false false t f = refl

not_both : (s t : Bool) → s ≡ true → t ≡ true → not (s && t) ≡ false
not_both s t e f = ap (λ (z : Bool). not (z && t)) e ∙ ap not f

module _ {room end : ℕ} {h : Header} {a : Around} {r : Sofar} {k x : ℕ} (p : Passes room end h a r k x) where
  within_limits : over_limit room a r k ≡ false
  unfolding over_limit
  within_limits =
      both_false _ _ (ne_eqb room 0 p.roomy)
      (both_false _ _ (lt-leb 512 r.statements p.counted)
      (both_false _ _ (when_false (eqb k 17) _ (λ e. lt-leb 128 r.pauses (p.pausing (eqb-true k 17 e))))
      (both_false _ _ (when_false (eqb k 24) _ (λ e. lt-leb 16 a.traps (p.trapping (eqb-true k 24 e))))
      (when_false (eqb k 26) _ (λ e. lt-leb 6 a.nested (p.nesting (eqb-true k 26 e)))))))

  tested : (eqb k 19 || eqb k 20) ≡ true → not (declared_here h a x) ≡ false
  tested e = ap not (is_true (declared_here h a x) (p.testing (go (eqb k 19) refl e)))
    where
      go : (z : Bool) → eqb k 19 ≡ z → (z || eqb k 20) ≡ true → (k ≡ 19) ⊎ (k ≡ 20)
      go true f e = inl (eqb-true k 19 f)
      go false f e = inr (eqb-true k 20 e)

  right_signal : wrong_signal h a r k x ≡ false
  unfolding wrong_signal
  right_signal =
      both_false _ _
      (when_false (eqb k 18) _ (λ e. let f = p.emitting (eqb-true k 18 e) in not_both _ _ (le-leb h.inputs x f.0) (is_true (declared_here h a x) f.1)))
      (both_false _ _ (when_false (eqb k 19 || eqb k 20) _ tested)
      (when_false (eqb k 26) _ (λ e. let f = p.declaring (eqb-true k 26 e) in not_both _ _ (lt-ltb r.locals h.locals f.0) (eq-eqb x _ f.1))))

  right_exit : wrong_exit a k x ≡ false
  unfolding wrong_exit
  right_exit = when_false (eqb k 25) _ (λ e. lt-leb a.traps x (p.exiting (eqb-true k 25 e)))

pub is_whole : (b : List ℕ) (at : ℕ) → 4 ≤ length b - at → 4 ≤ length_at b at → length_at b at ≤ length b - at → is_broken b at ≡ false
unfolding is_broken
is_whole b at f g h = both_false _ _ (le-ltb (length b - at) 4 f) (both_false _ _ (le-ltb (length_at b at) 4 g) (le-ltb (length b - at) (length_at b at) h))

pub no_fault : (room : ℕ) (b : List ℕ) (h : Header) (a : Around) (r : Sofar) → length_of (kind_at b r.place) ≡ length_at b r.place
    → Passes room (length b) h a r (kind_at b r.place) (operand_at b r.place) → statement_fault room b h a r ≡ 0
no_fault room b h a r e p =
    let l = known_length p.its_kind in
    let ends = p.ends in
    let long : 4 ≤ length_at b r.place = omega (arith, e) in
    fault_due room b h a r (omega arith) _ refl
    ∙ as_last room b h a r _ (is_whole b r.place (omega arith) long (omega (arith, e))) _ refl e (within_limits p) _ refl (right_signal p) false (sym (right_exit p))
