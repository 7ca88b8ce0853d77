-- What may be remembered of a step from one event to another: all of it, where the two agree on the signals that it reads; what must gave with a code, and a local's
-- status that was settled, where the first lies below the second there. The first of two such events is completed by the second outside what is read, so
-- that the laws for events that compare everywhere apply. Assumes nothing.
use mathlib.Core.Path.{◌≡◌, refl, sym, ap, ap₂, ◌∙◌, subst, subst⁻¹}
use mathlib.Core.Bool.{Bool, true, false, cond, ◌&&◌}
use Prim.Native.Nat.{ℕ}
use lib.Dec.{T, eqb}
use borrow.Author.Tests.{eqb-false}
use Rattle.sets.specs.Numbers.{Numbers, empty, single, union, without}
use Rattle.sets.proofs.Members.{union_left, union_right, without_in, eqb_in}
use Rattle.rules.specs.Events.{Status, present, absent, unknown, Event, giving}
use Rattle.rules.specs.Instant.{Step, done, stay, say, leave, test, catch, scope, chain, beside}
use Rattle.rules.specs.MustCan.{Mark, plus, opened, Question, must, can, Given, in_doubt, choose, caught, both, followed, onward, absence_asked, local_status, hidden, gives}
use Rattle.rules.specs.States.{executed_as}
use Rattle.theorems.specs.Order.{Below, ◌⊑◌, Agree, BelowOn, Inside}
use Rattle.theorems.proofs.Forms.{inside_trans, inside_antisym}
use Rattle.theorems.proofs.MustInCan.{must_in_can}
use Rattle.theorems.proofs.Compare.{below_refl, giving_below, marked_below, must_grows, can_shrinks}
use Rattle.theorems.proofs.Exact.{exact}

-- The signals that a step asks for: those that it tests, without the locals declared in it.
unfoldable pub reads : Step → Numbers
reads done = empty
reads (stay A) = empty
reads (say s) = empty
reads (leave d) = empty
reads (test s p q) = union (single s) (union (reads p) (reads q))
reads (catch p) = reads p
reads (scope s p) = without s (reads p)
reads (chain p q) = union (reads p) (reads q)
reads (beside p q) = union (reads p) (reads q)

pub agree_left : (R S : Numbers) {E F : Event} → Agree (union R S) E F → Agree R E F
agree_left R S h = record { at = λ n t. h.at n (union_left R S n t) }

pub agree_right : (R S : Numbers) {E F : Event} → Agree (union R S) E F → Agree S E F
agree_right R S h = record { at = λ n t. h.at n (union_right R S n t) }

pub agree_inside : {R : Numbers} {E F : Event} (s : ℕ) (v : Status) → Agree (without s R) E F → Agree R (giving E s v) (giving F s v)
agree_inside {R} {E} {F} s v h = record { at = λ n t. go n t (eqb n s) refl }
  where
    go : (n : ℕ) → T (R n) → (b : Bool) → eqb n s ≡ b → cond b v (E n) ≡ cond b v (F n)
    go n t true e = refl
    go n t false e = h.at n (without_in s R n t (eqb-false n s e))

pub local_to : (k : Question) (p : Step) {E F : Event} → Agree (reads p) E F → gives k p E ≡ gives k p F
unfolding gives reads
local_to k done h = refl
local_to k (stay A) h = refl
local_to k (say s) h = refl
local_to k (leave d) h = refl
local_to k (test s p q) {E} {F} h =
    let l = agree_right (single s) (union (reads p) (reads q)) h in
    let a = agree_left (reads p) (reads q) l in
    let b = agree_right (reads p) (reads q) l in
    let v : E s ≡ F s = h.at s (union_left (single s) (union (reads p) (reads q)) s (eqb_in {m = s} refl)) in
    λ i. choose k (v i) (local_to k p a i) (local_to k q b i) (local_to (in_doubt k) p a i) (local_to (in_doubt k) q b i)
local_to k (catch p) h = ap caught (local_to k p h)
local_to k (scope s p) {E} {F} h =
    let v = ap₂ (λ (x y : Given). local_status k s x y) (local_to must p (agree_inside s unknown h)) (local_to (absence_asked k) p (agree_inside s unknown h)) in
    ap (hidden s) (ap (λ (x : Status). gives k p (giving E s x)) v ∙ local_to k p (agree_inside s _ h))
local_to k (chain p q) {E} {F} h =
    let a = agree_left (reads p) (reads q) h in
    let b = agree_right (reads p) (reads q) h in
    ap₂ followed (local_to k p a)
    (ap (λ (x : Given). gives (onward k (x.codes 0)) q E) (local_to must p a) ∙ local_to (onward k ((gives must p F).codes 0)) q b)
local_to k (beside p q) h = ap₂ both (local_to k p (agree_left (reads p) (reads q) h)) (local_to k q (agree_right (reads p) (reads q) h))

-- The first event on these signals, the second elsewhere.
abbrev pub filled : Numbers → Event → Event → Event
filled R E F n = cond (R n) (E n) (F n)

pub filled_below : {R : Numbers} {E F : Event} → BelowOn R E F → filled R E F ⊑ F
filled_below {R} {E} {F} h = record { at = λ n. go n (R n) refl }
  where
    go : (n : ℕ) (b : Bool) → R n ≡ b → Below (cond b (E n) (F n)) (F n)
    go n true e = h.at n (subst⁻¹ T e tt)
    go n false e = below_refl (F n)

pub filled_agrees : (R : Numbers) (E F : Event) → Agree R E (filled R E F)
filled_agrees R E F = record { at = λ n t. go n (R n) t }
  where
    go : (n : ℕ) (b : Bool) → T b → E n ≡ cond b (E n) (F n)
    go n true t = refl
    go n false t = absurd t

-- What must gave with a code is what must and can under plus give at every event above.
pub decided : (p : Step) (c : ℕ) {E F : Event} → BelowOn (reads p) E F → T ((gives must p E).codes c)
    → (gives must p F ≡ gives must p E) × (gives (can plus) p F ≡ gives must p E)
decided p c {E} {F} h t =
    let M = filled (reads p) E F in
    let m : gives must p E ≡ gives must p M = local_to must p (filled_agrees (reads p) E F) in
    let up : Inside (gives must p M) (gives must p F) = must_grows p (filled_below h) in
    let down : Inside (gives (can plus) p F) (gives must p M) =
    subst (λ (g : Given). Inside (gives (can plus) p F) g) (exact p M c (subst (λ (g : Given). T (g.codes c)) m t)) (can_shrinks p plus (filled_below h)) in
    let within : Inside (gives must p F) (gives (can plus) p F) = must_in_can p F in (
      inside_antisym (inside_trans within down) up ∙ sym m,
      inside_antisym down (inside_trans up within) ∙ sym m,
    )

-- The status that a local's body settles, by the mark it is asked under, is the same at every event above that at which it was known.
pub status_rises : (m : Mark) (s : ℕ) (p : Step) {E F : Event} → E ⊑ F
    → Below (local_status (can m) s (gives must p E) (gives (can m) p E)) (local_status (can m) s (gives must p F) (gives (can m) p F))
status_rises plus s p {E} {F} h =
    marked_below ((gives must p E).signals s) ((gives (can plus) p E).signals s) ((gives must p F).signals s) ((gives (can plus) p F).signals s)
    ((must_grows p h).of_signals.at s) ((can_shrinks p plus h).of_signals.at s) ((must_in_can p F).of_signals.at s)
status_rises opened s p {E} {F} h =
    marked_below false ((gives (can opened) p E).signals s) false ((gives (can opened) p F).signals s) (λ t. t) ((can_shrinks p opened h).of_signals.at s) (λ t. absurd t)

-- A local's status that is settled at an event stays so at every event above: as it is executed, and as can finds it under open.
module _ (s : ℕ) (p : Step) {E F : Event} (h : BelowOn (without s (reads p)) E F) where
  abbrev M : Event
  M = filled (without s (reads p)) E F

  same_body : (k : Question) → gives k p (giving E s unknown) ≡ gives k p (giving M s unknown)
  same_body k = local_to k p (agree_inside s unknown (filled_agrees (without s (reads p)) E F))

  rises : giving M s unknown ⊑ giving F s unknown
  rises = giving_below s unknown unknown (filled_below h) tt

  pub settled_executed : Below (executed_as s p E) (executed_as s p F)
  settled_executed =
      subst⁻¹ (λ (v : Status). Below v (executed_as s p F))
      (ap₂ (λ (x y : Given). local_status must s x y) (same_body must) (same_body (can plus))) (status_rises plus s p rises)

  pub settled_opened : (gives (can opened) p (giving E s unknown)).signals s ≡ false → (gives (can opened) p (giving F s unknown)).signals s ≡ false
  settled_opened e = go ((gives (can opened) p (giving F s unknown)).signals s) refl
    where
      go : (b : Bool) → (gives (can opened) p (giving F s unknown)).signals s ≡ b → b ≡ false
      go false z = refl
      go true z =
          let t = (can_shrinks p opened rises).of_signals.at s (subst⁻¹ T z tt) in
          absurd (subst T (ap (λ (g : Given). g.signals s) (sym (same_body (can opened))) ∙ e) t)
