-- Where must has a code, any two assignments to the locals that agree with the execution are the same wherever a body is executed: by
-- induction over the step. A local's status is settled, and both assignments are what it is settled as. Assumes nothing.
use mathlib.Core.Path.{◌≡◌, refl, sym, ◌∙◌, subst}
use mathlib.Core.Bool.{Bool, true, false, cond}
use Prim.Native.Nat.{ℕ}
use lib.Dec.{T, eqb, eqb→eq}
use Rattle.sets.specs.Numbers.{Numbers}
use Rattle.sets.proofs.Members.{of_true, of_false, eqb_in}
use Rattle.sets.proofs.Maxima.{maxima_out, downs_out}
use Rattle.rules.specs.Events.{Status, present, absent, unknown, Event, giving, known}
use Rattle.rules.specs.Instant.{Step, done, stay, say, leave, test, catch, scope, chain, beside}
use Rattle.rules.specs.MustCan.{plus, must, can, Given, choose, marked, gives}
use Rattle.rules.specs.States.{executed_as}
use Rattle.rules.specs.Coherence.{Locals, assigning, execute, LocalsAgree}
use Rattle.theorems.specs.Order.{Below, ◌⊑◌, whole}
use Rattle.theorems.specs.Reactions.{SameLocals}
use Rattle.theorems.proofs.Exact.{FirstOrBoth, only_first, then_second, first_or_both, can_in_must}
use Rattle.theorems.proofs.Sound.{not_both, giving_whole, executed_below, if_so, sound, code_of_run}

-- A local's status is known where must has a code, so only one assignment lies above it.
known_one : (v w : Bool) → known v ≡ known w → v ≡ w
known_one true true e = refl
known_one true false e = absurd (not_both e)
known_one false true e = absurd (not_both (sym e))
known_one false false e = refl

module _ (s : ℕ) (p : Step) (E : Event) (c : ℕ) (v w : Bool) where
  settled_one : (m k : Bool) → (gives must p (giving E s unknown)).signals s ≡ m → (gives (can plus) p (giving E s unknown)).signals s ≡ k
      → T ((gives must p (giving E s (marked m k unknown))).codes c) → Below (marked m k unknown) (known v) → Below (marked m k unknown) (known w) → v ≡ w
  settled_one true k d e t h l = known_one v w (h ∙ sym l)
  settled_one false false d e t h l = known_one v w (h ∙ sym l)
  settled_one false true d e t h l = absurd (of_false d ((can_in_must p (giving E s unknown) c t).of_signals.at s (of_true e)))

test_same : (b : Bool) (v : Status) (c : ℕ) (m n : Given) {A B A' B' C D : Type 0} → Below v (known b) → T ((choose must v m n m n).codes c)
    → (A → A' → T (m.codes c) → C) → (B → B' → T (n.codes c) → D) → cond b A B → cond b A' B' → cond b C D
test_same true present c m n h t f g a x = f a x t
test_same true absent c m n h t f g a x = absurd (not_both h)
test_same true unknown c m n h t f g a x = absurd t
test_same false present c m n h t f g a x = absurd (not_both (sym h))
test_same false absent c m n h t f g a x = g a x t
test_same false unknown c m n h t f g a x = absurd t

provided : (z : Bool) {A : Type 0} → (T z → A) → cond z A (Unit {0})
provided true f = f tt
provided false f = tt

-- The second part is executed only where must has the code from it.
pub from_second : (p q : Step) (E : Event) (c d : ℕ) → ((e : ℕ) → T ((gives must p E).codes e) → e ≡ d) → FirstOrBoth (gives must p E) (gives must q E) c → T (eqb d 0) → T ((gives must q E).codes c)
from_second p q E c d f (only_first t n) z = absurd (n (f c t ∙ eqb→eq d 0 z))
from_second p q E c d f (then_second y t) z = t

pub first_code : {m n : Given} {c : ℕ} → FirstOrBoth m n c → (e : ℕ) × T (m.codes e)
first_code {c = c} (only_first t n) = (c, t)
first_code (then_second y t) = (0, y)

pub same_locals : (p : Step) (l m : Locals p) (W : Numbers) → LocalsAgree p l W → LocalsAgree p m W → (E : Event) → E ⊑ whole W
    → (c : ℕ) → T ((gives must p E).codes c) → SameLocals p l m W
unfolding gives LocalsAgree SameLocals
same_locals done l m W a x E h c t = tt
same_locals (stay A) l m W a x E h c t = tt
same_locals (say s) l m W a x E h c t = tt
same_locals (leave d) l m W a x E h c t = tt
same_locals (test s p q) l m W a x E h c t =
    test_same (W s) (E s) c (gives must p E) (gives must q E) (h.at s) t
    (λ b y. same_locals p l.0 m.0 W b y E h c) (λ b y. same_locals q l.1 m.1 W b y E h c) a x
same_locals (catch p) l m W a x E h c t = let r = downs_out (gives must p E).codes c t in same_locals p l m W a x E h r.0 r.1
same_locals (scope s p) l m W a x E h c t =
    let W' : Numbers = assigning W s l.0 in
    let W'' : Numbers = assigning W s m.0 in
    let f : Below (executed_as s p E) (known l.0) =
    executed_below s p E l.0 (execute p l.1 W') a.0 (sound p l.1 W' a.1 (giving E s unknown) (giving_whole W s unknown l.0 h tt)) in
    let g : Below (executed_as s p E) (known m.0) =
    executed_below s p E m.0 (execute p m.1 W'') x.0 (sound p m.1 W'' x.1 (giving E s unknown) (giving_whole W s unknown m.0 h tt)) in
    let e : l.0 ≡ m.0 = settled_one s p E c l.0 m.0 ((gives must p (giving E s unknown)).signals s) ((gives (can plus) p (giving E s unknown)).signals s) refl refl t f g in (
      e,
      same_locals p l.1 m.1 W' a.1 (subst (λ (v : Bool). LocalsAgree p m.1 (assigning W s v)) (sym e) x.1)
          (giving E s (executed_as s p E)) (giving_whole W s (executed_as s p E) l.0 h f) c t,
    )
same_locals (chain p q) l m W a x E h c t =
    let r = first_or_both (gives must p E) (gives must q E) c t in
    let o = first_code r in
    let f = code_of_run p l.0 W a.0 E h in
    let g = code_of_run p m.0 W x.0 E h in (
      same_locals p l.0 m.0 W a.0 x.0 E h o.0 o.1,
      provided (eqb (execute p l.0 W).completes 0) (λ z.
          same_locals q l.1 m.1 W (if_so (eqb (execute p l.0 W).completes 0) a.1 z)
          (if_so (eqb (execute p m.0 W).completes 0) x.1 (eqb_in (sym (g o.0 o.1) ∙ f o.0 o.1 ∙ eqb→eq (execute p l.0 W).completes 0 z)))
          E h c (from_second p q E c (execute p l.0 W).completes f r z)),
    )
same_locals (beside p q) l m W a x E h c t =
    let r = maxima_out (gives must p E).codes (gives must q E).codes c t in
    (same_locals p l.0 m.0 W a.0 x.0 E h r.0 r.2, same_locals q l.1 m.1 W a.1 x.1 E h r.1 r.3)
