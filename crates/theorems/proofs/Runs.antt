-- Where must has a code, some statuses of the locals agree with the execution, at every world above the event: by induction over the
-- step. A local takes the status that it is settled with; it is settled, since can equals must where must has a code. Assumes nothing.
use mathlib.Core.Path.{◌≡◌, refl, sym, ◌∙◌, subst⁻¹}
use mathlib.Core.Bool.{Bool, true, false, cond}
use Prim.Native.Nat.{ℕ}
use lib.Dec.{T, eqb}
use Rattle.sets.specs.Numbers.{Numbers}
use Rattle.sets.proofs.Members.{is_true, is_false, of_true, of_false, eqb_not}
use Rattle.sets.proofs.Maxima.{maxima_out, downs_out}
use Rattle.rules.specs.Events.{Status, present, absent, unknown, Event, giving, known}
use Rattle.rules.specs.Instant.{Step, done, stay, say, leave, test, catch, scope, chain, beside}
use Rattle.rules.specs.MustCan.{plus, must, can, Given, choose, marked, gives}
use Rattle.rules.specs.Coherence.{Locals, assigning, execute, LocalsAgree}
use Rattle.rules.proofs.LawSentences.{some_locals}
use Rattle.theorems.specs.Order.{Below, ◌⊑◌, whole}
use Rattle.theorems.proofs.Compare.{⊑_refl, giving_below, must_grows, can_shrinks}
use Rattle.theorems.proofs.Exact.{FirstOrBoth, only_first, then_second, first_or_both, can_in_must}
use Rattle.theorems.proofs.Sound.{not_both, giving_whole, sound, code_of_run}

-- What is to be shown: statuses that agree.
abbrev pub Agreeing : Step → Numbers → Type 0
Agreeing p W = (l : Locals p) × LocalsAgree p l W

test_agrees : (b : Bool) (v : Status) (c : ℕ) (p q : Step) (W : Numbers) (m n : Given) → Below v (known b) → T ((choose must v m n m n).codes c)
    → (T (m.codes c) → Agreeing p W) → (T (n.codes c) → Agreeing q W)
    → (l : Locals p × Locals q) × cond b (LocalsAgree p l.0 W) (LocalsAgree q l.1 W)
test_agrees true present c p q W m n h t f g = let r = f t in ((r.0, some_locals q), r.1)
test_agrees true absent c p q W m n h t f g = absurd (not_both h)
test_agrees true unknown c p q W m n h t f g = absurd t
test_agrees false present c p q W m n h t f g = absurd (not_both (sym h))
test_agrees false absent c p q W m n h t f g = let r = g t in ((some_locals p, r.0), r.1)
test_agrees false unknown c p q W m n h t f g = absurd t

not_so : (z : Bool) (A : Type 0) → z ≡ false → cond z A (Unit {0})
not_so z A e = subst⁻¹ (λ (x : Bool). cond x A (Unit {0})) e tt

either_way : (z : Bool) {A : Type 0} → A → cond z A (Unit {0})
either_way true a = a
either_way false a = tt

abbrev ChainAgrees : Step → Step → Numbers → Type 0
ChainAgrees p q W =
    (l : Locals p × Locals q)
    × (LocalsAgree p l.0 W × cond (eqb (execute p l.0 W).completes 0) (LocalsAgree q l.1 W) (Unit {0}))

chain_agrees : (p q : Step) (W : Numbers) (E : Event) (c : ℕ) → E ⊑ whole W → FirstOrBoth (gives must p E) (gives must q E) c
    → ((d : ℕ) → T ((gives must p E).codes d) → Agreeing p W) → (T ((gives must q E).codes c) → Agreeing q W) → ChainAgrees p q W
chain_agrees p q W E c h (only_first t n) f g =
    let r = f c t in
    let e = code_of_run p r.0 W r.1 E h c t in
    ((r.0, some_locals q), (r.1, not_so (eqb (execute p r.0 W).completes 0) (LocalsAgree q (some_locals q) W) (eqb_not (execute p r.0 W).completes 0 (λ z. n (e ∙ z)))))
chain_agrees p q W E c h (then_second z t) f g =
    let r = f 0 z in
    let s = g t in
    ((r.0, s.0), (r.1, either_way (eqb (execute p r.0 W).completes 0) s.1))

abbrev ScopeAgrees : ℕ → Step → Numbers → Type 0
ScopeAgrees s p W =
    (l : Bool × Locals p)
    × ((l.0 ≡ (execute p l.1 (assigning W s l.0)).emitted s) × LocalsAgree p l.1 (assigning W s l.0))

module _ (s : ℕ) (p : Step) (W : Numbers) (E : Event) (c : ℕ) (h : E ⊑ whole W)
    (f : (F : Event) (W' : Numbers) → F ⊑ whole W' → T ((gives must p F).codes c) → Agreeing p W') where
  scope_agrees : (m k : Bool) → (gives must p (giving E s unknown)).signals s ≡ m → (gives (can plus) p (giving E s unknown)).signals s ≡ k
      → T ((gives must p (giving E s (marked m k unknown))).codes c) → ScopeAgrees s p W
  scope_agrees true k d e t =
      let W' : Numbers = assigning W s true in
      let i : giving E s present ⊑ whole W' = giving_whole W s present true h refl in
      let r = f (giving E s present) W' i t in
      let up : giving E s unknown ⊑ giving E s present = giving_below s unknown present ⊑_refl tt in
      let x : T ((execute p r.0 W').emitted s) = (sound p r.0 W' r.1 (giving E s present) i).lower.of_signals.at s ((must_grows p up).of_signals.at s (of_true d)) in
      ((true, r.0), (sym (is_true ((execute p r.0 W').emitted s) x), r.1))
  scope_agrees false false d e t =
      let W' : Numbers = assigning W s false in
      let i : giving E s absent ⊑ whole W' = giving_whole W s absent false h refl in
      let r = f (giving E s absent) W' i t in
      let up : giving E s unknown ⊑ giving E s absent = giving_below s unknown absent ⊑_refl tt in (
        (false, r.0),
        (
          sym (is_false ((execute p r.0 W').emitted s)
              (λ x. of_false e ((can_shrinks p plus up).of_signals.at s ((sound p r.0 W' r.1 (giving E s absent) i).upper.of_signals.at s x)))),
          r.1,
        ),
      )
  scope_agrees false true d e t = absurd (of_false d ((can_in_must p (giving E s unknown) c t).of_signals.at s (of_true e)))

pub runs : (p : Step) (E : Event) (W : Numbers) → E ⊑ whole W → (c : ℕ) → T ((gives must p E).codes c) → Agreeing p W
unfolding gives LocalsAgree
runs done E W h c t = (tt, tt)
runs (stay A) E W h c t = (tt, tt)
runs (say s) E W h c t = (tt, tt)
runs (leave d) E W h c t = (tt, tt)
runs (test s p q) E W h c t =
    test_agrees (W s) (E s) c p q W (gives must p E) (gives must q E) (h.at s) t (runs p E W h c) (runs q E W h c)
runs (catch p) E W h c t = let r = downs_out (gives must p E).codes c t in runs p E W h r.0 r.1
runs (scope s p) E W h c t = scope_agrees s p W E c h (λ F W' i. runs p F W' i c)
    ((gives must p (giving E s unknown)).signals s) ((gives (can plus) p (giving E s unknown)).signals s) refl refl t
runs (chain p q) E W h c t =
    chain_agrees p q W E c h (first_or_both (gives must p E) (gives must q E) c t) (runs p E W h) (runs q E W h c)
runs (beside p q) E W h c t =
    let r = maxima_out (gives must p E).codes (gives must q E).codes c t in
    let a = runs p E W h r.0 r.2 in
    let b = runs q E W h r.1 r.3 in
    ((a.0, b.0), (a.1, b.1))
