-- An execution whose locals agree lies between must and can under plus, at every event below its own: by induction over the step,
-- for every event. A local uses it twice, with its signal unknown to see that the settled status is the one assigned, and then
-- at that status. Assumes nothing.
use mathlib.Core.Path.{◌≡◌, refl, sym, ◌∙◌, subst, subst⁻¹}
use mathlib.Core.Bool.{Bool, true, false, cond}
use Prim.Native.Nat.{ℕ, max}
use lib.Dec.{T, eqb, eqb→eq}
use Rattle.sets.specs.Numbers.{Numbers, single, union, without, only_if, down, Within}
use Rattle.sets.proofs.Members.{of_false, eqb_in, single_out, without_in, without_member, without_other, only_if_in, only_if_test, within_refl, within_trans}
use Rattle.sets.proofs.Members.{within_antisym, within_eq, within_left, within_right, within_without, within_only_if, union_least, union_mono}
use Rattle.sets.proofs.Maxima.{maxima_single, downs_single}
use Rattle.rules.specs.Events.{Status, present, absent, unknown, Event, giving, known}
use Rattle.rules.specs.Instant.{Step, done, stay, say, leave, test, catch, scope, chain, beside}
use Rattle.rules.specs.MustCan.{plus, opened, must, can, Given, choose, caught, both, followed, onward, marked, gives}
use Rattle.rules.specs.States.{executed_as}
use Rattle.rules.specs.Coherence.{Locals, Execution, assigning, run_on, execute, LocalsAgree}
use Rattle.theorems.specs.Order.{Below, ◌⊑◌, whole, Inside, outcome, Between}
use Rattle.theorems.proofs.Cases.{by_first}
use Rattle.theorems.proofs.Forms.{inside_refl, inside_trans, inside_nothing, either_left, either_right, caught_inside, hidden_inside, both_inside, followed_inside}
use Rattle.theorems.proofs.Compare.{plus_in_opened}
use Rattle.theorems.proofs.Exact.{can_in_must}

-- Present and absent are two.
abbrev IsPresent : Status → Type 0
IsPresent present = Unit {0}
IsPresent absent = ⊥
IsPresent unknown = ⊥

pub not_both : present ≡ absent → ⊥
not_both e = subst IsPresent e tt

-- The assigned status of a signal, put into both.
pub giving_whole : {E : Event} (W : Numbers) (s : ℕ) (w : Status) (v : Bool) → E ⊑ whole W → Below w (known v) → giving E s w ⊑ whole (assigning W s v)
giving_whole {E} W s w v h l = record { at = λ n. go n (eqb n s) }
  where
    go : (n : ℕ) (b : Bool) → Below (cond b w (E n)) (known (cond b v (W n)))
    go n true = l
    go n false = h.at n

-- A test: the branch that the assigned status chooses is one that the status of the event allows.
test_between : (b : Bool) (v : Status) {mp cp mq cq : Given} (op oq : Given) {rp rq : Execution} {A B : Type 0}
    → Below v (known b) → (A → Between mp cp rp) → (B → Between mq cq rq) → Inside cp op → Inside cq oq → cond b A B
    → Between (choose must v mp mq mp mq) (choose (can plus) v cp cq op oq) (cond b rp rq)
test_between true present op oq h f g i j a = f a
test_between true absent op oq h f g i j a = absurd (not_both h)
test_between true unknown op oq h f g i j a =
    record { lower = inside_nothing; upper = inside_trans (f a).upper (inside_trans i (either_left op oq)) }
test_between false present op oq h f g i j a = absurd (not_both (sym h))
test_between false absent op oq h f g i j a = g a
test_between false unknown op oq h f g i j a =
    record { lower = inside_nothing; upper = inside_trans (g a).upper (inside_trans j (either_right op oq)) }

catch_between : {m c : Given} (r : Execution) (K : Numbers) → Between m c r
    → Between (caught m) (caught c) (record { emitted = r.emitted; completes = down r.completes; keeps = K })
catch_between r K f = record {
  lower = inside_trans (caught_inside f.lower) (record { of_signals = within_refl; of_codes = within_eq (downs_single r.completes) });
  upper = inside_trans (record { of_signals = within_refl; of_codes = within_eq (sym (downs_single r.completes)) }) (caught_inside f.upper);
}

beside_between : {m c n d : Given} (a b : Execution) (K : Numbers) → Between m c a → Between n d b
    → Between (both m n) (both c d) (record { emitted = union a.emitted b.emitted; completes = max a.completes b.completes; keeps = K })
beside_between a b K f g = record {
  lower = inside_trans (both_inside f.lower g.lower)
      (record { of_signals = within_refl; of_codes = within_eq (maxima_single a.completes b.completes) });
  upper = inside_trans (record { of_signals = within_refl; of_codes = within_eq (sym (maxima_single a.completes b.completes)) })
      (both_inside f.upper g.upper);
}

-- One after the other, as something given.
zero_first : (c : ℕ) → T (eqb 0 c) → T (eqb c 0)
zero_first c t = eqb_in (sym (eqb→eq 0 c t))

zero_second : (c : ℕ) → T (eqb c 0) → T (eqb 0 c)
zero_second c t = eqb_in (sym (eqb→eq c 0 t))

skipped : (x : Bool) (a b : Numbers) → (T x → ⊥) → Within (only_if x a) b
skipped x a b f = record { at = λ n t. absurd (f (only_if_test x a n t)) }

taken : (x : Bool) (a : Numbers) → T x → Within a (only_if x a)
taken x a s = record { at = λ n t. only_if_in x a n s t }

removed : (c : ℕ) (b : Numbers) → c ≡ 0 → Within (without 0 (single c)) b
removed c b e = record { at = λ n t. absurd (without_other 0 (single c) n t (single_out c n (without_member 0 (single c) n t) ∙ e)) }

left : (c : ℕ) → (c ≡ 0 → ⊥) → Within (single c) (without 0 (single c))
left c f = record { at = λ n t. without_in 0 (single c) n t (λ z. f (sym (single_out c n t) ∙ z)) }

module _ (a b : Execution) where
  run_on_least : Inside (followed (outcome a) (outcome b)) (outcome (run_on a b))
  run_on_least = by_first (λ (r : Execution). Inside (followed (outcome a) (outcome b)) (outcome r)) a b
      (λ t. record {
        of_signals = union_mono (within_refl {a = a.emitted}) (within_only_if (eqb 0 a.completes) b.emitted);
        of_codes = union_least (removed a.completes (single b.completes) (eqb→eq a.completes 0 t))
            (within_only_if (eqb 0 a.completes) (single b.completes));
      })
      (λ e. record {
        of_signals = union_least (within_refl {a = a.emitted}) (skipped (eqb 0 a.completes) b.emitted a.emitted (λ t. of_false e (zero_first a.completes t)));
        of_codes = union_least (within_without 0 (single a.completes))
            (skipped (eqb 0 a.completes) (single b.completes) (single a.completes) (λ t. of_false e (zero_first a.completes t)));
      })

  run_on_most : Inside (outcome (run_on a b)) (followed (outcome a) (outcome b))
  run_on_most = by_first (λ (r : Execution). Inside (outcome r) (followed (outcome a) (outcome b))) a b
      (λ t. record {
        of_signals = union_mono (within_refl {a = a.emitted}) (taken (eqb 0 a.completes) b.emitted (zero_second a.completes t));
        of_codes = within_trans (taken (eqb 0 a.completes) (single b.completes) (zero_second a.completes t))
            (within_right (without 0 (single a.completes)) (only_if (eqb 0 a.completes) (single b.completes)));
      })
      (λ e. record {
        of_signals = within_left a.emitted (only_if (eqb 0 a.completes) b.emitted);
        of_codes = within_trans (left a.completes (λ z. of_false e (eqb_in z)))
            (within_left (without 0 (single a.completes)) (only_if (eqb 0 a.completes) (single b.completes)));
      })

onward_most : (b : Bool) (q : Step) (E : Event) (r : Given) → Inside r (gives (can plus) q E) → Inside r (gives (onward (can plus) b) q E)
onward_most true q E r f = f
onward_most false q E r f = inside_trans f (plus_in_opened q E)

pub if_so : (z : Bool) {A : Type 0} → cond z A (Unit {0}) → T z → A
if_so true a t = a
if_so false a t = absurd t

chain_between : (q : Step) (E : Event) (z : Bool) {m c : Given} (a b : Execution) → Between m c a
    → (T (eqb a.completes 0) → Between (gives must q E) (gives (can plus) q E) b)
    → Between (followed m (gives must q E)) (followed c (gives (onward (can plus) z) q E)) (run_on a b)
chain_between q E z a b f g = record {
  lower = inside_trans (followed_inside f.lower (λ t. (g (zero_first a.completes (f.lower.of_codes.at 0 t))).lower)) (run_on_least a b);
  upper = inside_trans (run_on_most a b)
      (followed_inside f.upper (λ t. onward_most z q E (outcome b) (g (zero_first a.completes t)).upper));
}

-- The status marked for a signal is the assigned one or unknown.
pub marked_known : (m c v : Bool) (w : Status) → (T m → T v) → (T v → T c) → Below w (known v) → Below (marked m c w) (known v)
marked_known true c true w f g h = refl
marked_known true c false w f g h = absurd (f tt)
marked_known false true v w f g h = h
marked_known false false true w f g h = absurd (g tt)
marked_known false false false w f g h = refl

-- The status that a local gets is the one assigned to it or unknown, from its body's execution.
pub executed_below : (s : ℕ) (p : Step) (E : Event) (v : Bool) (r : Execution) → v ≡ r.emitted s
    → Between (gives must p (giving E s unknown)) (gives (can plus) p (giving E s unknown)) r → Below (executed_as s p E) (known v)
executed_below s p E v r e f =
    marked_known ((gives must p (giving E s unknown)).signals s) ((gives (can plus) p (giving E s unknown)).signals s) v unknown
    (λ t. subst⁻¹ T e (f.lower.of_signals.at s t)) (λ t. f.upper.of_signals.at s (subst T e t)) tt

pub sound : (p : Step) (l : Locals p) (W : Numbers) → LocalsAgree p l W → (E : Event) → E ⊑ whole W
    → Between (gives must p E) (gives (can plus) p E) (execute p l W)
unfolding gives execute LocalsAgree
sound done l W a E h = record { lower = inside_refl; upper = inside_refl }
sound (stay A) l W a E h = record { lower = inside_refl; upper = inside_refl }
sound (say s) l W a E h = record { lower = inside_refl; upper = inside_refl }
sound (leave d) l W a E h = record { lower = inside_refl; upper = inside_refl }
sound (test s p q) l W a E h =
    test_between (W s) (E s) (gives (can opened) p E) (gives (can opened) q E) (h.at s)
    (λ b. sound p l.0 W b E h) (λ b. sound q l.1 W b E h) (plus_in_opened p E) (plus_in_opened q E) a
sound (catch p) l W a E h =
    catch_between (execute p l W) (execute (catch p) l W).keeps (sound p l W a E h)
sound (scope s p) l W a E h =
    let W' : Numbers = assigning W s l.0 in
    let r : Execution = execute p l.1 W' in
    let f = sound p l.1 W' a.1 (giving E s unknown) (giving_whole W s unknown l.0 h tt) in
    let g = sound p l.1 W' a.1 (giving E s (executed_as s p E)) (giving_whole W s (executed_as s p E) l.0 h (executed_below s p E l.0 r a.0 f)) in
    record { lower = hidden_inside s g.lower; upper = hidden_inside s g.upper }
sound (chain p q) l W a E h =
    chain_between q E ((gives must p E).codes 0) (execute p l.0 W) (execute q l.1 W) (sound p l.0 W a.0 E h)
    (λ t. sound q l.1 W (if_so (eqb (execute p l.0 W).completes 0) a.1 t) E h)
sound (beside p q) l W a E h =
    beside_between (execute p l.0 W) (execute q l.1 W) (execute (beside p q) l W).keeps
    (sound p l.0 W a.0 E h) (sound q l.1 W a.1 E h)

-- Where must has a code, it is the code of every such execution, and what must gives is what is emitted.
pub code_of_run : (p : Step) (l : Locals p) (W : Numbers) → LocalsAgree p l W → (E : Event) → E ⊑ whole W → (c : ℕ) → T ((gives must p E).codes c) → c ≡ (execute p l W).completes
code_of_run p l W a E h c t = single_out (execute p l W).completes c ((sound p l W a E h).lower.of_codes.at c t)

pub emitted_of_run : (p : Step) (l : Locals p) (W : Numbers) → LocalsAgree p l W → (E : Event) → E ⊑ whole W → (c : ℕ) → T ((gives must p E).codes c) → (execute p l W).emitted ≡ (gives must p E).signals
emitted_of_run p l W a E h c t =
    within_antisym (within_trans (sound p l W a E h).upper.of_signals (can_in_must p E c t).of_signals) (sound p l W a E h).lower.of_signals
