-- What the leaves of the reasons rest on: a form's own mark, a mark stored, the lowest found by going up, the final event of two words. Assumes nothing.
use mathlib.Core.Path.{◌≡◌, refl, sym, ap, ap₂, ◌∙◌, subst, fun_ext}
use mathlib.Core.Logic.{◌⊎◌, inl, inr}
use mathlib.Core.Bool.{Bool, true, false, not, cond, ◌&&◌, ◌||◌, or-false}
use mathlib.Core.List.{List}
use Prim.Native.Nat.{ℕ, ◌-◌, ◌≤◌, ◌<◌}
use native.Mathlib.Omega.{arith}
use lib.Dec.{T, eqb, eqb→eq, leb, ltb, eqb_refl, nltb→le, le→leb, leb→le, ltb→lt}
use lib.Bits.{bit_and, bit_or}
use lib.ListN.{length, get_or, set, length-set, take, length-take}
use lib.Seq.{get_or-set_same, get_or-set_other}
use Rattle.std.specs.Prelude as prelude
use Rattle.std.specs.Prelude.{Some, None}
use Rattle.std.specs.Option.{MatchOption}
use Rattle.std.specs.List.{AllWithin, HoldsAt}
use Rattle.std.proofs.lemmas.List.{get_or-take}
use Rattle.sets.specs.Numbers.{Numbers, lowest}
use Rattle.sets.specs.Words.{bits}
use Rattle.sets.proofs.Members.{of_true, of_false, is_true, is_false, eqb_not, ext}
use Rattle.sets.proofs.Counts.{lowest_in, lowest_empty}
use Rattle.sets.proofs.Words.{bits_and, bits_or}
use Rattle.rules.specs.Statements.{Block}
use Rattle.rules.specs.Events.{Status, present, absent, unknown, Event, status_of, input_status, event}
use Rattle.rules.specs.Rounds.{same, outputs_with}
use Rattle.rules.specs.Taken.{Wanted, wants, wants_test, itself_if}
use Rattle.words.specs.declared.events.Heard.{Heard}
use Rattle.words.specs.Words.{event_of, hearing_of}
use Rattle.forms.specs.declared.form.Task.{Task}
use Rattle.forms.specs.declared.form.Form.{Form}
use Rattle.forms.specs.declared.form.Form.TheVariants.{Done, Stay, Keep, Say, Leave, Test, Catch, Scope, Chain, Beside, Same}
use Rattle.reasons.specs.Taking.{hit, Narrow, Marked, named_of, marked_in}

-- A form's own mark, by the variant that the form is.
pub by_form : (w : Wanted) (E : Event) {f g : Form} {z : Bool} → f ≡ g → z ≡ hit w g E → z ≡ hit w f E
by_form w E e q = q ∙ ap (λ (f : Form). hit w f E) (sym e)

pub by_test : (w : Wanted) (E : Event) {f : Form} {z : Bool} {s : ℕ} {p q : Task} {v : Status} → f ≡ Test s p q → z ≡ wants_test w v → (s < 64 → v ≡ E s) → Narrow f → z ≡ hit w f E
unfolding hit Narrow
by_test w E e a b n = by_form w E e (a ∙ ap (wants_test w) (b (subst Narrow e n)))

-- All but an emit and a test are asked for alike.
pub by_other : (w : Wanted) (E : Event) (f : Form) {z : Bool} → ((s : ℕ) → f ≡ Say s → ⊥) → ((s : ℕ) (p q : Task) → f ≡ Test s p q → ⊥) → z ≡ wants w → z ≡ hit w f E
unfolding hit
by_other w E Done m n e = e
by_other w E (Stay i) m n e = e
by_other w E (Keep i) m n e = e
by_other w E (Say s) m n e = absurd (m s refl)
by_other w E (Leave d) m n e = e
by_other w E (Test s p q) m n e = absurd (n s p q refl)
by_other w E (Catch p) m n e = e
by_other w E (Scope s p) m n e = e
by_other w E (Chain p q) m n e = e
by_other w E (Beside p q) m n e = e
by_other w E (Same p) m n e = e

or_true : (b : Bool) → (b || true) ≡ true
or_true true = refl
or_true false = refl

-- A mark stored, and none.
pub mark_stored : (before : List Bool) (i : ℕ) (z : Bool) → i < 512 → z ≡ true → Marked before (itself_if z i) (set before i true)
mark_stored before i z l e = record { as_long = length-set before i true; adds = λ n. ext (λ k. go n k (cases_eq k)) }
  where
    cases_eq : (k : ℕ) → (k ≡ i) ⊎ (k ≡ i → ⊥)
    cases_eq k = pick (eqb k i) refl
      where
        pick : (b : Bool) → eqb k i ≡ b → (k ≡ i) ⊎ (k ≡ i → ⊥)
        pick true q = inl (eqb→eq k i (of_true q))
        pick false q = inr (λ p. of_false q (subst (λ (x : ℕ). T (eqb k x)) p (eqb_refl k)))

    go : length before ≡ 512 → (k : ℕ) → (k ≡ i) ⊎ (k ≡ i → ⊥) → get_or (set before i true) k false ≡ (get_or before k false || (z && eqb k i))
    go n k (inl q) =
        ap (λ (x : ℕ). get_or (set before i true) x false) q ∙ get_or-set_same before i true false (omega arith)
        ∙ sym (ap (λ (y : Bool). get_or before k false || y) (ap₂ (λ (y u : Bool). y && u) e (is_true (eqb k i) (subst (λ (x : ℕ). T (eqb k x)) q (eqb_refl k)))) ∙ or_true (get_or before k false))
    go n k (inr q) =
        get_or-set_other before i k true false q
        ∙ sym (ap (λ (y : Bool). get_or before k false || y) (ap₂ (λ (y u : Bool). y && u) e (eqb_not k i q)) ∙ or-false (get_or before k false))

pub mark_left : (before : List Bool) (i : ℕ) (z : Bool) → z ≡ false → Marked before (itself_if z i) before
mark_left before i z e = record {
  as_long = refl;
  adds = λ n. ext (λ k. sym (ap (λ (y : Bool). get_or before k false || (y && eqb k i)) e ∙ or-false (get_or before k false)));
}

-- The first place found, or none, is the lowest member.
pub first_lowest : (n : ℕ) (a : Numbers) (r : prelude.Option ℕ)
    → MatchOption r ((k : ℕ) → 0 ≤ k → k < n → a k ≡ false) (λ i. (0 ≤ i) × (i < n) × (a i ≡ true) × ((k : ℕ) → 0 ≤ k → k < i → a k ≡ false)) → named_of r ≡ lowest n a
first_lowest n a None h = sym (lowest_empty n a (λ j l t. of_false (h j (omega arith) l) t))
first_lowest n a (Some i) h = sym (lowest_in n a h.1 (of_true h.2) (λ j l t. of_false (h.3 j (omega arith) l) t))

-- The same of the marks of a list's front.
pub first_marked : (ms : List Bool) (n : ℕ) → n ≤ length ms → (r : prelude.Option ℕ)
    → MatchOption r (AllWithin (λ b. b ≡ false) (take n ms) 0 (length (take n ms)))
    (λ i. (i < length (take n ms)) × HoldsAt (λ b. b ≡ true) (take n ms) i × AllWithin (λ b. b ≡ false) (take n ms) 0 i) → named_of r ≡ lowest n (marked_in ms)
first_marked ms n l None h =
    first_lowest n (marked_in ms) None (λ k z b. sym (get_or-take n ms k false b) ∙ h k false z (omega (arith, length-take {A = Bool})))
first_marked ms n l (Some i) h =
    let b : i < n = omega (arith, length-take {A = Bool}, h.0) in
    first_lowest n (marked_in ms) (Some i) (omega arith, b, sym (get_or-take n ms i false b) ∙ h.1 false, λ k z e. sym (get_or-take n ms k false (omega arith)) ∙ h.2 k false z e)

-- The event of the final round, signal by signal: an input as it is heard, an output as it is marked.
by_status : (v : Status) → status_of (same v present) (same v absent) ≡ v
by_status present = refl
by_status absent = refl
by_status unknown = refl

module _ (b : Block) (outs : List Status) (first shown gone : ℕ) (given : Heard) (f : (k : ℕ) → bits first k ≡ ltb k b.inputs)
    (p : bits shown ≡ outputs_with present b outs) (q : bits gone ≡ outputs_with absent b outs) where
  word_at : (v : Status) (x y n : ℕ) → bits y ≡ outputs_with v b outs → bits (bit_or (bit_and first x) y) n ≡ (ltb n b.inputs && bits x n || outputs_with v b outs n)
  word_at v x y n e =
      bits_or (bit_and first x) y n
      ∙ ap₂ (λ (c d : Bool). c || d) (bits_and first x n ∙ ap (λ (c : Bool). c && bits x n) (f n)) (ap (λ (X : Numbers). X n) e)

  pub final_is : event_of (record { present = bit_or (bit_and first given.present) shown; absent = bit_or (bit_and first given.absent) gone }) ≡ event b (hearing_of given) outs
  unfolding event_of event outputs_with
  final_is = fun_ext (λ n.
      ap₂ status_of (word_at present given.present shown n p) (word_at absent given.absent gone n q) ∙ go n (ltb n b.inputs) refl)
    where
      go : (n : ℕ) (z : Bool) → ltb n b.inputs ≡ z
          → status_of (z && bits given.present n || outputs_with present b outs n) (z && bits given.absent n || outputs_with absent b outs n)
          ≡ cond z (input_status (hearing_of given) n) (get_or outs (n - b.inputs) unknown)
      go n true e =
          let l : leb b.inputs n ≡ false = is_false (leb b.inputs n) (λ t. let h = ltb→lt n b.inputs (of_true e) in let k = leb→le b.inputs n t in absurd (omega arith)) in
          ap₂ status_of (ap (λ (c : Bool). bits given.present n || (c && same (get_or outs (n - b.inputs) unknown) present)) l ∙ or-false (bits given.present n))
          (ap (λ (c : Bool). bits given.absent n || (c && same (get_or outs (n - b.inputs) unknown) absent)) l ∙ or-false (bits given.absent n))
      go n false e =
          let l : leb b.inputs n ≡ true = is_true (leb b.inputs n) (le→leb b.inputs n (nltb→le n b.inputs (subst (λ (z : Bool). T (not z)) (sym e) tt))) in
          ap₂ status_of (ap (λ (c : Bool). c && same (get_or outs (n - b.inputs) unknown) present) l) (ap (λ (c : Bool). c && same (get_or outs (n - b.inputs) unknown) absent) l)
          ∙ by_status (get_or outs (n - b.inputs) unknown)
