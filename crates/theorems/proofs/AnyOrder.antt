-- Any order of settling ends as the rounds do: one justified output at a time is a special case of settling any part (`Settling`), where none is
-- left a round changes nothing, and all such ends are the same. Each step leaves one output fewer undecided, so every order ends. Assumes nothing.
use mathlib.Core.Path.{◌≡◌, refl, sym, ◌∙◌, ap, subst, subst⁻¹}
use mathlib.Core.Logic.{◌⊎◌, inl, inr}
use mathlib.Core.Bool.{Bool, true, false}
use mathlib.Core.List.{List, [], ◌∷◌}
use Prim.Native.Nat.{ℕ, zero, suc, ◌+◌, ◌≤◌, ◌<◌}
use native.Mathlib.Nat.{le_of_suc-le-suc, not-suc-le-zero}
use native.Mathlib.Decide.{ℕ_discrete}
use native.Mathlib.Omega.{arith}
use lib.Dec.{T}
use lib.Seq.{ext_get_or, get_or-set_same, get_or-set_other}
use lib.ListN.{length, get_or, set, length-set}
use Rattle.sets.proofs.Members.{is_true, is_false, of_true, of_false}
use Rattle.rules.specs.Statements.{Block}
use Rattle.rules.specs.Events.{Status, present, absent, unknown, event, Hearing}
use Rattle.rules.specs.Instant.{Step}
use Rattle.rules.specs.MustCan.{marked, must, gives}
use Rattle.rules.specs.States.{State, step}
use Rattle.rules.specs.Rounds.{round, begin, final_of, undecided}
use Rattle.theorems.specs.Order.{Below}
use Rattle.theorems.specs.Reach.{Settling, Reached, at_first, settling}
use Rattle.theorems.specs.AnyOrder.{Justifies, in_must, not_in_can, Order, none_yet, one_more, NoneLeft, OneLeft, EndsAsRounds, GoesOn}
use Rattle.theorems.proofs.Reach.{in_must as must_has, in_can as can_has, must_can, round_at, round_length, round_keeps, same_end}
use Rattle.theorems.proofs.RoundsEnd.{weight, weighed, undecided_begin, last_unchanged, last_reached, final}

-- One undecided output fewer.
fewer : (vs : List Status) (i : ℕ) (v : Status) → i < length vs → get_or vs i unknown ≡ unknown → weight v ≡ 0 → suc (undecided (set vs i v)) ≡ undecided vs
fewer [] i v h e z = absurd (not-suc-le-zero h)
fewer (w ∷ vs) zero v h e z = let q = ap weight e in omega (arith, weighed w vs, weighed v vs)
fewer (w ∷ vs) (suc i) v h e z =
    omega (arith, fewer vs i v (le_of_suc-le-suc h) e z, weighed w vs, weighed w (set vs i v))

-- A known status stays, and an unknown one where it stays unknown.
known_stays : (v w : Status) → Below v w → (v ≡ unknown → w ≡ unknown) → w ≡ v
known_stays present w l f = l
known_stays absent w l f = l
known_stays unknown w l f = f refl

module _ (b : Block) (p : Step) (heard : Hearing) where
  -- A justified status is the one that a round gives, and it is known.
  justified_round : {vs : List Status} {i : ℕ} {v : Status} → Justifies b p heard vs i v → (i < length vs) × (v ≡ get_or (round b p heard vs) i unknown)
  justified_round {vs} (in_must {i = i} h e t) =
      (h, sym (round_at b p heard vs i h ∙ ap (λ (x : Bool). marked x (can_has b p heard vs i) (get_or vs i unknown)) (is_true (must_has b p heard vs i) t)))
  justified_round {vs} (not_in_can {i = i} h e t) =
      let no : must_has b p heard vs i ≡ false = is_false (must_has b p heard vs i) (λ m. t (must_can b p heard vs i m)) in
      let nor : can_has b p heard vs i ≡ false = is_false (can_has b p heard vs i) t in
      (h, sym (round_at b p heard vs i h ∙ rw (no, nor)))

  -- One output settled is a part settled.
  one_settles : {vs : List Status} {i : ℕ} {v : Status} → Justifies b p heard vs i v → Settling b p heard vs (set vs i v)
  one_settles {vs} {i} {v} j = record { same_length = length-set vs i v; each = λ k h. go k (ℕ_discrete k i) }
    where
      go : (k : ℕ) → Dec (k ≡ i) → (get_or (set vs i v) k unknown ≡ get_or vs k unknown) ⊎ (get_or (set vs i v) k unknown ≡ get_or (round b p heard vs) k unknown)
      go k (yes e) =
          inr (subst⁻¹ (λ (x : ℕ). get_or (set vs i v) x unknown ≡ get_or (round b p heard vs) x unknown) e
          (get_or-set_same vs i v unknown (justified_round j).0 ∙ (justified_round j).1))
      go k (no f) = inl (get_or-set_other vs i k v unknown f)

  pub order_reached : {vs ws : List Status} {n : ℕ} → Reached b p heard vs → Order b p heard vs n ws → Reached b p heard ws
  order_reached r none_yet = r
  order_reached r (one_more o j) = settling (order_reached r o) (one_settles j)

  -- Each step decides one output.
  step_decides : {vs : List Status} {i : ℕ} {v : Status} → Justifies b p heard vs i v → suc (undecided (set vs i v)) ≡ undecided vs
  step_decides {vs} (in_must {i = i} h e t) = fewer vs i present h e refl
  step_decides {vs} (not_in_can {i = i} h e t) = fewer vs i absent h e refl

  pub order_steps : {vs ws : List Status} {n : ℕ} → Order b p heard vs n ws → n + undecided ws ≡ undecided vs
  order_steps none_yet = omega arith
  order_steps (one_more o j) = let e = order_steps o in omega (arith, step_decides j)

  pub steps_from_begin : {n : ℕ} {vs : List Status} → Order b p heard (begin b) n vs → n + undecided vs ≡ b.outputs
  unfolding begin
  steps_from_begin o = order_steps o ∙ undecided_begin b.outputs

  -- Where none is left a round changes nothing: a decided output keeps its status, and an undecided one is neither in must nor out of can.
  module _ {vs : List Status} where
    stays : (i : ℕ) → i < length vs → NoneLeft b p heard vs → get_or vs i unknown ≡ unknown
        → (x y : Bool) → must_has b p heard vs i ≡ x → can_has b p heard vs i ≡ y → marked x y unknown ≡ unknown
    stays i h none e true y d f = absurd (none i present (in_must h e (of_true d)))
    stays i h none e false true d f = refl
    stays i h none e false false d f = absurd (none i absent (not_in_can h e (of_false f)))

    pub left_unchanged : Reached b p heard vs → NoneLeft b p heard vs → round b p heard vs ≡ vs
    left_unchanged r none =
        ext_get_or unknown (round b p heard vs) vs (round_length b p heard vs) (λ i h.
        let l : i < length vs = subst (λ (n : ℕ). i < n) (round_length b p heard vs) h in
        known_stays (get_or vs i unknown) (get_or (round b p heard vs) i unknown) (round_keeps b p heard r i l) (λ e.
        round_at b p heard vs i l ∙ ap (marked (must_has b p heard vs i) (can_has b p heard vs i)) e ∙ stays i l none e _ _ refl refl))

  -- Looking at each output finds one that is left, or shows that there is none.
  at_output : (vs : List Status) (i : ℕ) → i < length vs → OneLeft b p heard vs ⊎ ((v : Status) → Justifies b p heard vs i v → ⊥)
  at_output vs i h = go (get_or vs i unknown) (must_has b p heard vs i) (can_has b p heard vs i) refl refl refl
    where
      decided_not : (v : Status) → (get_or vs i unknown ≡ unknown → ⊥) → Justifies b p heard vs i v → ⊥
      decided_not v f (in_must l e t) = f e
      decided_not v f (not_in_can l e t) = f e

      open_not : (v : Status) → must_has b p heard vs i ≡ false → can_has b p heard vs i ≡ true → Justifies b p heard vs i v → ⊥
      open_not v d f (in_must l e t) = of_false d t
      open_not v d f (not_in_can l e t) = t (of_true f)

      go : (s : Status) (x y : Bool) → get_or vs i unknown ≡ s → must_has b p heard vs i ≡ x → can_has b p heard vs i ≡ y
          → OneLeft b p heard vs ⊎ ((v : Status) → Justifies b p heard vs i v → ⊥)
      go present x y e d f = inr (λ v. decided_not v (λ u. let z : ◌≡◌ {A = ℕ} 0 1 = cc in absurd (omega arith)))
      go absent x y e d f = inr (λ v. decided_not v (λ u. let z : ◌≡◌ {A = ℕ} 0 1 = cc in absurd (omega arith)))
      go unknown true y e d f = inl (record { output = i; status = present; justified = in_must h e (of_true d) })
      go unknown false true e d f = inr (λ v. open_not v d f)
      go unknown false false e d f = inl (record { output = i; status = absent; justified = not_in_can h e (of_false f) })

  below_n : (vs : List Status) (n : ℕ) → n ≤ length vs → OneLeft b p heard vs ⊎ ((i : ℕ) → i < n → (v : Status) → Justifies b p heard vs i v → ⊥)
  below_n vs zero h = inr (λ i l. absurd (not-suc-le-zero l))
  below_n vs (suc n) h = go (below_n vs n (omega arith)) (at_output vs n h)
    where
      go : OneLeft b p heard vs ⊎ ((i : ℕ) → i < n → (v : Status) → Justifies b p heard vs i v → ⊥) → OneLeft b p heard vs ⊎ ((v : Status) → Justifies b p heard vs n v → ⊥)
          → OneLeft b p heard vs ⊎ ((i : ℕ) → i < suc n → (v : Status) → Justifies b p heard vs i v → ⊥)
      go (inl o) q = inl o
      go (inr f) (inl o) = inl o
      go (inr f) (inr g) = inr (λ i l v. at i l v (ℕ_discrete i n))
        where
          at : (i : ℕ) → i < suc n → (v : Status) → Dec (i ≡ n) → Justifies b p heard vs i v → ⊥
          at i l v (yes e) = λ j. g v (subst (λ (k : ℕ). Justifies b p heard vs k v) e j)
          at i l v (no e) = f i (omega arith) v

  pub one_left_or_none : (vs : List Status) → OneLeft b p heard vs ⊎ NoneLeft b p heard vs
  one_left_or_none vs = go (below_n vs (length vs) (omega arith))
    where
      go : OneLeft b p heard vs ⊎ ((i : ℕ) → i < length vs → (v : Status) → Justifies b p heard vs i v → ⊥) → OneLeft b p heard vs ⊎ NoneLeft b p heard vs
      go (inl o) = inl o
      go (inr f) = inr (λ i v j. f i (justified_round j).0 v j)

  -- With a step for each undecided output an order comes to its end.
  one_before : {vs : List Status} {i : ℕ} {v : Status} {ws : List Status} {n : ℕ} → Justifies b p heard vs i v → Order b p heard (set vs i v) n ws → Order b p heard vs (suc n) ws
  one_before j none_yet = one_more none_yet j
  one_before j (one_more o k) = one_more (one_before j o) k

  -- (With fuel 0 nothing is undecided, so nothing is left.)
  further : {vs : List Status} (o : OneLeft b p heard vs) → GoesOn b p heard (set vs o.output o.status) → GoesOn b p heard vs
  further o r = record { steps = suc r.steps; end = r.end; further = one_before o.justified r.further; none_left = r.none_left }

  pub goes_on : (fuel : ℕ) (vs : List Status) → undecided vs ≤ fuel → GoesOn b p heard vs
  goes_on zero vs h = go (one_left_or_none vs)
    where
      go : OneLeft b p heard vs ⊎ NoneLeft b p heard vs → GoesOn b p heard vs
      go (inr none) = record { steps = 0; end = vs; further = none_yet; none_left = none }
      go (inl o) = absurd (omega (arith, step_decides o.justified))
  goes_on (suc fuel) vs h = go (one_left_or_none vs) (λ ws l. goes_on fuel ws l)
    where
      go : OneLeft b p heard vs ⊎ NoneLeft b p heard vs → ((ws : List Status) → undecided ws ≤ fuel → GoesOn b p heard ws) → GoesOn b p heard vs
      go (inr none) ih = record { steps = 0; end = vs; further = none_yet; none_left = none }
      go (inl o) ih = further o (ih (set vs o.output o.status) (omega (arith, step_decides o.justified)))

-- An order from the beginning that has come to its end is where the rounds end.
pub any_order : (b : Block) (st : State) (heard : Hearing) {n : ℕ} {vs : List Status} → Order b (step b.body st) heard (begin b) n vs
    → NoneLeft b (step b.body st) heard vs → EndsAsRounds b st heard n vs
any_order b st heard {n} {vs} o none =
    let p = step b.body st in
    let ended = (final b st heard).ends in
    let reached = order_reached b p heard at_first o in
    let same : vs ≡ (final_of b st heard).statuses =
    same_end b p heard reached (last_reached b p heard at_first ended) (left_unchanged b p heard reached none) (last_unchanged b p heard ended) in
    record {
      same_statuses = same;
      same_code = λ c. (
        subst (λ (ws : List Status). T ((gives must p (event b heard ws)).codes c)) same,
        subst⁻¹ (λ (ws : List Status). T ((gives must p (event b heard ws)).codes c)) same,
      );
      a_step_each = steps_from_begin b p heard o;
    }

module _ (b : Block) (p : Step) (heard : Hearing) where
  -- What a round would settle at this moment may be settled alone, in its place.
  pub settled_alone : (vs : List Status) (i : ℕ) → i < length vs → get_or vs i unknown ≡ unknown → (v : Status) → (v ≡ unknown → ⊥)
      → get_or (round b p heard vs) i unknown ≡ v → Justifies b p heard vs i v
  settled_alone vs i h e v k q =
      go (must_has b p heard vs i) (can_has b p heard vs i) refl refl
      (sym (round_at b p heard vs i h ∙ ap (marked (must_has b p heard vs i) (can_has b p heard vs i)) e) ∙ q)
    where
      go : (x y : Bool) → must_has b p heard vs i ≡ x → can_has b p heard vs i ≡ y → marked (must_has b p heard vs i) (can_has b p heard vs i) unknown ≡ v
          → Justifies b p heard vs i v
      go true y d f r = subst (λ (u : Status). Justifies b p heard vs i u) (sym (rw d) ∙ r) (in_must h e (of_true d))
      go false true d f r = absurd (k (sym r ∙ rw (d, f)))
      go false false d f r = subst (λ (u : Status). Justifies b p heard vs i u) (sym (rw (d, f)) ∙ r) (not_in_can h e (of_false f))

  -- Two orders, the one after the other.
  pub joined : {us vs ws : List Status} {m n : ℕ} → Order b p heard us m vs → Order b p heard vs n ws → Order b p heard us (n + m) ws
  joined {us = us} {vs = vs} {m = m} o none_yet = subst (λ (k : ℕ). Order b p heard us k vs) (omega arith) o
  joined {us = us} {ws = ws} {m = m} o (one_more {n = n} q j) = subst (λ (k : ℕ). Order b p heard us k ws) (omega arith) (one_more (joined o q) j)

-- So every order, wherever it stands, can be gone on with to where the rounds end.
pub goes_on_to_the_end : (b : Block) (st : State) (heard : Hearing) {n : ℕ} {vs : List Status} → Order b (step b.body st) heard (begin b) n vs
    → (m : ℕ) × (ws : List Status) × Order b (step b.body st) heard vs m ws × Order b (step b.body st) heard (begin b) (m + n) ws × EndsAsRounds b st heard (m + n) ws
goes_on_to_the_end b st heard {n} {vs} o =
    let p = step b.body st in
    let g = goes_on b p heard (undecided vs) vs (omega arith) in
    let whole = joined b p heard o g.further in
    (g.steps, g.end, g.further, whole, any_order b st heard whole g.none_left)
