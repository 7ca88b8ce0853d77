-- Reached statuses are backed by must and can at their own event, so that a decided output keeps its status: by induction over the
-- settling, as must grows and can shrinks. At statuses that a round leaves as they are a known code decides every output. Assumes nothing.
use mathlib.Core.Path.{◌≡◌, refl, sym, ◌∙◌, ap, ap₂, subst, subst⁻¹}
use mathlib.Core.Logic.{◌⊎◌, inl, inr}
use mathlib.Core.Bool.{Bool, true, false, cond}
use mathlib.Core.List.{List}
use Prim.Native.Nat.{ℕ, zero, suc, ◌+◌, ◌-◌, ◌<◌}
use native.Mathlib.Decide.{dec_lt}
use native.Mathlib.Omega.{arith}
use lib.Dec.{T, ltb}
use lib.Seq.{ext_get_or}
use lib.ListN.{length, get_or, replicate, length-replicate, get_or-eq_default}
use Rattle.sets.proofs.Members.{is_true}
use Rattle.rules.specs.Statements.{Block}
use Rattle.rules.specs.Events.{Status, present, absent, unknown, Event, known, event, Hearing, input_status}
use Rattle.rules.specs.Instant.{Step}
use Rattle.rules.specs.MustCan.{plus, must, can, marked, gives}
use Rattle.rules.specs.Rounds.{round, begin}
use Rattle.rules.proofs.RoundLaws.{marks_length, marks_at}
use Rattle.theorems.specs.Order.{Below, ◌⊑◌}
use Rattle.theorems.specs.Reach.{Settling, Reached, at_first, settling}
use Rattle.theorems.proofs.Cases.{by_test}
use Rattle.theorems.proofs.MustInCan.{must_in_can}
use Rattle.theorems.proofs.Compare.{below_refl, must_grows, can_shrinks}
use Rattle.theorems.proofs.Exact.{can_in_must}

pub begin_at : (n i : ℕ) → get_or (replicate n unknown) i unknown ≡ unknown
begin_at zero i = refl
begin_at (suc n) zero = refl
begin_at (suc n) (suc i) = begin_at n i

-- A known status is backed: present is in must, absent is not in can.
abbrev pub Backed : Status → Bool → Bool → Type 0
Backed present m c = T m
Backed absent m c = T c → ⊥
Backed unknown m c = Unit {0}

pub backed_below : (v : Status) (m c : Bool) → (T m → T c) → Backed v m c → Below v (marked m c v)
backed_below present true c f h = refl
backed_below present false c f h = absurd h
backed_below absent true c f h = absurd (h (f tt))
backed_below absent false true f h = refl
backed_below absent false false f h = refl
backed_below unknown m c f h = tt

pub marked_backed : (v : Status) (m c : Bool) → Backed v m c → Backed (marked m c v) m c
marked_backed v true c h = tt
marked_backed v false true h = h
marked_backed v false false h = λ t. t

pub backed_later : (v : Status) (m c m' c' : Bool) → (T m → T m') → (T c' → T c) → Backed v m c → Backed v m' c'
backed_later present m c m' c' f g h = f h
backed_later absent m c m' c' f g h = λ t. h (g t)
backed_later unknown m c m' c' f g h = tt

marked_all : (v : Status) (m c : Bool) → (T m → T c) → (T c → T m) → marked m c v ≡ known m
marked_all v true c f g = refl
marked_all v false true f g = absurd (g tt)
marked_all v false false f g = refl

pub marked_under : (v w : Status) (m c m' c' : Bool) → (T m → T m') → (T c' → T c) → (T m' → T c') → w ≡ marked m' c' w → Below v w → Below (marked m c v) w
marked_under v w true c true c' f g h e l = e
marked_under v w true c false c' f g h e l = absurd (f tt)
marked_under v w false true m' c' f g h e l = l
marked_under v w false false true c' f g h e l = absurd (g (h tt))
marked_under v w false false false true f g h e l = absurd (g tt)
marked_under v w false false false false f g h e l = e

below_antisym : (v w : Status) → Below v w → Below w v → v ≡ w
below_antisym present w d e = sym d
below_antisym absent w d e = sym d
below_antisym unknown present d e = e
below_antisym unknown absent d e = e
below_antisym unknown unknown d e = refl

module _ (b : Block) (heard : Hearing) where
  -- Events by their outputs.
  pub event_below : (vs : List Status) (F : Event) → ((n : ℕ) → T (ltb n b.inputs) → Below (input_status heard n) (F n))
      → ((i : ℕ) → i < length vs → (n : ℕ) → ltb n b.inputs ≡ false → n - b.inputs ≡ i → Below (get_or vs i unknown) (F n))
      → event b heard vs ⊑ F
  unfolding event
  event_below vs F f g = record {
    at = λ n. by_test (λ (v : Status). Below v (F n)) (ltb n b.inputs) (input_status heard n) (get_or vs (n - b.inputs) unknown) (f n)
        (λ e. out n e (dec_lt (n - b.inputs) (length vs)));
  }
    where
      out : (n : ℕ) → ltb n b.inputs ≡ false → Dec (n - b.inputs < length vs) → Below (get_or vs (n - b.inputs) unknown) (F n)
      out n e (yes h) = g (n - b.inputs) h n e refl
      out n e (no h) = subst⁻¹ (λ (v : Status). Below v (F n)) (get_or-eq_default vs unknown (omega arith)) tt

  pub event_input : (ws : List Status) (n : ℕ) → T (ltb n b.inputs) → event b heard ws n ≡ input_status heard n
  unfolding event
  event_input ws n t = ap (λ (z : Bool). cond z (input_status heard n) (get_or ws (n - b.inputs) unknown)) (is_true (ltb n b.inputs) t)

  pub event_output : (ws : List Status) (i n : ℕ) → ltb n b.inputs ≡ false → n - b.inputs ≡ i → event b heard ws n ≡ get_or ws i unknown
  unfolding event
  event_output ws i n e q = ap₂ (λ (z : Bool) (j : ℕ). cond z (input_status heard n) (get_or ws j unknown)) e q

  pub outputs_below : (vs ws : List Status) → ((i : ℕ) → i < length vs → Below (get_or vs i unknown) (get_or ws i unknown)) → event b heard vs ⊑ event b heard ws
  outputs_below vs ws f =
      event_below vs (event b heard ws) (λ n t. subst⁻¹ (λ (v : Status). Below (input_status heard n) v) (event_input ws n t) (below_refl (input_status heard n)))
      (λ i h n e q. subst⁻¹ (λ (v : Status). Below (get_or vs i unknown) v) (event_output ws i n e q) (f i h))

module _ (b : Block) (p : Step) (heard : Hearing) where
  -- Whether output i is in must, and whether it is in can, at the event of these statuses.
  abbrev pub in_must : List Status → ℕ → Bool
  in_must vs i = (gives must p (event b heard vs)).signals (b.inputs + i)

  abbrev pub in_can : List Status → ℕ → Bool
  in_can vs i = (gives (can plus) p (event b heard vs)).signals (b.inputs + i)

  pub must_can : (vs : List Status) (i : ℕ) → T (in_must vs i) → T (in_can vs i)
  must_can vs i = (must_in_can p (event b heard vs)).of_signals.at (b.inputs + i)

  pub round_length : (vs : List Status) → length (round b p heard vs) ≡ length vs
  unfolding round
  round_length vs = marks_length (gives must p (event b heard vs)) (gives (can plus) p (event b heard vs)) b.inputs vs

  pub round_at : (vs : List Status) (i : ℕ) → i < length vs → get_or (round b p heard vs) i unknown ≡ marked (in_must vs i) (in_can vs i) (get_or vs i unknown)
  unfolding round
  round_at vs i h = marks_at (gives must p (event b heard vs)) (gives (can plus) p (event b heard vs)) b.inputs vs i h

  pub record Justified (vs : List Status) : Type 0 where
    pub backed : (i : ℕ) → i < length vs → Backed (get_or vs i unknown) (in_must vs i) (in_can vs i)

  -- A decided output keeps its status when any part is settled.
  pub settling_keeps : {vs ws : List Status} → Justified vs → Settling b p heard vs ws → (i : ℕ) → i < length vs → Below (get_or vs i unknown) (get_or ws i unknown)
  settling_keeps {vs} {ws} j s i h = go (s.each i h)
    where
      go : (get_or ws i unknown ≡ get_or vs i unknown) ⊎ (get_or ws i unknown ≡ get_or (round b p heard vs) i unknown) → Below (get_or vs i unknown) (get_or ws i unknown)
      go (inl e) = subst⁻¹ (λ (v : Status). Below (get_or vs i unknown) v) e (below_refl (get_or vs i unknown))
      go (inr e) =
          subst⁻¹ (λ (v : Status). Below (get_or vs i unknown) v) (e ∙ round_at vs i h)
          (backed_below (get_or vs i unknown) (in_must vs i) (in_can vs i) (must_can vs i) (j.backed i h))

  pub settling_above : {vs ws : List Status} → Justified vs → Settling b p heard vs ws → event b heard vs ⊑ event b heard ws
  settling_above {vs} {ws} j s = outputs_below b heard vs ws (settling_keeps j s)

  settling_justified : {vs ws : List Status} → Justified vs → Settling b p heard vs ws → Justified ws
  settling_justified {vs} {ws} j s = record { backed = λ i h. later i (subst (λ (n : ℕ). i < n) s.same_length h) }
    where
      there : (i : ℕ) → i < length vs → (get_or ws i unknown ≡ get_or vs i unknown) ⊎ (get_or ws i unknown ≡ get_or (round b p heard vs) i unknown)
          → Backed (get_or ws i unknown) (in_must vs i) (in_can vs i)
      there i h (inl e) = subst⁻¹ (λ (v : Status). Backed v (in_must vs i) (in_can vs i)) e (j.backed i h)
      there i h (inr e) =
          subst⁻¹ (λ (v : Status). Backed v (in_must vs i) (in_can vs i)) (e ∙ round_at vs i h)
          (marked_backed (get_or vs i unknown) (in_must vs i) (in_can vs i) (j.backed i h))

      later : (i : ℕ) → i < length vs → Backed (get_or ws i unknown) (in_must ws i) (in_can ws i)
      later i h =
          backed_later (get_or ws i unknown) (in_must vs i) (in_can vs i) (in_must ws i) (in_can ws i)
          ((must_grows p (settling_above j s)).of_signals.at (b.inputs + i))
          ((can_shrinks p plus (settling_above j s)).of_signals.at (b.inputs + i)) (there i h (s.each i h))

  begin_justified : Justified (begin b)
  unfolding begin
  begin_justified = record {
    backed = λ i h. subst⁻¹ (λ (v : Status). Backed v (in_must (begin b) i) (in_can (begin b) i)) (begin_at b.outputs i) tt;
  }

  pub reached_justified : {vs : List Status} → Reached b p heard vs → Justified vs
  reached_justified at_first = begin_justified
  reached_justified (settling r s) = settling_justified (reached_justified r) s

  pub reached_length : {vs : List Status} → Reached b p heard vs → length vs ≡ b.outputs
  unfolding begin
  reached_length at_first = length-replicate b.outputs unknown
  reached_length (settling r s) = s.same_length ∙ reached_length r

  -- A round settles all that it can.
  pub round_settles : (vs : List Status) → Settling b p heard vs (round b p heard vs)
  round_settles vs = record { same_length = round_length vs; each = λ i h. inr refl }

  -- From round to round a decided output keeps its status.
  pub round_keeps : {vs : List Status} → Reached b p heard vs → (i : ℕ) → i < length vs → Below (get_or vs i unknown) (get_or (round b p heard vs) i unknown)
  round_keeps {vs} r i h = settling_keeps (reached_justified r) (round_settles vs) i h

  -- Where a round changes nothing and the code is known, no output is undecided: each has the status that must gives it.
  pub decided : (vs : List Status) → round b p heard vs ≡ vs → (c : ℕ) → T ((gives must p (event b heard vs)).codes c)
      → (i : ℕ) → i < length vs → get_or vs i unknown ≡ known (in_must vs i)
  decided vs e c t i h =
      ap (λ (ws : List Status). get_or ws i unknown) (sym e) ∙ round_at vs i h
      ∙ marked_all (get_or vs i unknown) (in_must vs i) (in_can vs i) (must_can vs i) ((can_in_must p (event b heard vs) c t).of_signals.at (b.inputs + i))

  -- Whatever is settled, and in whatever order, stays below statuses that were reached and that a round leaves as they are.
  reached_below : {vs ws : List Status} → Reached b p heard vs → Reached b p heard ws → round b p heard ws ≡ ws
      → (i : ℕ) → i < b.outputs → Below (get_or vs i unknown) (get_or ws i unknown)
  unfolding begin
  reached_below {ws = ws} at_first r e i h = subst⁻¹ (λ (v : Status). Below v (get_or ws i unknown)) (begin_at b.outputs i) tt
  reached_below {ws = ws} (settling {vs = us} {ws = vs} q s) r e i h =
      go (λ j l. reached_below q r e j l) (s.each i (subst⁻¹ (λ (n : ℕ). i < n) (reached_length q) h))
    where
      go : ((j : ℕ) → j < b.outputs → Below (get_or us j unknown) (get_or ws j unknown))
          → (get_or vs i unknown ≡ get_or us i unknown) ⊎ (get_or vs i unknown ≡ get_or (round b p heard us) i unknown) → Below (get_or vs i unknown) (get_or ws i unknown)
      go f (inl a) = subst⁻¹ (λ (v : Status). Below v (get_or ws i unknown)) a (f i h)
      go f (inr a) =
          let up : event b heard us ⊑ event b heard ws = outputs_below b heard us ws (λ j l. f j (subst (λ (n : ℕ). j < n) (reached_length q) l)) in
          subst⁻¹ (λ (v : Status). Below v (get_or ws i unknown)) (a ∙ round_at us i (subst⁻¹ (λ (n : ℕ). i < n) (reached_length q) h))
          (marked_under (get_or us i unknown) (get_or ws i unknown) (in_must us i) (in_can us i) (in_must ws i) (in_can ws i)
          ((must_grows p up).of_signals.at (b.inputs + i)) ((can_shrinks p plus up).of_signals.at (b.inputs + i)) (must_can ws i)
          (ap (λ (us : List Status). get_or us i unknown) (sym e) ∙ round_at ws i (subst⁻¹ (λ (n : ℕ). i < n) (reached_length r) h)) (f i h))

  -- So any two ways of settling, each until nothing is left to settle, end with the same statuses.
  pub same_end : {vs ws : List Status} → Reached b p heard vs → Reached b p heard ws → round b p heard vs ≡ vs → round b p heard ws ≡ ws → vs ≡ ws
  same_end {vs} {ws} q r d e =
      ext_get_or unknown vs ws (reached_length q ∙ sym (reached_length r)) (λ i h.
      let l : i < b.outputs = subst (λ (n : ℕ). i < n) (reached_length q) h in
      below_antisym (get_or vs i unknown) (get_or ws i unknown) (reached_below q r e i l) (reached_below r q d i l))
