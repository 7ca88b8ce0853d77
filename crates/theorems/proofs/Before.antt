-- The rules before and now. At one event the formula has more in must and less in can, by the comparison of readings; so an answer now was one before, with
-- the same outputs and code. By the formula too the rounds end, since its must grows and its can shrinks with the event. Assumes nothing.
use mathlib.Core.Path.{◌≡◌, refl, sym, ◌∙◌, ap, ap₂, subst, subst⁻¹}
use mathlib.Core.Logic.{◌⊎◌, inl, inr}
use mathlib.Core.Bool.{Bool, true, false}
use mathlib.Core.List.{List}
use mathlib.Core.Option.{Option, none, some}
use Prim.Native.Nat.{ℕ, zero, suc, ◌+◌, ◌<◌}
use native.Mathlib.Nat.{not-suc-le-zero}
use native.Mathlib.Omega.{arith}
use lib.Dec.{T}
use lib.Seq.{ext_get_or}
use lib.ListN.{length, get_or, length-replicate}
use Rattle.sets.specs.Numbers.{Numbers, empty, single, union, only_if, lowest}
use Rattle.sets.proofs.Members.{of_true, of_false}
use Rattle.sets.proofs.Maxima.{maxima_out, downs_out}
use Rattle.sets.proofs.Counts.{lowest_some, lowest_none}
use Rattle.rules.specs.Statements.{Block, code}
use Rattle.rules.specs.Events.{Status, present, absent, unknown, Event, giving, known, event, Hearing}
use Rattle.rules.specs.Instant.{Step, done, stay, say, leave, test, catch, scope, chain, beside}
use Rattle.rules.specs.MustCan.{plus, must, can, Given, choose, marked, gives}
use Rattle.rules.specs.States.{State, step, executed_as, kept_by, kept, next}
use Rattle.rules.specs.Rounds.{round, begin, Rounds, all_same, Settled, one_more, answered, not_constructive, Answer, code_width, answer, undecided}
use Rattle.rules.proofs.RoundLaws.{all_same_is, all_same_refl, marks_length, marks_at}
use Rattle.rules.proofs.OneCode.{OneCode, one_single, one_choose, one_caught, one_hidden, one_followed, one_both, one_code}
use Rattle.theorems.specs.Order.{Below, ◌⊑◌, Inside}
use Rattle.theorems.specs.Before.{remark, formula, gives_by, gave, executed_before, kept_before, round_before, RoundsBefore, last, more, InstantBefore}
use Rattle.theorems.specs.Before.{answers, refuses, settle_before, react_before}
use Rattle.theorems.specs.Checked.{Checked}
use Rattle.theorems.specs.Reach.{Reached, at_first, settling}
use Rattle.theorems.specs.Traces.{Instant}
use Rattle.theorems.specs.Traces as now
use Rattle.theorems.proofs.Forms.{inside_trans, inside_antisym}
use Rattle.theorems.proofs.MustInCan.{in_force, must_in_can_by}
use Rattle.theorems.proofs.Compare.{⊑_refl, Closer, for_must, for_can, compare, marked_below}
use Rattle.theorems.proofs.Exact.{FirstOrBoth, only_first, then_second, first_or_both, can_in_must}
use Rattle.theorems.proofs.Reach.{begin_at, Backed, backed_below, marked_backed, backed_later, marked_under, outputs_below, round_at, reached_length, decided}
use Rattle.theorems.proofs.RoundsEnd.{progress, undecided_begin, last_unchanged, last_reached}
use Rattle.theorems.proofs.Traps.{root_codes}

-- The readings compared: the formula with itself, and with the remark.
formula_formula : Closer formula formula
formula_formula = record { strict_plus = refl; asks = λ m n r. tt }

formula_remark : Closer formula remark
formula_remark = record { strict_plus = refl; asks = λ m n r. tt }

-- What must gives now it gave before, at any event above; what can under plus gave before it gives now, at any event below.
less_must : (p : Step) {E F : Event} → E ⊑ F → Inside (gives must p E) (gave must p F)
less_must p {E} {F} h = subst (λ (g : Given). Inside g (gave must p F)) (in_force must p E) (compare formula remark formula_remark p (for_must h))

more_can : (p : Step) {E F : Event} → E ⊑ F → Inside (gave (can plus) p F) (gives (can plus) p E)
more_can p {E} {F} h =
    subst (λ (g : Given). Inside (gave (can plus) p F) g) (in_force (can plus) p E) (compare formula remark formula_remark p (for_can plus plus h tt))

must_was_in_can : (p : Step) (E : Event) → Inside (gave must p E) (gave (can plus) p E)
must_was_in_can p E = must_in_can_by formula refl p E

-- Must had at most one code.
pub one_code_before : (p : Step) (E : Event) → OneCode (gave must p E)
unfolding gives_by
one_code_before done E = one_single empty 0
one_code_before (stay A) E = one_single empty 1
one_code_before (say s) E = one_single (single s) 0
one_code_before (leave d) E = one_single empty (code d)
one_code_before (test s p q) E = one_choose (E s) (one_code_before p E) (one_code_before q E)
one_code_before (catch p) E = one_caught (one_code_before p E)
one_code_before (scope s p) E = one_hidden s (one_code_before p (giving E s (executed_before s p E)))
one_code_before (chain p q) E = one_followed (one_code_before p E) (one_code_before q E)
one_code_before (beside p q) E = one_both (one_code_before p E) (one_code_before q E)

-- Where must has a code now, it gave the same before.
pub same_must : (p : Step) (E : Event) (c : ℕ) → T ((gives must p E).codes c) → gave must p E ≡ gives must p E
same_must p E c t =
    inside_antisym (inside_trans (must_was_in_can p E) (inside_trans (more_can p ⊑_refl) (can_in_must p E c t))) (less_must p ⊑_refl)

-- And the same pauses were kept, since every local on the way had the same status.
guarded_same : (x : Bool) {A B : Numbers} → (T x → A ≡ B) → only_if x A ≡ only_if x B
guarded_same true f = ap (only_if true) (f tt)
guarded_same false f = refl

chosen_same : (v : Status) (c : ℕ) (p q : Given) {A B A' B' : Numbers} → (T (p.codes c) → A ≡ A') → (T (q.codes c) → B ≡ B')
    → T ((choose must v p q p q).codes c) → kept_by v A B ≡ kept_by v A' B'
chosen_same present c p q f g t = f t
chosen_same absent c p q f g t = g t
chosen_same unknown c p q f g t = absurd t

-- A local's status where must has a code with it is known, so that a status above it is the same.
known_same : (m k : Bool) (w : Status) → (marked m k unknown ≡ unknown → ⊥) → Below (marked m k unknown) w → w ≡ marked m k unknown
known_same true k w f l = l
known_same false true w f l = absurd (f refl)
known_same false false w f l = l

module _ (s : ℕ) (p : Step) (E : Event) (c : ℕ) where
  abbrev doubted : Event
  doubted = giving E s unknown

  never_unknown : T ((gives must p (giving E s (executed_as s p E))).codes c) → executed_as s p E ≡ unknown → ⊥
  never_unknown t e =
      let u : T ((gives must p doubted).codes c) = subst (λ (v : Status). T ((gives must p (giving E s v)).codes c)) e t in
      go ((gives must p doubted).signals s) ((gives (can plus) p doubted).signals s) ((can_in_must p doubted c u).of_signals.at s) e
    where
      go : (m k : Bool) → (T k → T m) → marked m k unknown ≡ unknown → ⊥
      go true k f q = let z : ◌≡◌ {A = ℕ} 0 1 = cc in omega arith
      go false true f q = f tt
      go false false f q = let z : ◌≡◌ {A = ℕ} 0 1 = cc in omega arith

  same_status : T ((gives must p (giving E s (executed_as s p E))).codes c) → executed_before s p E ≡ executed_as s p E
  same_status t =
      known_same ((gives must p doubted).signals s) ((gives (can plus) p doubted).signals s) (executed_before s p E) (never_unknown t)
      (marked_below ((gives must p doubted).signals s) ((gives (can plus) p doubted).signals s) ((gave must p doubted).signals s) ((gave (can plus) p doubted).signals s)
      ((less_must p ⊑_refl).of_signals.at s) ((more_can p ⊑_refl).of_signals.at s) ((must_was_in_can p doubted).of_signals.at s))

pub same_kept : (p : Step) (E : Event) (c : ℕ) → T ((gives must p E).codes c) → kept_before p E ≡ kept p E
unfolding gives kept kept_before
same_kept done E c t = refl
same_kept (stay A) E c t = refl
same_kept (say s) E c t = refl
same_kept (leave d) E c t = refl
same_kept (test s p q) E c t =
    ap₂ only_if (ap (λ (g : Given). g.codes 1) (same_must (test s p q) E c t))
    (chosen_same (E s) c (gives must p E) (gives must q E) (same_kept p E c) (same_kept q E c) t)
same_kept (catch p) E c t =
    let r = downs_out (gives must p E).codes c t in
    ap₂ only_if (ap (λ (g : Given). g.codes 1) (same_must (catch p) E c t)) (same_kept p E r.0 r.1)
same_kept (scope s p) E c t =
    ap₂ only_if (ap (λ (g : Given). g.codes 1) (same_must (scope s p) E c t))
    (ap (λ (v : Status). kept_before p (giving E s v)) (same_status s p E c t) ∙ same_kept p (giving E s (executed_as s p E)) c t)
same_kept (chain p q) E c t =
    ap₂ only_if (ap (λ (g : Given). g.codes 1) (same_must (chain p q) E c t))
    (chain_same (first_or_both (gives must p E) (gives must q E) c t) (same_kept p E) (same_kept q E))
  where
    chain_same : FirstOrBoth (gives must p E) (gives must q E) c → ((d : ℕ) → T ((gives must p E).codes d) → kept_before p E ≡ kept p E)
        → ((d : ℕ) → T ((gives must q E).codes d) → kept_before q E ≡ kept q E)
        → union (kept_before p E) (only_if ((gave must p E).codes 0) (kept_before q E)) ≡ union (kept p E) (only_if ((gives must p E).codes 0) (kept q E))
    chain_same (only_first u n) f g =
        ap₂ union (f c u)
        (ap (λ (h : Given). only_if (h.codes 0) (kept_before q E)) (same_must p E c u)
        ∙ guarded_same ((gives must p E).codes 0) (λ z. absurd (n ((one_code p E).equal c 0 u z))))
    chain_same (then_second z u) f g =
        ap₂ union (f 0 z) (ap₂ (λ (h : Given) (A : Numbers). only_if (h.codes 0) A) (same_must p E 0 z) (g c u))
same_kept (beside p q) E c t =
    let r = maxima_out (gives must p E).codes (gives must q E).codes c t in
    ap₂ only_if (ap (λ (g : Given). g.codes 1) (same_must (beside p q) E c t)) (ap₂ union (same_kept p E r.0 r.2) (same_kept q E r.1 r.3))

-- The rounds, as they were.
module _ (b : Block) (p : Step) (heard : Hearing) where
  abbrev had_must : List Status → ℕ → Bool
  had_must vs i = (gave must p (event b heard vs)).signals (b.inputs + i)

  abbrev had_can : List Status → ℕ → Bool
  had_can vs i = (gave (can plus) p (event b heard vs)).signals (b.inputs + i)

  was_within : (vs : List Status) (i : ℕ) → T (had_must vs i) → T (had_can vs i)
  was_within vs i = (must_was_in_can p (event b heard vs)).of_signals.at (b.inputs + i)

  before_length : (vs : List Status) → length (round_before b p heard vs) ≡ length vs
  unfolding round_before
  before_length vs = marks_length (gave must p (event b heard vs)) (gave (can plus) p (event b heard vs)) b.inputs vs

  before_at : (vs : List Status) (i : ℕ) → i < length vs → get_or (round_before b p heard vs) i unknown ≡ marked (had_must vs i) (had_can vs i) (get_or vs i unknown)
  unfolding round_before
  before_at vs i h = marks_at (gave must p (event b heard vs)) (gave (can plus) p (event b heard vs)) b.inputs vs i h

  pub record WasBacked (vs : List Status) : Type 0 where
    pub each : (i : ℕ) → i < length vs → Backed (get_or vs i unknown) (had_must vs i) (had_can vs i)

  begin_backed : WasBacked (begin b)
  unfolding begin
  begin_backed = record { each = λ i h. subst⁻¹ (λ (v : Status). Backed v (had_must (begin b) i) (had_can (begin b) i)) (begin_at b.outputs i) tt }

  module _ {vs : List Status} (w : WasBacked vs) where
    before_keeps : (i : ℕ) → i < length vs → Below (get_or vs i unknown) (get_or (round_before b p heard vs) i unknown)
    before_keeps i h =
        subst⁻¹ (λ (v : Status). Below (get_or vs i unknown) v) (before_at vs i h)
        (backed_below (get_or vs i unknown) (had_must vs i) (had_can vs i) (was_within vs i) (w.each i h))

    before_above : event b heard vs ⊑ event b heard (round_before b p heard vs)
    before_above = outputs_below b heard vs (round_before b p heard vs) before_keeps

    backed_on : WasBacked (round_before b p heard vs)
    backed_on = record { each = λ i h. later i (subst (λ (n : ℕ). i < n) (before_length vs) h) }
      where
        later : (i : ℕ) → i < length vs → Backed (get_or (round_before b p heard vs) i unknown) (had_must (round_before b p heard vs) i) (had_can (round_before b p heard vs) i)
        later i h =
            backed_later (get_or (round_before b p heard vs) i unknown) (had_must vs i) (had_can vs i) _ _
            ((compare formula formula formula_formula p (for_must before_above)).of_signals.at (b.inputs + i))
            ((compare formula formula formula_formula p (for_can plus plus before_above tt)).of_signals.at (b.inputs + i))
            (subst⁻¹ (λ (v : Status). Backed v (had_must vs i) (had_can vs i)) (before_at vs i h)
            (marked_backed (get_or vs i unknown) (had_must vs i) (had_can vs i) (w.each i h)))

  -- They end, and in one way.
  pub record EndedBefore (vs : List Status) (r : Settled) : Type 0 where
    pub ends : RoundsBefore b p heard vs r.rounds r.statuses

  pub settle_before_ends : (fuel : ℕ) (vs : List Status) → WasBacked vs → undecided vs < fuel → EndedBefore vs (settle_before b p heard fuel vs)
  unfolding settle_before
  settle_before_ends zero vs w h = absurd (not-suc-le-zero h)
  settle_before_ends (suc fuel) vs w h =
      go (all_same (round_before b p heard vs) vs) refl (progress vs (round_before b p heard vs) (before_length vs) (before_keeps w))
      (settle_before_ends fuel (round_before b p heard vs) (backed_on w))
    where
      go : (z : Bool) → all_same (round_before b p heard vs) vs ≡ z → (round_before b p heard vs ≡ vs) ⊎ (undecided (round_before b p heard vs) < undecided vs)
          → (undecided (round_before b p heard vs) < fuel → EndedBefore (round_before b p heard vs) (settle_before b p heard fuel (round_before b p heard vs)))
          → EndedBefore vs (elim z [ true ↦ record { statuses = vs; rounds = 1 } | false ↦ one_more (settle_before b p heard fuel (round_before b p heard vs)) ])
      go true e q f = record { ends = last (all_same_is (round_before b p heard vs) vs (of_true e)) }
      go false e (inl q) f = absurd (of_false e (subst⁻¹ (λ (ws : List Status). T (all_same ws vs)) q (all_same_refl vs)))
      go false e (inr q) f =
          record { ends = more (λ d. of_false e (subst⁻¹ (λ (ws : List Status). T (all_same ws vs)) d (all_same_refl vs))) (f (omega arith)).ends }

  rounds_were_one : {vs ws us : List Status} {m n : ℕ} → RoundsBefore b p heard vs m ws → RoundsBefore b p heard vs n us → (m ≡ n) × (ws ≡ us)
  rounds_were_one (last e) (last f) = (refl, refl)
  rounds_were_one (last e) (more f q) = absurd (f e)
  rounds_were_one (more e r) (last f) = absurd (e f)
  rounds_were_one (more e r) (more f q) = let x = rounds_were_one r q in (ap suc x.0, x.1)

  last_before : {vs ws : List Status} {n : ℕ} → RoundsBefore b p heard vs n ws → (round_before b p heard ws ≡ ws) × (length ws ≡ length vs)
  last_before (last e) = (e, refl)
  last_before (more {vs = vs} e r) = let x = last_before r in (x.0, x.1 ∙ before_length vs)

  -- Whatever is settled now stays below statuses that a round left as they were before.
  now_below : {vs ws : List Status} → Reached b p heard vs → length ws ≡ b.outputs → round_before b p heard ws ≡ ws
      → (i : ℕ) → i < b.outputs → Below (get_or vs i unknown) (get_or ws i unknown)
  unfolding begin
  now_below {ws = ws} at_first sized e i h = subst⁻¹ (λ (v : Status). Below v (get_or ws i unknown)) (begin_at b.outputs i) tt
  now_below {ws = ws} (settling {vs = us} {ws = vs} q s) sized e i h =
      go (λ j l. now_below q sized e j l) (s.each i (subst⁻¹ (λ (n : ℕ). i < n) (reached_length b p heard q) h))
    where
      go : ((j : ℕ) → j < b.outputs → Below (get_or us j unknown) (get_or ws j unknown))
          → (get_or vs i unknown ≡ get_or us i unknown) ⊎ (get_or vs i unknown ≡ get_or (round b p heard us) i unknown) → Below (get_or vs i unknown) (get_or ws i unknown)
      go f (inl a) = subst⁻¹ (λ (v : Status). Below v (get_or ws i unknown)) a (f i h)
      go f (inr a) =
          let up : event b heard us ⊑ event b heard ws = outputs_below b heard us ws (λ j l. f j (subst (λ (n : ℕ). j < n) (reached_length b p heard q) l)) in
          subst⁻¹ (λ (v : Status). Below v (get_or ws i unknown)) (a ∙ round_at b p heard us i (subst⁻¹ (λ (n : ℕ). i < n) (reached_length b p heard q) h))
          (marked_under (get_or us i unknown) (get_or ws i unknown)
          ((gives must p (event b heard us)).signals (b.inputs + i)) ((gives (can plus) p (event b heard us)).signals (b.inputs + i)) (had_must ws i) (had_can ws i)
          ((less_must p up).of_signals.at (b.inputs + i)) ((more_can p up).of_signals.at (b.inputs + i)) (was_within ws i)
          (ap (λ (us : List Status). get_or us i unknown) (sym e) ∙ before_at ws i (subst⁻¹ (λ (n : ℕ). i < n) sized h)) (f i h))

module _ (b : Block) (st : State) (heard : Hearing) where
  abbrev S : Step
  S = step b.body st

  -- By the formula too each instant had at most one answer, and of a checked block `react_before` computes it.
  pub one_answer_before : {a d : Answer} → InstantBefore b st heard a → InstantBefore b st heard d → a ≡ d
  one_answer_before (answers {vs = vs} {c = c} r t) (answers {vs = ws} {c = d} q u) =
      let e = rounds_were_one b S heard r q in
      let f : c ≡ d = (one_code_before S (event b heard vs)).equal c d t (subst⁻¹ (λ (us : List Status). T ((gave must S (event b heard us)).codes d)) e.1 u) in
      λ i. answered (e.1 i) (f i) (next (f i) (kept_before S (event b heard (e.1 i)))) (e.0 i)
  one_answer_before (answers {c = c} r t) (refuses q f) =
      let e = rounds_were_one b S heard r q in
      absurd (f c (subst (λ (us : List Status). T ((gave must S (event b heard us)).codes c)) e.1 t))
  one_answer_before (refuses r f) (answers {c = c} q u) =
      let e = rounds_were_one b S heard q r in
      absurd (f c (subst (λ (us : List Status). T ((gave must S (event b heard us)).codes c)) e.1 u))
  one_answer_before (refuses r f) (refuses q g) = let e = rounds_were_one b S heard r q in λ i. not_constructive (e.1 i) (e.0 i)

  pub reacted_before : Checked b → InstantBefore b st heard (react_before b st heard)
  unfolding react_before answer begin
  reacted_before checked = go (lowest code_width (gave must S E).codes) refl
    where
      r : Settled
      r = settle_before b S heard (suc b.outputs) (begin b)

      E : Event
      E = event b heard r.statuses

      ended : EndedBefore b S heard (begin b) r
      ended = let u : undecided (begin b) ≡ b.outputs = undecided_begin b.outputs in settle_before_ends b S heard (suc b.outputs) (begin b) (begin_backed b S heard) (omega arith)

      narrow : (c : ℕ) → (c ≡ 0) ⊎ (c ≡ 1) → c < code_width
      narrow c (inl q) = omega arith
      narrow c (inr q) = omega arith

      go : (o : Option ℕ) → lowest code_width (gave must S E).codes ≡ o → InstantBefore b st heard (answer r o (kept_before S E))
      go none e =
          refuses ended.ends (λ c t. lowest_none code_width (gave must S E).codes e c
          (narrow c ((root_codes b.body st checked.exits_are_trapped).if_given (can plus) E c
          ((more_can S ⊑_refl).of_codes.at c ((must_was_in_can S E).of_codes.at c t)))) t)
      go (some c) e = answers ended.ends (lowest_some code_width (gave must S E).codes e).1

  -- The statuses now lie below those before.
  module _ {vs ws : List Status} {m n : ℕ} (r : Rounds b S heard (begin b) m vs) (q : RoundsBefore b S heard (begin b) n ws) where
    sized : length ws ≡ b.outputs
    unfolding begin
    sized = (last_before b S heard q).1 ∙ length-replicate b.outputs unknown

    reached : Reached b S heard vs
    reached = last_reached b S heard at_first r

    under : event b heard vs ⊑ event b heard ws
    under =
        outputs_below b heard vs ws (λ i h.
        now_below b S heard reached sized (last_before b S heard q).0 i (subst (λ (k : ℕ). i < k) (reached_length b S heard reached) h))

    -- With a code now they are the same: each is decided now.
    same_statuses : (c : ℕ) → T ((gives must S (event b heard vs)).codes c) → ws ≡ vs
    same_statuses c t =
        ext_get_or unknown ws vs (sized ∙ sym (reached_length b S heard reached)) (λ i h.
        let l : i < length vs = subst (λ (k : ℕ). i < k) (sized ∙ sym (reached_length b S heard reached)) h in
        known_stays (get_or vs i unknown) (get_or ws i unknown) ((gives must S (event b heard vs)).signals (b.inputs + i)) (decided b S heard vs (last_unchanged b S heard r) c t i l)
        (now_below b S heard reached sized (last_before b S heard q).0 i (subst (λ (k : ℕ). i < k) sized h)))
      where
        known_stays : (v w : Status) (x : Bool) → v ≡ known x → Below v w → w ≡ v
        known_stays present w x e l = l
        known_stays absent w x e l = l
        known_stays unknown w true e l = let z : ◌≡◌ {A = ℕ} 0 1 = cc in absurd (omega arith)
        known_stays unknown w false e l = let z : ◌≡◌ {A = ℕ} 0 1 = cc in absurd (omega arith)

  -- No instant refused before is answered now.
  pub none_newly_answered : {vs ws : List Status} {c m n : ℕ} {st' : State} → InstantBefore b st heard (not_constructive ws n) → Instant b st heard (answered vs c st' m) → ⊥
  none_newly_answered (refuses q f) (now.answers {c = c} r t) = f c ((less_must S (under r q)).of_codes.at c t)

  -- Where both answer, they have the same outputs, code and next state.
  pub same_as_before : {vs ws : List Status} {c d m n : ℕ} {st' st'' : State} → InstantBefore b st heard (answered ws d st'' n) → Instant b st heard (answered vs c st' m)
      → (ws ≡ vs) × (d ≡ c) × (st'' ≡ st')
  same_as_before (answers {vs = ws} {c = d} q u) (now.answers {vs = vs} {c = c} r t) =
      let e = same_statuses r q c t in
      let u' : T ((gave must S (event b heard vs)).codes d) = subst (λ (us : List Status). T ((gave must S (event b heard us)).codes d)) e u in
      let k : d ≡ c = (one_code S (event b heard vs)).equal d c (subst (λ (g : Given). T (g.codes d)) (same_must S (event b heard vs) c t) u') t in (
        e,
        k,
        ap₂ (λ (x : ℕ) (us : List Status). next x (kept_before S (event b heard us))) k e ∙ ap (next c) (same_kept S (event b heard vs) c t),
      )

  -- An instant answered now was answered before, with the same outputs, code and next state, whether or not the block is checked.
  pub was_answered : {vs : List Status} {c m : ℕ} {st' : State} → Instant b st heard (answered vs c st' m) → (n : ℕ) × InstantBefore b st heard (answered vs c st' n)
  unfolding begin
  was_answered (now.answers {vs = vs} {c = c} r t) =
      let f = settle_before b S heard (suc b.outputs) (begin b) in
      let u : undecided (begin b) ≡ b.outputs = undecided_begin b.outputs in
      let q = (settle_before_ends b S heard (suc b.outputs) (begin b) (begin_backed b S heard) (omega arith)).ends in
      let e : f.statuses ≡ vs = same_statuses r q c t in
      let had : InstantBefore b st heard (answered f.statuses c (next c (kept_before S (event b heard f.statuses))) f.rounds) =
      answers q ((less_must S (under r q)).of_codes.at c t) in (
        f.rounds,
        subst (λ (x : State). InstantBefore b st heard (answered vs c x f.rounds)) (ap (next c) (same_kept S (event b heard vs) c t))
            (subst (λ (us : List Status). InstantBefore b st heard (answered us c (next c (kept_before S (event b heard us))) f.rounds)) e had),
      )
