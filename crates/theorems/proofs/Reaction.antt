-- Any coherent reaction lies between must and can at every reached event, since each settled status is the one that it assigns: by
-- induction over the settling. So with the code known it is the computed reaction, which is itself coherent. Assumes nothing.
use mathlib.Core.Path.{◌≡◌, refl, sym, ◌∙◌, ap, ap₂, subst, subst⁻¹}
use mathlib.Core.Logic.{◌⊎◌, inl, inr}
use mathlib.Core.Bool.{Bool, true, false, cond}
use mathlib.Core.List.{List, [], ◌∷◌, map}
use Prim.Native.Nat.{ℕ, zero, suc, ◌+◌, ◌-◌, ◌<◌}
use native.Mathlib.Nat.{le_of_suc-le-suc, not-suc-le-zero}
use lib.Dec.{T, ltb}
use lib.ListN.{length, get_or, length-map, get_or-map}
use lib.Seq.{ext_get_or}
use Rattle.sets.specs.Numbers.{Numbers}
use Rattle.sets.proofs.Members.{is_true}
use Rattle.rules.specs.Statements.{Block}
use Rattle.rules.specs.Events.{Status, present, absent, unknown, Event, known, Hearing, input_status, event}
use Rattle.rules.specs.MustCan.{plus, must, can, gives}
use Rattle.rules.specs.States.{State, step, kept, next}
use Rattle.rules.specs.Rounds.{round, begin}
use Rattle.rules.specs.Coherence.{execute, world, Coherent, LocalsAgree}
use Rattle.theorems.specs.Order.{Below, ◌⊑◌, Choice, whole, Between}
use Rattle.theorems.specs.Reach.{Reached, at_first, settling}
use Rattle.theorems.specs.Reactions.{is_present, SameReaction, SameLocals}
use Rattle.theorems.proofs.Sound.{marked_known, sound, code_of_run, emitted_of_run}
use Rattle.theorems.proofs.Kept.{kept_of_run}
use Rattle.theorems.proofs.Runs.{runs}
use Rattle.theorems.proofs.SameLocals.{same_locals}
use Rattle.theorems.proofs.Reach.{begin_at, round_at, event_below, reached_length, decided, in_must, in_can}

is_present_known : (v : Bool) → is_present (known v) ≡ v
is_present_known true = refl
is_present_known false = refl

is_present_all : (outs : List Bool) → map is_present (map known outs) ≡ outs
is_present_all [] = refl
is_present_all (o ∷ outs) = ap₂ (λ (x : Bool) (xs : List Bool). x ∷ xs) (is_present_known o) (is_present_all outs)

pub below_is_present : (v : Status) → Below v (known (is_present v))
below_is_present present = refl
below_is_present absent = refl
below_is_present unknown = tt

module _ (b : Block) (heard : Hearing) (given : Numbers) (chosen : Choice b heard given) (outs : List Bool) where
  world_input : (n : ℕ) → T (ltb n b.inputs) → world b given outs n ≡ given n
  unfolding world
  world_input n t = ap (λ (z : Bool). cond z (given n) (get_or outs (n - b.inputs) false)) (is_true (ltb n b.inputs) t)

  world_output : (i n : ℕ) → ltb n b.inputs ≡ false → n - b.inputs ≡ i → world b given outs n ≡ get_or outs i false
  unfolding world
  world_output i n e q = ap₂ (λ (z : Bool) (j : ℕ). cond z (given n) (get_or outs j false)) e q

  -- An event lies below a world when its outputs do.
  below_world : (vs : List Status)
      → ((i : ℕ) → i < length vs → Below (get_or vs i unknown) (known (get_or outs i false))) → event b heard vs ⊑ whole (world b given outs)
  below_world vs f =
      event_below b heard vs (whole (world b given outs))
      (λ n t. subst⁻¹ (λ (x : Bool). Below (input_status heard n) (known x)) (world_input n t) (chosen.at n t))
      (λ i h n e q. subst⁻¹ (λ (x : Bool). Below (get_or vs i unknown) (known x)) (world_output i n e q) (f i h))

module _ (b : Block) (st : State) (heard : Hearing) (given : Numbers) (chosen : Choice b heard given) {outs : List Bool} {c : ℕ} {st' : State} (r : Coherent b st given outs c st') where
  -- Every settled status is the assigned one.
  as_assigned : {vs : List Status} → Reached b (step b.body st) heard vs → (i : ℕ) → i < b.outputs → Below (get_or vs i unknown) (known (get_or outs i false))
  unfolding begin
  as_assigned at_first i h = subst⁻¹ (λ (v : Status). Below v (known (get_or outs i false))) (begin_at b.outputs i) tt
  as_assigned (settling {vs = us} {ws = vs} q s) i h =
      go (λ j l. as_assigned q j l) (s.each i (subst⁻¹ (λ (n : ℕ). i < n) (reached_length b (step b.body st) heard q) h))
    where
      go : ((j : ℕ) → j < b.outputs → Below (get_or us j unknown) (known (get_or outs j false)))
          → (get_or vs i unknown ≡ get_or us i unknown) ⊎ (get_or vs i unknown ≡ get_or (round b (step b.body st) heard us) i unknown)
          → Below (get_or vs i unknown) (known (get_or outs i false))
      go f (inl a) = subst⁻¹ (λ (v : Status). Below v (known (get_or outs i false))) a (f i h)
      go f (inr a) =
          let n : length us ≡ b.outputs = reached_length b (step b.body st) heard q in
          let up = below_world b heard given chosen outs us (λ j l. f j (subst (λ (k : ℕ). j < k) n l)) in
          let g = sound (step b.body st) r.locals (world b given outs) r.locals_agree (event b heard us) up in
          subst⁻¹ (λ (v : Status). Below v (known (get_or outs i false))) (a ∙ round_at b (step b.body st) heard us i (subst⁻¹ (λ (k : ℕ). i < k) n h))
          (marked_known (in_must b (step b.body st) heard us i) (in_can b (step b.body st) heard us i) (get_or outs i false) (get_or us i unknown)
          (λ t. subst⁻¹ T (r.outputs_agree i h) (g.lower.of_signals.at (b.inputs + i) t))
          (λ t. g.upper.of_signals.at (b.inputs + i) (subst T (r.outputs_agree i h) t)) (f i h))

  -- Its world lies above every reached event.
  pub coherent_above : {vs : List Status} → Reached b (step b.body st) heard vs → event b heard vs ⊑ whole (world b given outs)
  coherent_above {vs} q = below_world b heard given chosen outs vs (λ i h. as_assigned q i (subst (λ (n : ℕ). i < n) (reached_length b (step b.body st) heard q) h))

  -- It lies between must and can at every reached event.
  pub coherent_between : {vs : List Status} → Reached b (step b.body st) heard vs
      → Between (gives must (step b.body st) (event b heard vs)) (gives (can plus) (step b.body st) (event b heard vs))
      (execute (step b.body st) r.locals (world b given outs))
  coherent_between {vs} q = sound (step b.body st) r.locals (world b given outs) r.locals_agree (event b heard vs) (coherent_above q)

known_at : (outs : List Bool) (i : ℕ) → i < length outs → get_or (map known outs) i unknown ≡ known (get_or outs i false)
known_at [] i h = absurd (not-suc-le-zero h)
known_at (o ∷ outs) zero h = refl
known_at (o ∷ outs) (suc i) h = known_at outs i (le_of_suc-le-suc h)

-- At statuses that were reached, that a round leaves as they are and that make the code known:
module _ (b : Block) (st : State) (heard : Hearing) (given : Numbers) (chosen : Choice b heard given) (vs : List Status) (q : Reached b (step b.body st) heard vs)
    (e : round b (step b.body st) heard vs ≡ vs) (c : ℕ) (t : T ((gives must (step b.body st) (event b heard vs)).codes c)) where
  -- every coherent reaction is the computed one;
  pub coherent_unique : {outs : List Bool} {d : ℕ} {st'' : State} → Coherent b st given outs d st''
      → SameReaction vs c (next c (kept (step b.body st) (event b heard vs))) outs d st''
  coherent_unique {outs} {d} {st''} r =
      let p = step b.body st in
      let W : Numbers = world b given outs in
      let E : Event = event b heard vs in
      let up : E ⊑ whole W = coherent_above b st heard given chosen r q in
      let n : length vs ≡ b.outputs = reached_length b p heard q in
      let code : c ≡ (execute p r.locals W).completes = code_of_run p r.locals W r.locals_agree E up c t in
      record {
        same_outputs = ext_get_or unknown (map known outs) vs (length-map outs known ∙ r.each_output ∙ sym n) (λ i h.
            let l : i < length outs = subst (λ (k : ℕ). i < k) (length-map outs known) h in
            let k : i < b.outputs = subst (λ (k : ℕ). i < k) r.each_output l in
            known_at outs i l
            ∙ ap known (r.outputs_agree i k ∙ ap (λ (S : Numbers). S (b.inputs + i)) (emitted_of_run p r.locals W r.locals_agree E up c t))
            ∙ sym (decided b p heard vs e c t i (subst⁻¹ (λ (k : ℕ). i < k) n k)));
        same_code = sym r.its_code ∙ sym code;
        same_next = sym r.its_next ∙ ap₂ next (sym r.its_code ∙ sym code) (kept_of_run p r.locals W r.locals_agree E up c t);
      }

  -- and the computed reaction is coherent.
  pub computed_coherent : Coherent b st given (map is_present vs) c (next c (kept (step b.body st) (event b heard vs)))
  computed_coherent =
      let p = step b.body st in
      let outs : List Bool = map is_present vs in
      let W : Numbers = world b given outs in
      let E : Event = event b heard vs in
      let n : length vs ≡ b.outputs = reached_length b p heard q in
      let at : (i : ℕ) → get_or outs i false ≡ is_present (get_or vs i unknown) = (λ i. get_or-map is_present vs i unknown) in
      let up : E ⊑ whole W = below_world b heard given chosen outs vs (λ i h. subst⁻¹ (λ (x : Bool). Below (get_or vs i unknown) (known x)) (at i) (below_is_present (get_or vs i unknown))) in
      let l = runs p E W up c t in
      let code : c ≡ (execute p l.0 W).completes = code_of_run p l.0 W l.1 E up c t in
      record {
        each_output = length-map vs is_present ∙ n;
        locals = l.0;
        locals_agree = l.1;
        outputs_agree = λ i h.
            at i ∙ ap is_present (decided b p heard vs e c t i (subst⁻¹ (λ (k : ℕ). i < k) n h)) ∙ is_present_known (in_must b p heard vs i)
            ∙ sym (ap (λ (S : Numbers). S (b.inputs + i)) (emitted_of_run p l.0 W l.1 E up c t));
        its_code = sym code;
        its_next = ap (next c) (kept_of_run p l.0 W l.1 E up c t);
      }

  -- Each local has the same status in every coherent reaction, each time its body is executed.
  pub locals_unique : {outs : List Bool} {d : ℕ} {st'' : State} (r : Coherent b st given outs d st'')
      → SameLocals (step b.body st) computed_coherent.locals r.locals (world b given (map is_present vs))
  locals_unique {outs} r =
      let p = step b.body st in
      let e : outs ≡ map is_present vs = sym (is_present_all outs) ∙ ap (map is_present) (coherent_unique r).same_outputs in
      same_locals p computed_coherent.locals r.locals (world b given (map is_present vs)) computed_coherent.locals_agree
      (subst (λ (os : List Bool). LocalsAgree p r.locals (world b given os)) e r.locals_agree)
      (event b heard vs) (coherent_above b st heard given chosen computed_coherent q) c t
