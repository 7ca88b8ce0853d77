-- Inputs not heard yet: hearing more only raises the event, must grows with it and a code once known stays. So an answer given with unknown inputs has the
-- outputs, the code and the next state that come with any further hearing, down to every choice of present and absent. Assumes nothing.
use mathlib.Core.Path.{◌≡◌, refl, sym, ◌∙◌, ap, ap₂, subst, subst⁻¹}
use mathlib.Core.Logic.{◌⊎◌, inl, inr}
use mathlib.Core.Bool.{Bool, true, false, not, ◌&&◌}
use mathlib.Core.List.{List}
use Prim.Native.Nat.{ℕ, ◌+◌, ◌<◌}
use native.Mathlib.Omega.{arith}
use lib.Dec.{T, ltb, ltb→lt}
use lib.Seq.{ext_get_or}
use lib.ListN.{length, get_or}
use Rattle.sets.specs.Numbers.{Numbers}
use Rattle.sets.proofs.Members.{is_true, and_left, and_right}
use Rattle.rules.specs.Statements.{Block}
use Rattle.rules.specs.Events.{Status, present, absent, unknown, Event, known, Hearing, status_of, input_status, all_heard, event}
use Rattle.rules.specs.Instant.{Step}
use Rattle.rules.specs.MustCan.{plus, must, gives}
use Rattle.rules.specs.States.{State, step, kept, next}
use Rattle.rules.specs.Rounds.{round, begin, Answer, answered}
use Rattle.rules.proofs.OneCode.{one_code}
use Rattle.theorems.specs.Order.{Below, ◌⊑◌, HearsMore, Choice, whole}
use Rattle.theorems.specs.Reach.{Reached, at_first, settling}
use Rattle.theorems.specs.Traces.{InputSet, Instant, answers, refuses}
use Rattle.theorems.specs.Reactions.{is_present}
use Rattle.theorems.specs.Late.{SameButRounds}
use Rattle.theorems.proofs.Compare.{below_refl, must_grows, can_shrinks}
use Rattle.theorems.proofs.Reach.{begin_at, in_must, in_can, must_can, marked_under, event_below, event_input, event_output, round_at, reached_length, decided}
use Rattle.theorems.proofs.RoundsEnd.{last_unchanged, last_reached}
use Rattle.theorems.proofs.Runs.{runs}
use Rattle.theorems.proofs.Kept.{kept_of_run}
use Rattle.theorems.proofs.Reaction.{below_is_present}

below_trans : (u v w : Status) → Below u v → Below v w → Below u w
below_trans present v w d e = subst (λ (x : Status). Below x w) d e
below_trans absent v w d e = subst (λ (x : Status). Below x w) d e
below_trans unknown v w d e = tt

-- A known status stays, and statuses above known ones are the same.
known_above : (v w : Status) (x : Bool) → v ≡ known x → Below v w → w ≡ v
known_above present w x e l = l
known_above absent w x e l = l
known_above unknown w true e l = let z : ◌≡◌ {A = ℕ} 0 1 = cc in absurd (omega arith)
known_above unknown w false e l = let z : ◌≡◌ {A = ℕ} 0 1 = cc in absurd (omega arith)

-- What is kept with a code known is kept at every event above: both are what one execution keeps.
pub kept_stays : (p : Step) {E F : Event} → E ⊑ F → (c : ℕ) → T ((gives must p E).codes c) → kept p E ≡ kept p F
kept_stays p {E} {F} h c t =
    let W : Numbers = λ n. is_present (F n) in
    let up : F ⊑ whole W = record { at = λ n. below_is_present (F n) } in
    let over : E ⊑ whole W = record { at = λ n. below_trans (E n) (F n) (known (W n)) (h.at n) (up.at n) } in
    let u = (must_grows p h).of_codes.at c t in
    let r = runs p F W up c u in
    sym (kept_of_run p r.0 W r.1 E over c t) ∙ kept_of_run p r.0 W r.1 F up c u

module _ (b : Block) (p : Step) (h h' : Hearing) (more : HearsMore b h h') where
  heard_below : (vs ws : List Status) → ((i : ℕ) → i < length vs → Below (get_or vs i unknown) (get_or ws i unknown)) → event b h vs ⊑ event b h' ws
  heard_below vs ws f =
      event_below b h vs (event b h' ws)
      (λ n t. subst⁻¹ (λ (v : Status). Below (input_status h n) v) (event_input b h' ws n t) (more.at n t))
      (λ i l n e q. subst⁻¹ (λ (v : Status). Below (get_or vs i unknown) v) (event_output b h' ws i n e q) (f i l))

  -- Whatever is settled with less heard stays below what a round leaves as it is with more heard.
  settled_below : {vs ws : List Status} → Reached b p h vs → Reached b p h' ws → round b p h' ws ≡ ws
      → (i : ℕ) → i < b.outputs → Below (get_or vs i unknown) (get_or ws i unknown)
  unfolding begin
  settled_below {ws = ws} at_first r e i l = subst⁻¹ (λ (v : Status). Below v (get_or ws i unknown)) (begin_at b.outputs i) tt
  settled_below {ws = ws} (settling {vs = us} {ws = vs} q s) r e i l =
      go (λ j k. settled_below q r e j k) (s.each i (subst⁻¹ (λ (n : ℕ). i < n) (reached_length b p h q) l))
    where
      go : ((j : ℕ) → j < b.outputs → Below (get_or us j unknown) (get_or ws j unknown))
          → (get_or vs i unknown ≡ get_or us i unknown) ⊎ (get_or vs i unknown ≡ get_or (round b p h us) i unknown) → Below (get_or vs i unknown) (get_or ws i unknown)
      go f (inl a) = subst⁻¹ (λ (v : Status). Below v (get_or ws i unknown)) a (f i l)
      go f (inr a) =
          let up : event b h us ⊑ event b h' ws = heard_below us ws (λ j k. f j (subst (λ (n : ℕ). j < n) (reached_length b p h q) k)) in
          subst⁻¹ (λ (v : Status). Below v (get_or ws i unknown)) (a ∙ round_at b p h us i (subst⁻¹ (λ (n : ℕ). i < n) (reached_length b p h q) l))
          (marked_under (get_or us i unknown) (get_or ws i unknown) (in_must b p h us i) (in_can b p h us i) (in_must b p h' ws i) (in_can b p h' ws i)
          ((must_grows p up).of_signals.at (b.inputs + i)) ((can_shrinks p plus up).of_signals.at (b.inputs + i)) (must_can b p h' ws i)
          (ap (λ (us : List Status). get_or us i unknown) (sym e) ∙ round_at b p h' ws i (subst⁻¹ (λ (n : ℕ). i < n) (reached_length b p h' r) l)) (f i l))

-- An answer with less heard is the answer with more heard, but for the rounds.
pub late : (b : Block) (st : State) (h h' : Hearing) → HearsMore b h h' → {vs : List Status} {c n : ℕ} {st' : State} {a : Answer}
    → Instant b st h (answered vs c st' n) → Instant b st h' a → SameButRounds vs c st' a
unfolding SameButRounds
late b st h h' more (answers {vs = vs} {c = c} r t) (answers {vs = ws} {c = d} q u) =
    let p = step b.body st in
    let left = last_reached b p h at_first r in
    let right = last_reached b p h' at_first q in
    let under = settled_below b p h h' more left right (last_unchanged b p h' q) in
    let up : event b h vs ⊑ event b h' ws = heard_below b p h h' more vs ws (λ i l. under i (subst (λ (k : ℕ). i < k) (reached_length b p h left) l)) in
    let same : ws ≡ vs =
    ext_get_or unknown ws vs (reached_length b p h' right ∙ sym (reached_length b p h left)) (λ i l.
    let k : i < b.outputs = subst (λ (k : ℕ). i < k) (reached_length b p h' right) l in
    known_above (get_or vs i unknown) (get_or ws i unknown) (in_must b p h vs i)
    (decided b p h vs (last_unchanged b p h r) c t i (subst⁻¹ (λ (k : ℕ). i < k) (reached_length b p h left) k)) (under i k)) in
    let code : d ≡ c = (one_code p (event b h' ws)).equal d c u ((must_grows p up).of_codes.at c t) in
    (same, code, ap₂ next code (sym (kept_stays p up c t)))
late b st h h' more (answers {vs = vs} {c = c} r t) (refuses {vs = ws} q f) =
    let p = step b.body st in
    let left = last_reached b p h at_first r in
    let under = settled_below b p h h' more left (last_reached b p h' at_first q) (last_unchanged b p h' q) in
    f c ((must_grows p (heard_below b p h h' more vs ws (λ i l. under i (subst (λ (k : ℕ). i < k) (reached_length b p h left) l)))).of_codes.at c t)

-- Every choice is a further hearing, with no unknowns; and an input set with no unknowns is the one choice that agrees with itself.
module _ (b : Block) where
  all_known : (given : Numbers) (n : ℕ) → T (ltb n b.inputs) → input_status (all_heard b given) n ≡ known (given n)
  all_known given n t = ap (λ (x : Bool). status_of (given n) (x && not (given n))) (is_true (ltb n b.inputs) t) ∙ go (given n)
    where
      go : (x : Bool) → status_of x (not x) ≡ known x
      go true = refl
      go false = refl

  pub choice_hears_more : {heard : Hearing} {given : Numbers} → Choice b heard given → HearsMore b heard (all_heard b given)
  choice_hears_more {heard} {given} ch = record {
    at = λ n t. subst⁻¹ (λ (v : Status). Below (input_status heard n) v) (all_known given n t) (ch.at n t);
  }

  pub all_is_choice : (given : Numbers) → Choice b (all_heard b given) given
  all_is_choice given = record { at = λ n t. subst⁻¹ (λ (v : Status). Below v (known (given n))) (all_known given n t) (below_refl (known (given n))) }

  pub rest_declared : (given : Numbers) (n : ℕ) → T ((all_heard b given).heard_absent n) → n < b.inputs
  rest_declared given n t = ltb→lt n b.inputs (and_left (ltb n b.inputs) (not (given n)) t)

  pub rest_apart : (given : Numbers) (n : ℕ) → T (given n) → T ((all_heard b given).heard_absent n) → ⊥
  rest_apart given n s t = both (given n) s (and_right (ltb n b.inputs) (not (given n)) t)
    where
      both : (x : Bool) → T x → T (not x) → ⊥
      both true s t = t
      both false s t = s

  -- A declared input set as what is heard.
  abbrev pub all_inputs : (given : Numbers) → ((n : ℕ) → T (given n) → n < b.inputs) → InputSet b
  all_inputs given f = record {
    heard = all_heard b given;
    present_declared = f;
    absent_declared = λ n t. rest_declared given n t;
    apart = λ n s t. rest_apart given n s t;
  }
