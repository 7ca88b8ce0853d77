-- From fresh, every run of a block of edition 2 by its direct meaning and of its conversion is the same: final statuses, codes, rounds and NOT CONSTRUCTIVE.
-- The steps from related states give the same, so the rounds are the same, and what they keep is related again; by induction over the input sets. Assumes nothing.
use mathlib.Core.Path.{◌≡◌, refl, sym, ◌∙◌, ap, subst}
use mathlib.Core.Bool.{Bool, true, false, cond}
use mathlib.Core.List.{List, [], ◌∷◌, map}
use mathlib.Core.Option.{Option, none, some}
use Prim.Native.Nat.{ℕ, zero, suc}
use native.Mathlib.Omega.{arith}
use lib.Dec.{T, eqb, eqb→eq}
use Rattle.sets.specs.Numbers.{Numbers, lowest}
use Rattle.sets.proofs.Members.{is_true, of_true}
use Rattle.sets.proofs.Counts.{lowest_some}
use Rattle.rules.specs.Statements.{code, Block, Stmt, from}
use Rattle.rules.specs.Events.{Status, Event, Hearing, event}
use Rattle.rules.specs.Instant.{Step, any, active, started}
use Rattle.rules.specs.MustCan.{plus, Question, must, can, Given, gives}
use Rattle.rules.specs.States.{State, fresh, running, finished, step, kept, next}
use Rattle.rules.specs.Rounds.{marks, round, begin, all_same, Settled, one_more, settle, final_of, code_width, Answer, answer, react}
use Rattle.theorems.specs.Traces.{InputSet, after, run}
use Rattle.theorems.proofs.KeepsSome.{Stays, stays_started, stays_resumed}
use Rattle.likeness.specs.Runs.{SameAnswer, both_answered, both_refused, SameRun, at_end, and_then, SamePhase, both_fresh, both_running, both_finished}
use Rattle.likeness.proofs.Runs.{with_body, heard_there}
use Rattle.everyday.specs.Statements.{Everyday}
use Rattle.everyday.specs.Meaning.{active₂, step₂}
use Rattle.everyday.specs.Conversion.{pauses_made, as_it_is, converted}
use Rattle.everyday.specs.Instants.{reacts_by, Block₂, interface, react₂, run₂}
use Rattle.everyday.proofs.Sent.{sent, Rising, image_equal, Sent, Does, does_done}
use Rattle.everyday.proofs.Standing.{in_from, Standing, active_there, Keeps, keeps_closed}
use Rattle.everyday.proofs.Forms.{some_kept}
use Rattle.everyday.proofs.Agree.{active_made, started_does, resumed_does}

-- Where exits stay as they are, the codes are equal.
sent_as_it_is : (c : ℕ) → sent as_it_is c ≡ c
unfolding sent code
sent_as_it_is zero = refl
sent_as_it_is (suc zero) = refl
sent_as_it_is (suc (suc d)) = omega arith

pub stays_rising : Rising as_it_is
unfolding code
stays_rising = record { rises = λ d e h. omega arith }

given_same : {a a' : Given} → Sent as_it_is a a' → a ≡ a'
given_same f = let e = image_equal sent_as_it_is f.of_codes in λ i. record { signals = sym f.of_signals i; codes = sym e i }

-- Steps that give the same have the same rounds.
module _ (b : Block) (t : Stmt) (S S' : Step) (same : (k : Question) (E : Event) → gives k S E ≡ gives k S' E) (heard : Hearing) where
  round_same : (vs : List Status) → round b S heard vs ≡ round (with_body b t) S' heard vs
  unfolding round event
  round_same vs = λ i. marks (same must (event b heard vs) i) (same (can plus) (event b heard vs) i) b.inputs vs

  settle_same : (fuel : ℕ) (vs : List Status) → settle b S heard fuel vs ≡ settle (with_body b t) S' heard fuel vs
  unfolding settle
  settle_same zero vs = refl
  settle_same (suc fuel) vs =
      let e = round_same vs in
      let more = settle_same fuel (round b S heard vs) ∙ ap (settle (with_body b t) S' heard fuel) e in
      λ i. elim (all_same (e i) vs) [
        | true ↦ record { statuses = vs; rounds = 1 }
        | false ↦ one_more (more i)
      ]

module _ (p : Everyday) where
  -- The active stops and the active pauses of a running block.
  pub record Stood (A B : Numbers) : Type 0 where
    pub stands : Standing 0 0 p A B
    pub some_active : T (active₂ 0 A p)

  steps_agree : {st st' : State} → SamePhase Stood st st' → Does as_it_is (Keeps 0 0 p) (step₂ p st) (step (converted p) st')
  unfolding step₂ step converted started
  steps_agree both_fresh = started_does stays_rising 0 0 p
  steps_agree (both_running {A = A} {A' = B} s) = resumed_does stays_rising 0 0 p A B s.stands s.some_active
  steps_agree both_finished = does_done (keeps_closed 0 0 p)

  steps_stay : {st st' : State} → SamePhase Stood st st' → Stays (step (converted p) st')
  unfolding step converted started
  steps_stay both_fresh = stays_started (converted p)
  steps_stay (both_running {A = A} {A' = B} s) =
      stays_resumed B (converted p) (of_true (active_made as_it_is 0 0 p A B s.stands ∙ is_true (active₂ 0 A p) s.some_active))
  steps_stay both_finished = tt

  -- The next states.
  stood_next : {K K' : Numbers} → Keeps 0 0 p K K' → (c : ℕ) → (c ≡ 1 → (n : ℕ) × T (K' n)) → SamePhase Stood (next c K) (next c K')
  unfolding next
  stood_next {K} {K'} k c one = go (eqb c 1) (λ t. one (eqb→eq c 1 t))
    where
      go : (z : Bool) → (T z → (n : ℕ) × T (K' n)) → SamePhase Stood (cond z (running K) finished) (cond z (running K') finished)
      go true f =
          let x = f tt in
          let l = k.in_pauses x.0 x.1 in
          both_running (record {
            stands = k.stands;
            some_active = subst T (active_there 0 0 p K K' k.stands) (in_from K' 0 (pauses_made p) x.0 x.1 l.0 l.1);
          })
      go false f = both_finished

record AnsweredAlike (p : Everyday) (st st' : State) (a a' : Answer) : Type 0 where
  same_answer : SameAnswer a a'
  same_after : SamePhase (Stood p) (after st a) (after st' a')

answer_alike : {p : Everyday} {st st' : State} → SamePhase (Stood p) st st' → (r : Settled) (c : Option ℕ) (K K' : Numbers)
    → ((d : ℕ) → c ≡ some d → SamePhase (Stood p) (next d K) (next d K')) → AnsweredAlike p st st' (answer r c K) (answer r c K')
unfolding answer
answer_alike ph r none K K' f = record { same_answer = both_refused; same_after = ph }
answer_alike ph r (some d) K K' f = record { same_answer = both_answered; same_after = f d refl }

module _ (b : Block₂) where
  abbrev pub conversion : Block
  conversion = with_body (interface b) (converted b.body)

  instant_alike : {st st' : State} → SamePhase (Stood b.body) st st' → (heard : Hearing) → AnsweredAlike b.body st st' (react₂ b st heard) (react conversion st' heard)
  unfolding react₂ reacts_by react final_of event
  instant_alike {st} {st'} ph heard =
      let S = step₂ b.body st in
      let S' = step (converted b.body) st' in
      let f : Does as_it_is (Keeps 0 0 b.body) S S' = steps_agree b.body ph in
      let same : (k : Question) (E : Event) → gives k S E ≡ gives k S' E = λ k E. given_same (f.gives_sent k E) in
      let r = settle (interface b) S heard (suc b.outputs) (begin (interface b)) in
      let E = event (interface b) heard r.statuses in
      let codes = ap (λ (g : Given). g.codes) (sym (same must E)) in
      let one : (d : ℕ) → lowest code_width (gives must S' E).codes ≡ some d → d ≡ 1 → (n : ℕ) × T (kept S' E n) =
      λ d e o. some_kept S' (steps_stay b.body ph) E (subst (λ (c : ℕ). T ((gives must S' E).codes c)) o (lowest_some code_width (gives must S' E).codes e).1) in
      let x : AnsweredAlike b.body st st' (answer r (lowest code_width (gives must S' E).codes) (kept S E)) (answer r (lowest code_width (gives must S' E).codes) (kept S' E)) =
      answer_alike ph r (lowest code_width (gives must S' E).codes) (kept S E) (kept S' E) (λ d e. stood_next b.body (f.keeps E) d (one d e)) in
      let y : AnsweredAlike b.body st st' (react₂ b st heard) (answer r (lowest code_width (gives must S' E).codes) (kept S' E)) =
      subst (λ (a : Numbers). AnsweredAlike b.body st st' (answer r (lowest code_width a) (kept S E)) (answer r (lowest code_width (gives must S' E).codes) (kept S' E))) codes x in
      subst (λ (q : Settled). AnsweredAlike b.body st st' (react₂ b st heard)
      (answer q (lowest code_width (gives must S' (event conversion heard q.statuses)).codes) (kept S' (event conversion heard q.statuses))))
      (settle_same (interface b) (converted b.body) S S' same heard (suc b.outputs) (begin (interface b))) y

  run_same : {st st' : State} → SamePhase (Stood b.body) st st' → (givens : List (InputSet (interface b)))
      → SameRun (run₂ b st givens) (run conversion st' (map (heard_there (interface b) (converted b.body)) givens))
  unfolding run₂ run
  run_same ph [] = at_end
  run_same {st = st} {st' = st'} ph (given ∷ givens) =
      let a = instant_alike ph given.heard in
      and_then a.same_answer (run_same {st = after st (react₂ b st given.heard)} {st' = after st' (react conversion st' given.heard)} a.same_after givens)

  -- From fresh, any run is the same by the direct meaning and by the conversion.
  pub the_conversion_agrees : (givens : List (InputSet (interface b)))
      → SameRun (run₂ b fresh givens) (run conversion fresh (map (heard_there (interface b) (converted b.body)) givens))
  the_conversion_agrees givens = run_same both_fresh givens
