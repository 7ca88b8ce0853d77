-- Like steps have the same rounds and the same answer, and so two blocks with the same interface whose steps are like from related states run
-- alike: a round by its signals, the rounds by induction on their bound, a run by induction on its input sets. Assumes nothing.
use mathlib.Core.Path.{◌≡◌, refl, sym, ◌∙◌, ap, ap₂, subst, subst₂}
use mathlib.Core.Bool.{Bool, true, false, cond}
use mathlib.Core.List.{List, [], ◌∷◌, map}
use mathlib.Core.Option.{Option, none, some}
use Prim.Native.Nat.{ℕ, zero, suc, ◌+◌, ◌≤◌, ◌<◌}
use native.Mathlib.Omega.{arith}
use lib.Dec.{T, ltb, eqb}
use lib.ListN.{length, replicate, length-replicate}
use borrow.Author.Tests.{lt-ltb}
use Rattle.sets.specs.Numbers.{Numbers, lowest}
use Rattle.sets.proofs.Members.{of_true}
use Rattle.rules.specs.Statements.{Block, Stmt}
use Rattle.rules.specs.Events.{Status, unknown, Event, Hearing, event}
use Rattle.rules.specs.Instant.{Step}
use Rattle.rules.specs.MustCan.{plus, must, can, Given, marked, gives}
use Rattle.rules.specs.States.{State, fresh, running, finished, step, Legal, kept, next}
use Rattle.rules.specs.Rounds.{marks, round, begin, all_same, Settled, one_more, settle, final_of, code_width, Answer, answer, react}
use Rattle.rules.proofs.RoundLaws.{marks_length}
use Rattle.theorems.specs.Checked.{Checked}
use Rattle.theorems.specs.Traces.{InputSet, after, run}
use Rattle.theorems.proofs.Instants.{reacts, after_legal}
use Rattle.likeness.specs.Likeness.{SameEvent, SameGiven, Closed, Like}
use Rattle.likeness.specs.Runs.{SameAnswer, both_answered, both_refused, SameRun, at_end, and_then, SamePhase, both_fresh, both_running, both_finished}

-- The interface's own signals, which have one name in both blocks.
abbrev pub declared : Block → Numbers
declared b s = ltb s (b.inputs + b.outputs)

abbrev pub itself : ℕ → ℕ
itself s = s

-- The block with another body.
abbrev pub with_body : Block → Stmt → Block
with_body b t = record { inputs = b.inputs; outputs = b.outputs; body = t }

marks_same : (m c m' c' : Given) (k : ℕ) (vs : List Status) → ((i : ℕ) → k ≤ i → i < k + length vs → (m'.signals i ≡ m.signals i) × (c'.signals i ≡ c.signals i))
    → marks m c k vs ≡ marks m' c' k vs
unfolding marks
marks_same m c m' c' k [] f = refl
marks_same m c m' c' k (v ∷ vs) f =
    let e = f k (omega arith) (omega arith) in
    let rest = marks_same m c m' c' (suc k) vs (λ i l u. f i (omega arith) (omega arith)) in
    λ i. marked (sym e.0 i) (sym e.1 i) v ∷ rest i

-- The answer to the same code, and what comes after it.
record AnswersAlike (R : Numbers → Numbers → Type 0) (st st' : State) (a a' : Answer) : Type 0 where
  same_answer : SameAnswer a a'
  same_after : SamePhase R (after st a) (after st' a')

answer_alike : {R : Numbers → Numbers → Type 0} {st st' : State} (r : Settled) (c : Option ℕ) {A A' : Numbers} → SamePhase R st st' → R A A' → AnswersAlike R st st' (answer r c A) (answer r c A')
unfolding answer next
answer_alike r none ph k = record { same_answer = both_refused; same_after = ph }
answer_alike {R} r (some c) {A} {A'} ph k = record { same_answer = both_answered; same_after = go (eqb c 1) }
  where
    go : (z : Bool) → SamePhase R (cond z (running A) finished) (cond z (running A') finished)
    go true = both_running k
    go false = both_finished

module _ (b : Block) (t : Stmt) where
  abbrev b' : Block
  b' = with_body b t

  same_event : (heard : Hearing) (vs : List Status) → SameEvent (declared b) itself (event b heard vs) (event b' heard vs)
  unfolding event
  same_event heard vs = record { at = λ s d. refl }

  -- What is heard of the one block's inputs is heard of the other's.
  abbrev pub heard_there : InputSet b → InputSet b'
  heard_there i = record { heard = i.heard; present_declared = i.present_declared; absent_declared = i.absent_declared; apart = i.apart }

  module _ {R : Numbers → Numbers → Type 0} {S S' : Step} (f : Like R (declared b) itself S S') (heard : Hearing) where
    round_same : (vs : List Status) → length vs ≡ b.outputs → round b S heard vs ≡ round b' S' heard vs
    unfolding round
    round_same vs l =
        marks_same (gives must S (event b heard vs)) (gives (can plus) S (event b heard vs)) (gives must S' (event b' heard vs)) (gives (can plus) S' (event b' heard vs)) b.inputs vs (λ i k u.
        let d : T (declared b i) = of_true (lt-ltb i (b.inputs + b.outputs) (omega arith)) in
        ((f.gives_same must (same_event heard vs)).of_signals i d, (f.gives_same (can plus) (same_event heard vs)).of_signals i d))

    round_size : (vs : List Status) → length vs ≡ b.outputs → length (round b S heard vs) ≡ b.outputs
    unfolding round
    round_size vs l = marks_length (gives must S (event b heard vs)) (gives (can plus) S (event b heard vs)) b.inputs vs ∙ l

    settle_same : (fuel : ℕ) (vs : List Status) → length vs ≡ b.outputs → settle b S heard fuel vs ≡ settle b' S' heard fuel vs
    unfolding settle
    settle_same zero vs l = refl
    settle_same (suc fuel) vs l =
        let e = round_same vs l in
        let more = settle_same fuel (round b S heard vs) (round_size vs l) ∙ ap (settle b' S' heard fuel) e in
        λ i. elim (all_same (e i) vs) [
          | true ↦ record { statuses = vs; rounds = 1 }
          | false ↦ one_more (more i)
        ]

  module _ {R : Numbers → Numbers → Type 0} {st st' : State} (ph : SamePhase R st st') (f : Like R (declared b) itself (step b.body st) (step t st')) (heard : Hearing) where
    final_same : final_of b st heard ≡ final_of b' st' heard
    unfolding final_of begin
    final_same = settle_same f heard (suc b.outputs) (begin b) (length-replicate b.outputs unknown)

    react_alike : AnswersAlike R st st' (react b st heard) (react b' st' heard)
    unfolding react
    react_alike =
        let r = final_of b st heard in
        let E = event b heard r.statuses in
        let E' = event b' heard r.statuses in
        let codes = (f.gives_same must (same_event heard r.statuses)).of_codes in
        let x : AnswersAlike R st st' (answer r (lowest code_width (gives must (step b.body st) E).codes) (kept (step b.body st) E))
        (answer r (lowest code_width (gives must (step b.body st) E).codes) (kept (step t st') E')) =
        answer_alike r (lowest code_width (gives must (step b.body st) E).codes) ph (f.keeps (same_event heard r.statuses)) in
        let y : AnswersAlike R st st' (react b st heard) (answer r (lowest code_width (gives must (step t st') E').codes) (kept (step t st') E')) =
        subst (λ (a : Numbers). AnswersAlike R st st' (react b st heard) (answer r (lowest code_width a) (kept (step t st') E'))) (sym codes) x in
        subst (λ (q : Settled). AnswersAlike R st st' (react b st heard)
        (answer q (lowest code_width (gives must (step t st') (event b' heard q.statuses)).codes) (kept (step t st') (event b' heard q.statuses)))) final_same y

  -- Where the steps from related states are like, every run is the same.
  module _ {R : Numbers → Numbers → Type 0} (checked' : Checked b') (likes : (st st' : State) → SamePhase R st st' → Legal t st' → Like R (declared b) itself (step b.body st) (step t st')) where
    pub instant_same : {st st' : State} → SamePhase R st st' → Legal t st' → (heard : Hearing)
        → SameAnswer (react b st heard) (react b' st' heard) × SamePhase R (after st (react b st heard)) (after st' (react b' st' heard)) × Legal t (after st' (react b' st' heard))
    instant_same {st} {st'} ph l heard =
        let a = react_alike ph (likes st st' ph l) heard in
        (a.same_answer, a.same_after, after_legal b' st' heard checked' l (reacts b' st' heard checked'))

    pub run_same : {st st' : State} → SamePhase R st st' → Legal t st' → (givens : List (InputSet b)) → SameRun (run b st givens) (run b' st' (map heard_there givens))
    unfolding run
    run_same ph l [] = at_end
    run_same {st = st} {st' = st'} ph l (given ∷ givens) =
        let r = instant_same ph l given.heard in
        and_then r.0 (run_same {st = after st (react b st given.heard)} {st' = after st' (react b' st' given.heard)} r.1 r.2 givens)

    pub fresh_run_same : (givens : List (InputSet b)) → SameRun (run b fresh givens) (run b' fresh (map heard_there givens))
    unfolding Legal
    fresh_run_same givens = run_same both_fresh tt givens
