-- One instant has exactly one answer, and `react` computes it: the rounds and their end are determined, must has at most one code, and
-- a checked block's codes lie within the width that is looked at. Assumes nothing.
use mathlib.Core.Path.{◌≡◌, refl, subst, subst⁻¹}
use mathlib.Core.Logic.{◌⊎◌, inl, inr}
use mathlib.Core.List.{List}
use mathlib.Core.Option.{Option, none, some}
use Prim.Native.Nat.{ℕ, ◌<◌}
use native.Mathlib.Omega.{arith}
use lib.Dec.{T}
use Rattle.sets.specs.Numbers.{lowest}
use Rattle.sets.proofs.Counts.{lowest_some, lowest_none}
use Rattle.rules.specs.Statements.{Block}
use Rattle.rules.specs.Events.{Status, Event, Hearing, event}
use Rattle.rules.specs.MustCan.{must, gives}
use Rattle.rules.specs.States.{State, step, Legal, kept, next}
use Rattle.rules.specs.Rounds.{final_of, Answer, answered, not_constructive, code_width, answer, react}
use Rattle.rules.proofs.OneCode.{one_code}
use Rattle.theorems.specs.Checked.{Checked}
use Rattle.theorems.specs.Reach.{at_first}
use Rattle.theorems.specs.Reactions.{OnlyIfAnswered}
use Rattle.theorems.specs.Traces.{Instant, answers, refuses, after}
use Rattle.theorems.proofs.RoundsEnd.{rounds_unique, last_unchanged, last_reached, final}
use Rattle.theorems.proofs.Reaction.{coherent_unique, computed_coherent, locals_unique}
use Rattle.theorems.proofs.Traps.{root_codes}
use Rattle.theorems.proofs.NextLegal.{computed_next_legal}

module _ (b : Block) (st : State) (heard : Hearing) where
  -- At most one answer.
  pub one_answer : {a d : Answer} → Instant b st heard a → Instant b st heard d → a ≡ d
  one_answer (answers {vs = vs} {n = m} {c = c} r t) (answers {vs = ws} {n = n} {c = d} q u) =
      let e = rounds_unique b (step b.body st) heard r q in
      let f : c ≡ d = (one_code (step b.body st) (event b heard vs)).equal c d t
      (subst⁻¹ (λ (us : List Status). T ((gives must (step b.body st) (event b heard us)).codes d)) e.1 u) in
      λ i. answered (e.1 i) (f i) (next (f i) (kept (step b.body st) (event b heard (e.1 i)))) (e.0 i)
  one_answer (answers {vs = vs} {c = c} r t) (refuses q f) =
      let e = rounds_unique b (step b.body st) heard r q in
      absurd (f c (subst (λ (us : List Status). T ((gives must (step b.body st) (event b heard us)).codes c)) e.1 t))
  one_answer (refuses r f) (answers {c = c} q u) =
      let e = rounds_unique b (step b.body st) heard q r in
      absurd (f c (subst (λ (us : List Status). T ((gives must (step b.body st) (event b heard us)).codes c)) e.1 u))
  one_answer (refuses r f) (refuses q g) = let e = rounds_unique b (step b.body st) heard r q in λ i. not_constructive (e.1 i) (e.0 i)

  -- Never both.
  pub never_both : {vs ws : List Status} {c m n : ℕ} {st' : State} → Instant b st heard (answered vs c st' m) → Instant b st heard (not_constructive ws n) → ⊥
  never_both i j = let e = one_answer i j in let z : ◌≡◌ {A = ℕ} 0 1 = cc in omega arith

  module _ (checked : Checked b) where
    -- Never neither: the computed answer is one.
    pub reacts : Instant b st heard (react b st heard)
    unfolding react answer final_of
    reacts = go (lowest code_width (gives must (step b.body st) (event b heard (final_of b st heard).statuses)).codes) refl
      where
        E : Event
        E = event b heard (final_of b st heard).statuses

        go : (o : Option ℕ) → lowest code_width (gives must (step b.body st) E).codes ≡ o → Instant b st heard (answer (final_of b st heard) o (kept (step b.body st) E))
        go none e = refuses (final b st heard).ends
            (λ c t. lowest_none code_width (gives must (step b.body st) E).codes e c
            (narrow c ((root_codes b.body st checked.exits_are_trapped).if_given must E c t)) t)
          where
            narrow : (c : ℕ) → (c ≡ 0) ⊎ (c ≡ 1) → c < code_width
            narrow c (inl q) = omega arith
            narrow c (inr q) = omega arith
        go (some c) e = answers (final b st heard).ends (lowest_some code_width (gives must (step b.body st) E).codes e).1

    -- The state after an instant is legal.
    pub after_legal : Legal b.body st → {a : Answer} → Instant b st heard a → Legal b.body (after st a)
    after_legal h (answers {vs = vs} {c = c} r t) = computed_next_legal b.body checked.pauses_are_numbered st h (event b heard vs) c t
    after_legal h (refuses r f) = h

  -- An answer is coherent, and the only reaction that is.
  pub answer_only : {a : Answer} → Instant b st heard a → OnlyIfAnswered b st heard a
  answer_only (answers {vs = vs} {c = c} r t) =
      let q = last_reached b (step b.body st) heard at_first r in
      let e = last_unchanged b (step b.body st) heard r in
      λ given chosen. record {
        coherent = computed_coherent b st heard given chosen vs q e c t;
        the_only_one = λ outs d st'' x. coherent_unique b st heard given chosen vs q e c t x;
        with_the_same_locals = λ outs d st'' x. locals_unique b st heard given chosen vs q e c t x;
      }
  answer_only (refuses r f) = tt
