-- From a legal state every execution, and so every computed reaction, leads to a legal state, and has code 1 exactly when something is
-- kept: what an execution keeps is some of the block's pauses, pairwise compatible. Assumes nothing.
use mathlib.Core.Path.{◌≡◌, sym, ◌∙◌, ap₂, subst, subst⁻¹}
use mathlib.Core.Logic.{◌↔◌}
use mathlib.Core.List.{List}
use Prim.Native.Nat.{ℕ, ◌<◌}
use native.Mathlib.Omega.{arith}
use lib.Dec.{T, eqb, eqb→eq}
use lib.ListN.{length}
use Rattle.sets.specs.Numbers.{Numbers, listed}
use Rattle.rules.specs.Statements.{Stmt, pauses, Numbered}
use Rattle.rules.specs.Events.{Event}
use Rattle.rules.specs.Instant.{active, started}
use Rattle.rules.specs.MustCan.{must, gives}
use Rattle.rules.specs.States.{State, fresh, running, finished, step, Running, Legal, kept, next}
use Rattle.rules.specs.Coherence.{Locals, execute}
use Rattle.theorems.specs.Order.{◌⊑◌, whole}
use Rattle.theorems.specs.Reactions.{Some, is_present}
use Rattle.theorems.proofs.Cases.{by_test}
use Rattle.theorems.proofs.Sound.{code_of_run}
use Rattle.theorems.proofs.Kept.{executed_at_one, kept_of_run}
use Rattle.theorems.proofs.Runs.{runs}
use Rattle.theorems.proofs.Reaction.{below_is_present}
use Rattle.theorems.proofs.KeepsSome.{Stays, any_in, stays_started, stays_resumed, run_keeps_some}
use Rattle.theorems.proofs.Numbering.{from_out, from_in}
use Rattle.theorems.proofs.Compatible.{KeepsIn, keeps_done, keeps_started, keeps_resumed}

-- The block's pauses are the numbers below their count.
module _ (p : Stmt) (numbered : Numbered 0 p) where
  pause_below : (n : ℕ) → T (listed (pauses p) n) → n < length (pauses p)
  unfolding Numbered
  pause_below n t =
      let r = from_out 0 (length (pauses p)) n (subst (λ (xs : List ℕ). T (listed xs n)) numbered t) in
      omega (arith, r.1)

  below_pause : (n : ℕ) → n < length (pauses p) → T (listed (pauses p) n)
  unfolding Numbered
  below_pause n h = subst⁻¹ (λ (xs : List ℕ). T (listed xs n)) numbered (from_in 0 (length (pauses p)) n (omega arith) (omega arith))

  pub running_active : (A : Numbers) → Running p A → T (active A p)
  unfolding active
  running_active A r = let s = r.some_active in any_in A (pauses p) s.0 s.1 (below_pause s.0 (r.in_block s.0 s.1))

  step_stays : (st : State) → Legal p st → Stays (step p st)
  unfolding step Legal started
  step_stays fresh h = stays_started p
  step_stays (running A) h = stays_resumed A p (running_active A h)
  step_stays finished h = tt

  step_keeps : (st : State) → Legal p st → KeepsIn p (step p st)
  unfolding step Legal started
  step_keeps fresh h = keeps_started p 0 numbered
  step_keeps (running A) h = keeps_resumed A p 0 numbered (record { pairwise = λ m n s t i j e. h.all_compatible m n s t e })
  step_keeps finished h = keeps_done p

  -- Every execution.
  module _ (st : State) (legal : Legal p st) (l : Locals (step p st)) (W : Numbers) where
    pub run_keeps_at_one : ((execute (step p st) l W).completes ≡ 1) ↔ Some (execute (step p st) l W).keeps
    run_keeps_at_one =
        ((run_keeps_some (step p st) (step_stays st legal) l W).some_kept, λ k. (executed_at_one (step p st) l W).code_is_1 k.0 k.1)

    pub run_next_legal : Legal p (next (execute (step p st) l W).completes (execute (step p st) l W).keeps)
    unfolding Legal next
    run_next_legal =
        let r = execute (step p st) l W in
        let f = (step_keeps st legal).fits l W in
        by_test (Legal p) (eqb r.completes 1) (running r.keeps) finished
        (λ t. record {
          some_active = run_keeps_at_one.0 (eqb→eq r.completes 1 t);
          in_block = λ n k. pause_below n (f.held_in n k);
          all_compatible = f.agreeing;
        })
        (λ e. tt)

  -- The computed reaction, at any event that makes the code known.
  module _ (st : State) (legal : Legal p st) (E : Event) (c : ℕ) (t : T ((gives must (step p st) E).codes c)) where
    assigned : Numbers
    assigned n = is_present (E n)

    above : E ⊑ whole assigned
    unfolding assigned
    above = record { at = λ n. below_is_present (E n) }

    pub computed_keeps_at_one : (c ≡ 1) ↔ Some (kept (step p st) E)
    computed_keeps_at_one =
        let l = runs (step p st) E assigned above c t in
        let d : c ≡ (execute (step p st) l.0 assigned).completes = code_of_run (step p st) l.0 assigned l.1 E above c t in
        let k : (execute (step p st) l.0 assigned).keeps ≡ kept (step p st) E = kept_of_run (step p st) l.0 assigned l.1 E above c t in
        let f = run_keeps_at_one st legal l.0 assigned in
        (λ e. subst Some k (f.0 (sym d ∙ e)), λ s. d ∙ f.1 (subst⁻¹ Some k s))

    pub computed_next_legal : Legal p (next c (kept (step p st) E))
    computed_next_legal =
        let l = runs (step p st) E assigned above c t in
        subst (Legal p) (ap₂ next (sym (code_of_run (step p st) l.0 assigned l.1 E above c t)) (kept_of_run (step p st) l.0 assigned l.1 E above c t))
        (run_next_legal st legal l.0 assigned)
