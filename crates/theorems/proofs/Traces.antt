-- Runs of instants: from a legal state there is exactly one run over any list of input sets, and at each of its instants all that holds
-- of an instant from a legal state does, since each instant leads to a legal state: by induction over the run. Assumes nothing.
use mathlib.Core.Path.{◌≡◌, refl, ◌∙◌, ap, ap₂}
use mathlib.Core.List.{List, [], ◌∷◌}
use Prim.Native.Nat.{suc}
use lib.ListN.{length}
use Rattle.rules.specs.Statements.{Block}
use Rattle.rules.specs.States.{State, Legal}
use Rattle.rules.specs.Rounds.{Answer, react}
use Rattle.theorems.specs.Checked.{Checked}
use Rattle.theorems.specs.Traces.{InputSet, Instant, after, Trace, ends, goes_on, Throughout, run, arrives}
use Rattle.theorems.specs.Demand.{NotStuck, NeverStuck}
use Rattle.theorems.proofs.LoopCodes.{loop_body_never_zero}
use Rattle.theorems.proofs.Traps.{root_codes}
use Rattle.theorems.proofs.Instants.{one_answer, reacts, after_legal, answer_only}

module _ (b : Block) (checked : Checked b) where
  run_is : (st : State) (givens : List (InputSet b)) → Trace b st givens (run b st givens) (arrives b st givens)
  unfolding run arrives
  run_is st [] = ends
  run_is st (given ∷ givens) = goes_on (reacts b st given.heard checked) (run_is (after st (react b st given.heard)) givens)

  run_length : (st : State) (givens : List (InputSet b)) → length (run b st givens) ≡ length givens
  unfolding run
  run_length st [] = refl
  run_length st (given ∷ givens) = ap suc (run_length (after st (react b st given.heard)) givens)

  run_unique : {st st' : State} {givens : List (InputSet b)} {told : List Answer} → Trace b st givens told st' → (told ≡ run b st givens) × (st' ≡ arrives b st givens)
  unfolding run arrives
  run_unique ends = (refl, refl)
  run_unique (goes_on {st = st} {given = given} {givens = givens} {a = a} i t) =
      let e : a ≡ react b st given.heard = one_answer b st given.heard i (reacts b st given.heard checked) in
      let r = run_unique t in (
        ap₂ (λ (x : Answer) (xs : List Answer). x ∷ xs) e (r.0 ∙ ap (λ (x : Answer). run b (after st x) givens) e),
        r.1 ∙ ap (λ (x : Answer). arrives b (after st x) givens) e,
      )

  pub instant_not_stuck : (st : State) (given : InputSet b) (a : Answer) → Legal b.body st → Instant b st given.heard a → NotStuck b st given a
  instant_not_stuck st given a h i = record {
    loop_bodies = λ q part. loop_body_never_zero q b.body part checked.loops_are_good;
    exits = root_codes b.body st checked.exits_are_trapped;
    legal_before = h;
    legal_after = after_legal b st given.heard checked h i;
    its_answer = i;
    no_other = λ d j. one_answer b st given.heard j i;
    only_reaction = answer_only b st given.heard i;
  }

  pub run_not_stuck : {st st' : State} {givens : List (InputSet b)} {told : List Answer} → Legal b.body st → (t : Trace b st givens told st')
      → Throughout b (NotStuck b) t × Legal b.body st'
  run_not_stuck h ends = (tt, h)
  run_not_stuck h (goes_on {st = st} {given = given} {a = a} i t) =
      let g = instant_not_stuck st given a h i in
      let r = run_not_stuck g.legal_after t in
      ((g, r.0), r.1)

  pub never_stuck : (st : State) → Legal b.body st → (givens : List (InputSet b)) → NeverStuck b st givens
  never_stuck st h givens =
      let r = run_not_stuck h (run_is st givens) in
      record {
        the_run = run_is st givens;
        an_answer_each = run_length st givens;
        no_other_run = λ told st' t. run_unique t;
        at_each_instant = r.0;
        ends_legal = r.1;
      }
