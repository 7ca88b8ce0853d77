-- One instant on bytes: with a good block, a record found legal and a declared input set no test fails, so the verdict is the rules' answer;
-- demand 3 says the rest of it, and a legal state's record is found legal again. Assumes nothing.
use mathlib.Core.Path.{◌≡◌, ap, ap₂, ◌∙◌, subst⁻¹}
use mathlib.Core.Bool.{Bool, false, cond}
use mathlib.Core.List.{List}
use Prim.Native.Nat.{ℕ, ◌+◌, ◌≤◌}
use native.Mathlib.Omega.{arith}
use Rattle.rules.specs.States.{State, Legal}
use Rattle.rules.specs.Rounds.{Answer, answered, not_constructive}
use Rattle.theorems.specs.Traces.{after}
use Rattle.theorems.specs.Demand.{NotStuck}
use Rattle.theorems.proofs.Instants.{reacts}
use Rattle.theorems.proofs.Traces.{instant_not_stuck}
use Rattle.block.specs.Format.{Good, good, reading}
use Rattle.block.proofs.GoodReadings.{sound}
use Rattle.records.specs.StateRecord.{state_record}
use Rattle.records.proofs.Reading.{named_version, named_statements}
use Rattle.reaction.specs.Fronts.{OTHER_BLOCK, stopped, ready, try_inputs, try_clash, clash_tried, try_names, try_state, try_block, front}
use Rattle.reaction.specs.Instants.{block_of, Verdict, reacted, goes_on, verdict, told, state_after, heard_of}
use Rattle.promises.specs.Promised.{Holds, Inputs, input_set, rules_answer, PromisedAnswer, Promised}
use Rattle.promises.proofs.Records.{inputs_pass, checked, held_is_legal, held_version_fits, legal_is_held}
use Rattle.promises.proofs.Telling.{tells}

module _ (b : List ℕ) (g : Good) (e : reading b ≡ good g) (s : List ℕ) (st : State) (h : Holds g s st) (w : Inputs g) where
  pub all_tests_pass : front b s w.given ≡ ready g st
  unfolding front try_block try_state try_names try_clash try_inputs
  all_tests_pass =
      ap (try_block s w.given) e ∙ ap (try_state g s w.given) h.found
      ∙ ap (λ (x : Bool). cond x (clash_tried g st w.given) (stopped OTHER_BLOCK 0)) h.names_it ∙ ap (try_clash g st w.given) h.no_clash
      ∙ rw (inputs_pass g w)

  is_reaction : verdict b s w.given false ≡ reacted (block_of g) (rules_answer g st w)
  unfolding verdict goes_on
  is_reaction = ap (goes_on w.given false) all_tests_pass

  few : g.header.inputs + g.header.outputs ≤ 64
  few = omega (arith, (sound b g e).signals)

  stuck_not : NotStuck (block_of g) st (input_set w) (rules_answer g st w)
  stuck_not =
      instant_not_stuck (block_of g) (checked b g e) st (input_set w) (rules_answer g st w) (held_is_legal b g e s st h)
      (reacts (block_of g) st (heard_of g w.given) (checked b g e))

  after_holds : (a : Answer) → Legal g.body (after st a) → Holds g (state_after s (reacted (block_of g) a)) (after st a)
  unfolding state_after
  after_holds (answered vs c st' n) l =
      subst⁻¹ (λ (r : List ℕ). Holds g r st')
      (ap₂ (λ (v k : ℕ). state_record v k st') (named_version g.header.version g.statements s h.names_it)
      (named_statements g.header.version g.statements s h.names_it))
      (legal_is_held b g e (held_version_fits b g e s st h) st' l)
  after_holds (not_constructive vs n) l = h

  pub promised : Promised b g s st w
  promised = record {
    is_reaction = is_reaction;
    not_stuck = stuck_not;
    answer = subst⁻¹ (λ (v : Verdict). PromisedAnswer g s st w (told v) (state_after s v)) is_reaction (record {
      tells = tells g few st (heard_of g w.given) s h.names_it (rules_answer g st w) stuck_not.only_reaction;
      holds_after = after_holds (rules_answer g st w) stuck_not.legal_after;
    });
  }
