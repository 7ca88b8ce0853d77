-- Inputs not heard yet, on the caller's bytes: an answer given with some of them unknown is the answer with more of them heard, by the theorem of
-- the rules; and an input set is two sets with no unknowns, since the tests and the rules come to the same with both. Assumes nothing.
use mathlib.Core.Path.{◌≡◌, refl, sym, ap, ◌∙◌, subst, subst⁻¹}
use mathlib.Core.Bool.{Bool, true, false, not, cond, ◌&&◌}
use mathlib.Core.List.{List}
use mathlib.Core.Option.{Option, none, some}
use Prim.Native.Nat.{ℕ, ◌+◌, ◌≤◌}
use native.Mathlib.Omega.{arith}
use lib.Dec.{ltb}
use lib.ListN.{length}
use Rattle.sets.specs.Numbers.{Numbers, count}
use Rattle.sets.specs.Words.{bits, word}
use Rattle.sets.proofs.Members.{ext}
use Rattle.rules.specs.Events.{Status, present, Hearing}
use Rattle.rules.specs.States.{State, active_of}
use Rattle.rules.specs.Rounds.{outputs_with, Answer, answered, not_constructive, react}
use Rattle.theorems.specs.Order.{HearsMore}
use Rattle.theorems.specs.Traces.{Instant}
use Rattle.theorems.specs.Late.{SameButRounds}
use Rattle.theorems.proofs.Late.{late}
use Rattle.theorems.proofs.Instants.{reacts}
use Rattle.block.specs.Format.{Good, Reading, good, reading}
use Rattle.records.specs.StateRecord.{version_in, statements_in, state_record, Found, not_a_state, state, read_state, names_block, Pair, first_clash}
use Rattle.records.proofs.Inputs.{no_unknowns}
use Rattle.reaction.specs.declared.Given.TheVariants.{All, Two}
use Rattle.foldheron.specs.Answers.{Instant as Answering}
use Rattle.foldheron.specs.Answers.{Logging, answer_in, end_in}
use Rattle.reaction.specs.Fronts.{INPUT, OTHER_BLOCK, stopped, ready, wrong_inputs, try_inputs, try_clash, clash_tried, try_names, try_state, try_block, front}
use Rattle.records.specs.LogRecord.{logged_at, no_room}
use Rattle.reaction.specs.Instants.{block_of, heard_of, Verdict, reacted, goes_on, verdict, Told, told, state_after, log_after, end_after}
use Rattle.reaction.specs.Answers.{instant_told}
use Rattle.promises.specs.Promised.{Holds, Inputs, rules_answer, Alike}
use Rattle.promises.specs.Calls.{CalledFor, LoggedFor}
use Rattle.promises.proofs.Records.{checked}
use Rattle.promises.proofs.Learnt.{instant_says, logged_answer, logged_end, logged_state, logged_log}
use Rattle.promises.proofs.Runs.{same_verdict}
use Rattle.promises.proofs.Instants.{promised}

module _ (b : List ℕ) (g : Good) (e : reading b ≡ good g) (s : List ℕ) (st : State) where
  -- The rules' answers, with less heard and with more.
  abbrev Same : Verdict → Verdict → Type 0
  Same v v' = Alike (told v) (told v') × (state_after s v' ≡ state_after s v)

  alike : (vs : List Status) (c : ℕ) (st' : State) (n : ℕ) (a : Answer) → SameButRounds vs c st' a
      → Same (reacted (block_of g) (answered vs c st' n)) (reacted (block_of g) a)
  unfolding SameButRounds told state_after
  alike vs c st' n (answered ws d st'' m) q = (
    record {
      same_number = refl;
      same_place = refl;
      same_first = refl;
      same_second = refl;
      same_present = ap (λ (us : List Status). word 64 (outputs_with present (block_of g) us)) q.0;
      same_absent = refl;
      same_undecided = refl;
      same_code = q.1;
      same_active = ap (λ (x : State). count 128 (active_of x)) q.2;
    },
    ap (state_record (version_in s) (statements_in s)) q.2,
  )
  alike vs c st' n (not_constructive ws m) q = absurd q

  module _ (h : Holds g s st) (w w' : Inputs g) (more : HearsMore (block_of g) (heard_of g w.given) (heard_of g w'.given)) where
    by_answer : (a : Answer) → rules_answer g st w ≡ a → (told (reacted (block_of g) a)).number ≡ 0
        → Same (reacted (block_of g) a) (reacted (block_of g) (rules_answer g st w'))
    unfolding told
    by_answer (not_constructive vs n) q z = absurd (omega arith)
    by_answer (answered vs c st' n) q z =
        alike vs c st' n (rules_answer g st w')
        (late (block_of g) st (heard_of g w.given) (heard_of g w'.given) more
        (subst (Instant (block_of g) st (heard_of g w.given)) q (reacts (block_of g) st (heard_of g w.given) (checked b g e)))
        (reacts (block_of g) st (heard_of g w'.given) (checked b g e)))

    same_verdicts : (told (verdict b s w.given false)).number ≡ 0 → Same (verdict b s w.given false) (verdict b s w'.given false)
    same_verdicts z =
        let p = (promised b g e s st h w).is_reaction in
        let q = (promised b g e s st h w').is_reaction in
        subst⁻¹ (λ (v : Verdict). Same v (verdict b s w'.given false)) p
        (subst⁻¹ (λ (v : Verdict). Same (reacted (block_of g) (rules_answer g st w)) v) q
        (by_answer (rules_answer g st w) refl (sym (ap (λ (v : Verdict). (told v).number) p) ∙ z)))

    pub stays : (r r' : Answering) (s₁ s₂ : List ℕ) → CalledFor b s w.given r s₁ → CalledFor b s w'.given r' s₂ → (instant_told r).number ≡ 0
        → Alike (instant_told r) (instant_told r') × (s₂ ≡ s₁)
    stays r r' s₁ s₂ c d z =
        let k = same_verdicts (sym (ap (λ (t : Told). t.number) (instant_says b c).0) ∙ z) in (
          subst⁻¹ (λ (t : Told). Alike t (instant_told r')) (instant_says b c).0
              (subst⁻¹ (λ (t : Told). Alike (told (verdict b s w.given false)) t) (instant_says b d).0 k.0),
          (instant_says b d).1 ∙ k.1 ∙ sym (instant_says b c).1,
        )

    -- The same of the calls with a log that has room; its record has what was heard, and the rounds, so its bytes may be others.
    pub logged_stays : (log : List ℕ) (end : ℕ) → end + 32 ≤ length log → (r r' : Logging) (s₁ s₂ log₁ log₂ : List ℕ) → LoggedFor b s w.given log end r s₁ log₁
        → LoggedFor b s w'.given log end r' s₂ log₂ → (instant_told (answer_in r)).number ≡ 0
        → Alike (instant_told (answer_in r)) (instant_told (answer_in r')) × (s₂ ≡ s₁)
    logged_stays log end room r r' s₁ s₂ log₁ log₂ c d z =
        let v = same_verdict log end room b s w.given in
        let v' = same_verdict log end room b s w'.given in
        let p = logged_answer b c ∙ ap told v in
        let q = logged_answer b d ∙ ap told v' in
        let k = same_verdicts (sym (ap (λ (t : Told). t.number) p) ∙ z) in (
          subst⁻¹ (λ (t : Told). Alike t (instant_told (answer_in r'))) p (subst⁻¹ (λ (t : Told). Alike (told (verdict b s w.given false)) t) q k.0),
          logged_state b d ∙ ap (state_after s) v' ∙ k.1 ∙ sym (logged_state b c ∙ ap (state_after s) v),
        )

-- An input set, and the same set with every other input in the absent one.
module _ (g : Good) (s : List ℕ) (w rest : ℕ) (r : (n : ℕ) → bits rest n ≡ (ltb n g.header.inputs && not (bits w n))) (roomless : Bool) where
  same_heard : heard_of g (All w) ≡ heard_of g (Two w rest)
  same_heard = ap (λ (A : Numbers). record { heard_present = bits w; heard_absent = A }) (sym (ext r))

  same_inputs : (st : State) → goes_on (All w) roomless (try_inputs g st (All w)) ≡ goes_on (Two w rest) roomless (try_inputs g st (Two w rest))
  unfolding try_inputs wrong_inputs goes_on
  same_inputs st = go (wrong_inputs g.header.inputs (All w)) roomless ∙ back
    where
      go : (y z : Bool) → goes_on (All w) z (cond y (stopped INPUT 0) (ready g st)) ≡ goes_on (Two w rest) z (cond y (stopped INPUT 0) (ready g st))
      go true z = refl
      go false true = refl
      go false false = ap (λ (x : Hearing). reacted (block_of g) (react (block_of g) st x)) same_heard

      back : goes_on (Two w rest) roomless (cond (wrong_inputs g.header.inputs (All w)) (stopped INPUT 0) (ready g st))
          ≡ goes_on (Two w rest) roomless (cond (wrong_inputs g.header.inputs (Two w rest)) (stopped INPUT 0) (ready g st))
      back = ap (λ (y : Bool). goes_on (Two w rest) roomless (cond y (stopped INPUT 0) (ready g st))) (sym (no_unknowns g.header.inputs w rest r))

  same_state : (f : Found) → goes_on (All w) roomless (try_state g s (All w) f) ≡ goes_on (Two w rest) roomless (try_state g s (Two w rest) f)
  unfolding try_state try_names try_clash goes_on
  same_state not_a_state = refl
  same_state (state st) = named (names_block g.header.version g.statements s)
    where
      clear : (o : Option Pair) → goes_on (All w) roomless (try_clash g st (All w) o) ≡ goes_on (Two w rest) roomless (try_clash g st (Two w rest) o)
      clear none = same_inputs st
      clear (some pair) = refl

      named : (x : Bool) → goes_on (All w) roomless (cond x (clash_tried g st (All w)) (stopped OTHER_BLOCK 0))
          ≡ goes_on (Two w rest) roomless (cond x (clash_tried g st (Two w rest)) (stopped OTHER_BLOCK 0))
      named true = clear (first_clash g.body (active_of st))
      named false = refl

  pub no_unknown : (b : List ℕ) → reading b ≡ good g → verdict b s (All w) roomless ≡ verdict b s (Two w rest) roomless
  unfolding verdict front try_block
  no_unknown b e =
      ap (λ (x : Reading). goes_on (All w) roomless (try_block s (All w) x)) e ∙ same_state (read_state g.pauses s)
      ∙ sym (ap (λ (x : Reading). goes_on (Two w rest) roomless (try_block s (Two w rest) x)) e)

  -- The log's bytes too: its record has what is heard, and that is the same of both.
  module _ (log : List ℕ) (end : ℕ) where
    abbrev SameLog : Verdict → Type 0
    SameLog v = log_after log end (All w) v ≡ log_after log end (Two w rest) v

    log_of : (a : Answer) → SameLog (reacted (block_of g) a)
    unfolding log_after
    log_of (answered outs c st n) =
        ap (λ (h : Hearing). logged_at log end (record {
          inputs_present = word 64 h.heard_present;
          inputs_absent = word 64 h.heard_absent;
          outputs_present = word 64 (outputs_with present (block_of g) outs);
          code = c;
          rounds = n;
        })) same_heard
    log_of (not_constructive outs n) = refl

    log_inputs : (st : State) (y z : Bool) → SameLog (goes_on (Two w rest) z (cond y (stopped INPUT 0) (ready g st)))
    unfolding log_after goes_on
    log_inputs st true z = refl
    log_inputs st false true = refl
    log_inputs st false false = log_of (react (block_of g) st (heard_of g (Two w rest)))

    log_state : (f : Found) → SameLog (goes_on (Two w rest) roomless (try_state g s (Two w rest) f))
    unfolding log_after goes_on try_state try_names try_clash try_inputs
    log_state not_a_state = refl
    log_state (state st) = named (names_block g.header.version g.statements s)
      where
        clear : (o : Option Pair) → SameLog (goes_on (Two w rest) roomless (try_clash g st (Two w rest) o))
        clear none = log_inputs st (wrong_inputs g.header.inputs (Two w rest)) roomless
        clear (some pair) = refl

        named : (x : Bool) → SameLog (goes_on (Two w rest) roomless (cond x (clash_tried g st (Two w rest)) (stopped OTHER_BLOCK 0)))
        named true = clear (first_clash g.body (active_of st))
        named false = refl

    pub same_log : (b : List ℕ) → reading b ≡ good g
        → log_after log end (All w) (verdict b s (All w) roomless) ≡ log_after log end (Two w rest) (verdict b s (Two w rest) roomless)
    unfolding verdict front try_block
    same_log b e =
        ap (log_after log end (All w)) (no_unknown b e)
        ∙ subst⁻¹ SameLog (ap (λ (x : Reading). goes_on (Two w rest) roomless (try_block s (Two w rest) x)) e) (log_state (read_state g.pauses s))

-- So a call with one set is a call with two.
module _ (b : List ℕ) (g : Good) (e : reading b ≡ good g) (s : List ℕ) (w rest : ℕ) (f : (n : ℕ) → bits rest n ≡ (ltb n g.header.inputs && not (bits w n))) where
  pub same_call : (r r' : Answering) (s₁ s₂ : List ℕ) → CalledFor b s (All w) r s₁ → CalledFor b s (Two w rest) r' s₂
      → (instant_told r ≡ instant_told r') × (s₁ ≡ s₂)
  same_call r r' s₁ s₂ c d =
      let v = no_unknown g s w rest f false b e in
      ((instant_says b c).0 ∙ ap told v ∙ sym (instant_says b d).0, (instant_says b c).1 ∙ ap (state_after s) v ∙ sym (instant_says b d).1)

  pub same_logged_call : (log : List ℕ) (end : ℕ) (r r' : Logging) (s₁ s₂ log₁ log₂ : List ℕ) → LoggedFor b s (All w) log end r s₁ log₁
      → LoggedFor b s (Two w rest) log end r' s₂ log₂
      → (instant_told (answer_in r) ≡ instant_told (answer_in r')) × (end_in r ≡ end_in r') × (s₁ ≡ s₂) × (log₁ ≡ log₂)
  same_logged_call log end r r' s₁ s₂ log₁ log₂ c d =
      let v = no_unknown g s w rest f (no_room log end) b e in (
        logged_answer b c ∙ ap told v ∙ sym (logged_answer b d),
        logged_end b c ∙ ap (end_after end) v ∙ sym (logged_end b d),
        logged_state b c ∙ ap (state_after s) v ∙ sym (logged_state b d),
        logged_log b c ∙ same_log g s w rest f (no_room log end) log end b e ∙ sym (logged_log b d),
      )
