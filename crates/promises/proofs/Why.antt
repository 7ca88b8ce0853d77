-- The call that says why, on bytes: by what the tests before the rules come to, and where all are passed by what is true of a reason over the rules. Assumes nothing.
use mathlib.Core.Path.{◌≡◌, refl, sym, ap, ◌∙◌, subst}
use mathlib.Core.Logic.{◌↔◌, ◌⊎◌, inl, inr, ◌≢◌}
use mathlib.Core.Bool.{false, cond}
use mathlib.Core.List.{List, [], ◌∷◌}
use mathlib.Core.Option.{Option, none, some}
use Prim.Native.Nat.{ℕ, ◌≤◌, ◌<◌}
use native.Mathlib.Omega.{arith}
use lib.Dec.{eqb}
use lib.ListN.{get_or}
use borrow.Author.Tests.{ne_eqb}
use Rattle.refusals.specs.Refusals.{number, why_of}
use Rattle.refusals.specs.declared.Why.{Why}
use Rattle.refusals.proofs.Laws.{why_back, numbers_differ, number_above}
use Rattle.rules.specs.Statements.{Block}
use Rattle.rules.specs.Events.{Hearing}
use Rattle.rules.specs.States.{State, active_of}
use Rattle.rules.specs.Rounds.{Answer, answered, not_constructive, react}
use Rattle.rules.specs.Reasons.{Asked, refused, is_present, not_executed, reason_of}
use Rattle.theorems.specs.Traces.{Instant}
use Rattle.theorems.specs.Why.{TrueReason}
use Rattle.theorems.proofs.Instants.{reacts}
use Rattle.theorems.proofs.Why.{each_reason_is_true, executed_in_every_reaction}
use Rattle.block.specs.Format.{Good, good, reading}
use Rattle.block.proofs.GoodReadings.{numbers}
use Rattle.records.specs.StateRecord.{state, read_state}
use Rattle.reaction.specs.Fronts.{STATE, OTHER_BLOCK, INPUT, Front, ready, front}
use Rattle.reaction.specs.Instants.{CLASH, NOT_CONSTRUCTIVE, block_of, heard_of, goes_on, verdict, told, reacted}
use Rattle.reaction.specs.declared.Given.TheVariants.{Two}
use Rattle.reaction.proofs.Cases.{by_front}
use Rattle.foldheron.specs.Answers.{Reason, refusal_at}
use Rattle.reaction.specs.declared.Stopped.{Stopped}
use Rattle.std.specs.Prelude.{Ok, Err}
use Rattle.foldheron.specs.Reasons.{QUESTION, reason_values, named_owed, past_tests, reason_owed}
use Rattle.promises.specs.Tests.{First}
use Rattle.promises.specs.Demand1.{IsSo, NotSo, question_test, reason_tests, number_in, place_in, first_in, second_in, PairOf, PlacedBy, in_block, at_0}
use Rattle.promises.specs.Promised.{Holds, Inputs}
use Rattle.promises.specs.Why.{answer_for, ExecutedByAll, TrueOn}
use Rattle.promises.proofs.Records.{checked}
use Rattle.promises.proofs.Instants.{all_tests_pass}
use Rattle.promises.proofs.FirstRecord.{turned_down_decides}
use Rattle.promises.proofs.OneAnswer.{second_is_above}
use Rattle.promises.proofs.Exists.{named_in_block}
use Rattle.promises.proofs.FirstRefusal.{front_first, same_block, same_state, its_pair}

-- Executed in every reaction, by the instant's answer.
executed_by_all : (k : Block) (st : State) (heard : Hearing) (a : Answer) → Instant k st heard a → ExecutedByAll k st heard a
executed_by_all k st heard (answered vs c st' n) i = λ which chosen ch outs d st'' x. executed_in_every_reaction k st heard which i chosen ch x
executed_by_all k st heard (not_constructive vs n) i = tt

-- A refusal at a place, as an answer.
abbrev stops : Why → ℕ → Reason
stops w at = Err (Stopped.Refused (refusal_at w at))

-- What the values of an answer with or without a name begin with.
named_number : (o : Option ℕ) (n : ℕ) → number_in (named_owed o) ≡ n → (n ≢ 0) → (n ≢ QUESTION) → ⊥
unfolding named_owed
named_number (some k) n e f h = f (sym e)
named_number none n e f h = h (sym e)

same_name : (o named : Option ℕ) → named_owed named ≡ named_owed o → o ≡ named
unfolding named_owed
same_name (some k) (some j) e = ap (λ (l : List ℕ). some (get_or l 4 0)) (sym e)
same_name (some k) none e = let z : ◌≡◌ {A = ℕ} QUESTION 0 = ap number_in e in absurd (omega arith)
same_name none (some j) e = let z : ◌≡◌ {A = ℕ} 0 QUESTION = ap number_in e in absurd (omega arith)
same_name none none e = refl

pub values_for : (named : Option ℕ) → reason_values (answer_for named) ≡ named_owed named
unfolding reason_values named_owed number
values_for (some k) = refl
values_for none = refl

module _ (b s : List ℕ) (p a : ℕ) (asked : Asked) where
  pub said : Good → State → Option ℕ
  said g st = reason_of (block_of g) st (heard_of g (Two p a)) asked

  -- What is told is true.
  pub told_is_true : (named : Option ℕ) → named_owed named ≡ reason_owed b s p a asked → TrueOn b s (Two p a) asked named
  unfolding past_tests said
  told_is_true =
      by_front b s (Two p a) (λ (x : Front). (named : Option ℕ) → named_owed named ≡ past_tests x said → TrueOn b s (Two p a) asked named)
      (λ n at e named d. let r = numbers b n at e in let l : 1 ≤ n = r.0 in let h : n ≤ 8 = r.1 in
      absurd (named_number named n (ap number_in d) (λ z. omega arith) (λ z. omega arith)))
      (λ g e named d. absurd (named_number named STATE (ap number_in d) (λ z. omega arith) (λ z. omega arith)))
      (λ g e named d. absurd (named_number named OTHER_BLOCK (ap number_in d) (λ z. omega arith) (λ z. omega arith)))
      (λ g e st h pair q named d. absurd (named_number named CLASH (ap number_in d) (λ z. omega arith) (λ z. omega arith)))
      (λ g e named d. absurd (named_number named INPUT (ap number_in d) (λ z. omega arith) (λ z. omega arith)))
      (λ g e st h named d. record {
        block = g;
        from = st;
        held = record { is_good = e; is_found = h };
        is_true =
            subst (TrueReason asked (block_of g) st (heard_of g (Two p a)) (react (block_of g) st (heard_of g (Two p a)))) (same_name (said g st) named d)
            (each_reason_is_true (block_of g) st (heard_of g (Two p a)) (checked b g e) asked);
        executed =
            executed_by_all (block_of g) st (heard_of g (Two p a)) (react (block_of g) st (heard_of g (Two p a))) (reacts (block_of g) st (heard_of g (Two p a)) (checked b g e));
      })

  -- There is an answer, and it can be made again from its values: a clash names two different pauses, so it is no refusal of that number.
  pub a_reason : (r : Reason) × (reason_values r ≡ reason_owed b s p a asked)
  unfolding past_tests reason_values number said
  a_reason =
      by_front b s (Two p a) (λ (x : Front). (r : Reason) × (reason_values r ≡ past_tests x said))
      (λ n at e. (stops (why_of n) at, ap (λ (m : ℕ). m ∷ at ∷ 0 ∷ 0 ∷ 0 ∷ []) (named_in_block b n at e))) (λ g e. (stops Why.State 0, refl))
      (λ g e. (stops Why.OtherBlock 0, refl)) (λ g e st h pair q. (Err (Stopped.Clash pair.first pair.second), refl)) (λ g e. (stops Why.Input 0, refl))
      (λ g e st h. (answer_for (said g st), values_for (said g st)))

  no_clash : (at : ℕ) → reason_values (stops Why.Clash at) ≡ reason_owed b s p a asked → ⊥
  unfolding past_tests reason_values number said
  no_clash =
      by_front b s (Two p a) (λ (x : Front). (at : ℕ) → reason_values (stops Why.Clash at) ≡ past_tests x said → ⊥)
      (λ n at e i d. let h : n ≤ 8 = (numbers b n at e).1 in let z : 10 ≡ n = ap number_in d in omega arith)
      (λ g e i d. let z : ◌≡◌ {A = ℕ} 10 STATE = ap number_in d in omega arith) (λ g e i d. let z : ◌≡◌ {A = ℕ} 10 OTHER_BLOCK = ap number_in d in omega arith)
      (λ g e st h pair q i d. let z : 0 ≡ pair.second = ap second_in d in let l : pair.first < pair.second = second_is_above g.body (active_of st) pair q in omega arith)
      (λ g e i d. let z : ◌≡◌ {A = ℕ} 10 INPUT = ap number_in d in omega arith)
      (λ g e st h i d. named_number (said g st) 10 (sym (ap number_in d)) (λ z. omega arith) (λ z. omega arith))

  -- The place and the pair.
  pub reason_placed : PlacedBy b (number_in (reason_owed b s p a asked)) (place_in (reason_owed b s p a asked))
  unfolding past_tests named_owed said
  reason_placed =
      by_front b s (Two p a) (λ (x : Front). PlacedBy b (number_in (past_tests x said)) (place_in (past_tests x said))) (λ n at e. in_block n at (turned_down_decides b n at e))
      (λ g e. at_0 STATE g e) (λ g e. at_0 OTHER_BLOCK g e) (λ g e st h pair q. at_0 CLASH g e) (λ g e. at_0 INPUT g e) (λ g e st h. named_at g e (said g st))
    where
      named_at : (g : Good) → reading b ≡ good g → (o : Option ℕ) → PlacedBy b (number_in (named_owed o)) (place_in (named_owed o))
      named_at g e (some k) = at_0 0 g e
      named_at g e none = at_0 QUESTION g e

  pub reason_paired : number_in (reason_owed b s p a asked) ≡ CLASH → PairOf b s (first_in (reason_owed b s p a asked)) (second_in (reason_owed b s p a asked))
  unfolding past_tests said
  reason_paired =
      by_front b s (Two p a) (λ (x : Front). number_in (past_tests x said) ≡ CLASH → PairOf b s (first_in (past_tests x said)) (second_in (past_tests x said)))
      (λ n at e d. let h : n ≤ 8 = (numbers b n at e).1 in absurd (omega arith)) (λ g e d. absurd (omega arith)) (λ g e d. absurd (omega arith))
      (λ g e st h pair q d. its_pair b s (Two p a) g e st h pair q) (λ g e d. absurd (omega arith))
      (λ g e st h d. absurd (named_number (said g st) CLASH d (λ z. omega arith) (λ z. omega arith)))

remade : List ℕ → Reason
remade l = cond (eqb (get_or l 0 0) 0) (Ok (get_or l 4 0)) (cond (eqb (get_or l 0 0) 10) (Err (Stopped.Clash (get_or l 2 0) (get_or l 3 0))) (stops (why_of (get_or l 0 0)) (get_or l 1 0)))

from_values : (r : Reason) → ((at : ℕ) → r ≢ stops Why.Clash at) → remade (reason_values r) ≡ r
unfolding remade reason_values number
from_values (Ok k) c = refl
from_values (Err (Stopped.Clash m n)) c = refl
from_values (Err (Stopped.Refused r)) c =
    let w = r.why in
    let at = r.place in
    let not_0 : eqb (number w) 0 ≡ false = ne_eqb (number w) 0 (number_above w) in
    let not_10 : eqb (number w) 10 ≡ false = ne_eqb (number w) 10 (λ e. c at (ap (λ (y : Why). stops y at) (numbers_differ w Why.Clash e))) in
    let made : remade (reason_values (stops w at)) ≡ stops (why_of (number w)) at = simp (not_0, not_10) in
    made ∙ ap (λ (y : Why). stops y at) (why_back w)

pub a_question_has_one_answer : (b s : List ℕ) (p a : ℕ) (asked : Asked) (r q : Reason) → reason_values r ≡ reason_owed b s p a asked → reason_values q ≡ reason_owed b s p a asked → r ≡ q
a_question_has_one_answer b s p a asked r q e d = sym (is_remade r e) ∙ is_remade q d
  where
    is_remade : (x : Reason) → reason_values x ≡ reason_owed b s p a asked → remade (reason_owed b s p a asked) ≡ x
    is_remade x f = ap remade (sym f) ∙ from_values x (λ at c. no_clash b s p a asked at (ap reason_values (sym c) ∙ f))

-- The reason is told exactly where the thing asked about is so.
module _ (k : Block) (st : State) (heard : Hearing) where
  so_or_not : (asked : Asked) (x : Answer) (o : Option ℕ) → TrueReason asked k st heard x o
      → ((IsSo asked k st heard x → ⊥) × (number_in (named_owed o) ≡ QUESTION)) ⊎ (IsSo asked k st heard x × (number_in (named_owed o) ≡ 0))
  unfolding TrueReason named_owed
  so_or_not refused (answered vs c st' n) none t = inl ((λ z. z), refl)
  so_or_not refused (answered vs c st' n) (some j) t = absurd t
  so_or_not refused (not_constructive vs n) none t = absurd t
  so_or_not refused (not_constructive vs n) (some j) t = inr (tt, refl)
  so_or_not (is_present x) (answered vs c st' n) none t = inl (t, refl)
  so_or_not (is_present x) (answered vs c st' n) (some j) t = inr (t.0, refl)
  so_or_not (is_present x) (not_constructive vs n) none t = inl ((λ z. z), refl)
  so_or_not (is_present x) (not_constructive vs n) (some j) t = absurd t
  so_or_not (not_executed m) (answered vs c st' n) none t = inl (t, refl)
  so_or_not (not_executed m) (answered vs c st' n) (some j) t = inr (t.0, refl)
  so_or_not (not_executed m) (not_constructive vs n) none t = inl ((λ z. z), refl)
  so_or_not (not_executed m) (not_constructive vs n) (some j) t = absurd t

-- 16 is the last of the tests.
module _ (b s : List ℕ) (p a : ℕ) (asked : Asked) where
  so_in : Good → State → Type 0
  so_in g st = IsSo asked (block_of g) st (heard_of g (Two p a)) (react (block_of g) st (heard_of g (Two p a)))

  question_first : (g : Good) → reading b ≡ good g → (st : State) → read_state g.pauses s ≡ state st
      → First (question_test b s (Two p a) asked ∷ []) (number_in (named_owed (said b s p a asked g st)))
  unfolding said so_in
  question_first g e st h =
      go (so_or_not (block_of g) st (heard_of g (Two p a)) asked (react (block_of g) st (heard_of g (Two p a))) (said b s p a asked g st)
      (each_reason_is_true (block_of g) st (heard_of g (Two p a)) (checked b g e) asked))
    where
      same : (t : NotSo b s (Two p a) asked) → so_in g st → so_in t.block t.from
      same t i =
          subst (λ (y : State). so_in t.block y) (same_state b s (Two p a) g e st h t.block t.from t.held)
          (subst (λ (x : Good). so_in x st) (same_block b s (Two p a) g e t.block t.held.is_good) i)

      go : ((so_in g st → ⊥) × (number_in (named_owed (said b s p a asked g st)) ≡ QUESTION)) ⊎ (so_in g st × (number_in (named_owed (said b s p a asked g st)) ≡ 0))
          → First (question_test b s (Two p a) asked ∷ []) (number_in (named_owed (said b s p a asked g st)))
      go (inl n) = inl (record { block = g; from = st; held = record { is_good = e; is_found = h }; not_so = n.0 }, n.1)
      go (inr i) = inr ((λ t. t.not_so (same t i.0)), i.1)

  pub reason_first : First (reason_tests b s (Two p a) asked) (number_in (reason_owed b s p a asked))
  unfolding past_tests said
  reason_first =
      front_first b s (Two p a) (λ x. number_in (past_tests x (said b s p a asked))) (λ n at. refl) (λ pair. refl) (question_test b s (Two p a) asked ∷ []) question_first

-- Why the instant was refused is told exactly where the instant gives 13.
module _ (b s : List ℕ) (p a : ℕ) where
  by_answer : (k : Block) (st : State) (heard : Hearing) (x : Answer) (o : Option ℕ) → TrueReason refused k st heard x o
      → (number_in (named_owed o) ≡ 0) ↔ ((told (reacted k x)).number ≡ NOT_CONSTRUCTIVE)
  unfolding TrueReason named_owed told
  by_answer k st heard (answered vs c st' n) none t = ((λ d. absurd (omega arith)), (λ d. absurd (omega arith)))
  by_answer k st heard (answered vs c st' n) (some j) t = absurd t
  by_answer k st heard (not_constructive vs n) none t = absurd t
  by_answer k st heard (not_constructive vs n) (some j) t = ((λ d. refl), (λ d. refl))

  pub told_exactly_when_13 : (number_in (reason_owed b s p a refused) ≡ 0) ↔ ((told (verdict b s (Two p a) false)).number ≡ NOT_CONSTRUCTIVE)
  unfolding past_tests said told verdict goes_on
  told_exactly_when_13 =
      by_front b s (Two p a) (λ (x : Front). (number_in (past_tests x (said b s p a refused)) ≡ 0) ↔ ((told (goes_on (Two p a) false x)).number ≡ NOT_CONSTRUCTIVE))
      (λ n at e. let r = numbers b n at e in let l : 1 ≤ n = r.0 in let h : n ≤ 8 = r.1 in ((λ d. absurd (omega arith)), (λ d. absurd (omega arith))))
      (λ g e. ((λ d. absurd (omega arith)), (λ d. absurd (omega arith)))) (λ g e. ((λ d. absurd (omega arith)), (λ d. absurd (omega arith))))
      (λ g e st h pair q. ((λ d. absurd (omega arith)), (λ d. absurd (omega arith)))) (λ g e. ((λ d. absurd (omega arith)), (λ d. absurd (omega arith))))
      (λ g e st h. by_answer (block_of g) st (heard_of g (Two p a)) (react (block_of g) st (heard_of g (Two p a))) (said b s p a refused g st)
      (each_reason_is_true (block_of g) st (heard_of g (Two p a)) (checked b g e) refused))

-- Of a legal state and declared inputs no test turns the question down.
pub asked_of_a_legal_state : (b : List ℕ) (g : Good) → reading b ≡ good g → (s : List ℕ) (st : State) → Holds g s st → (w : Inputs g) (p a : ℕ) → w.given ≡ Two p a → (asked : Asked)
    → reason_values (answer_for (said b s p a asked g st)) ≡ reason_owed b s p a asked
unfolding past_tests said
asked_of_a_legal_state b g e s st h w p a q asked =
    let d : front b s (Two p a) ≡ ready g st = ap (front b s) (sym q) ∙ all_tests_pass b g e s st h w in
    values_for (said b s p a asked g st) ∙ sym (ap (λ (x : Front). past_tests x (said b s p a asked)) d)
