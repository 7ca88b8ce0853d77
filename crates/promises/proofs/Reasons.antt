-- The call that says why, as a caller sees it: what `reason` answers is known by its own contract (`specs/Calls`), for all bytes that are lent. Each theorem is proved in
-- `Why`. Assumes nothing.
use mathlib.Core.Path.{◌≡◌, sym, ap, ◌∙◌, subst}
use mathlib.Core.Logic.{◌↔◌}
use mathlib.Core.List.{List, []}
use mathlib.Core.Option.{Option}
use Prim.Native.Nat.{ℕ}
use Rattle.rules.specs.States.{State}
use Rattle.block.specs.Format.{Good, good, reading}
use Rattle.reasons.specs.Taking.{asked_of}
use Rattle.reasons.specs.declared.asked.Asked.{Asked}
use Rattle.reasons.specs.declared.asked.Asked.TheVariants.{Refused}
use Rattle.reaction.specs.Instants.{CLASH, NOT_CONSTRUCTIVE, Told}
use Rattle.reaction.specs.Answers.{instant_told}
use Rattle.reaction.specs.declared.Given.TheVariants.{Two}
use Rattle.foldheron.specs.Answers.{Instant}
use Rattle.foldheron.specs.Answers.{Reason}
use Rattle.foldheron.specs.Reasons.{reason_values, reason_owed}
use Rattle.foldheron.proofs.reason.Kinds as reason_kinds
use Rattle.foldheron.proofs.reason.Reads as reason
use Rattle.foldheron.proofs.reason.Statement as reason_statement
use Rattle.foldheron.proofs.reason.Met as reason_met
use Rattle.promises.specs.Calls.{HeardCalled, with_two, ReasonCalled}
use Rattle.promises.specs.Tests.{First}
use Rattle.promises.specs.Demand1.{reason_tests, Returns, ExactlyOne, number_in, place_in, first_in, second_in, PlacedBy, PairOf}
use Rattle.promises.specs.Promised.{Holds, Inputs}
use Rattle.promises.specs.Why.{answer_for, TrueOn}
use Rattle.promises.proofs.Learnt.{instant_says, reason_says}
use Rattle.promises.proofs.Why.{values_for, said, asked_of_a_legal_state, told_is_true, a_reason, a_question_has_one_answer, reason_first, reason_placed, reason_paired, told_exactly_when_13}

-- Nothing is asked of a caller, and the call returns; to every question there is exactly one answer.
pub reason_returns : Returns 2 reason_kinds.ps reason.Asked reason_statement.statement
reason_returns = record { nothing_asked = λ κs a. tt; returns = λ M. reason_met.met }

pub reason_has_one_answer : (b s : List ℕ) (p a : ℕ) (asked : Asked) → ExactlyOne (ReasonCalled b s p a asked)
reason_has_one_answer b s p a asked =
    let the = a_reason b s p a (asked_of asked) in
    record {
      the_one = the.0;
      it_is = record { call = record { lifetimes = ([], ([], tt)); places = λ i. record { ptr = (0, 0); name = 0 }; learnt = the.1 } };
      no_other = λ r c. a_question_has_one_answer b s p a (asked_of asked) r the.0 (reason_says b c) the.1;
    }

module _ (b s : List ℕ) (p a : ℕ) (asked : Asked) (r : Reason) (c : ReasonCalled b s p a asked r) where
  -- The number given back is that of the first test that applies, in the written order, and 0 where none does; 16 is the last of them. Its place is where the block is
  -- turned down, and 0 from 9 on; a CLASH names the first pair.
  pub reason_gives_the_first : First (reason_tests b s (Two p a) (asked_of asked)) (number_in (reason_values r))
  reason_gives_the_first = subst (λ (l : List ℕ). First (reason_tests b s (Two p a) (asked_of asked)) (number_in l)) (sym (reason_says b c)) (reason_first b s p a (asked_of asked))

  pub reason_gives_its_place : PlacedBy b (number_in (reason_values r)) (place_in (reason_values r))
  reason_gives_its_place = subst (λ (l : List ℕ). PlacedBy b (number_in l) (place_in l)) (sym (reason_says b c)) (reason_placed b s p a (asked_of asked))

  pub a_clash_of_a_reason_names_the_first_pair : number_in (reason_values r) ≡ CLASH → PairOf b s (first_in (reason_values r)) (second_in (reason_values r))
  a_clash_of_a_reason_names_the_first_pair =
      subst (λ (l : List ℕ). number_in l ≡ CLASH → PairOf b s (first_in l) (second_in l)) (sym (reason_says b c)) (reason_paired b s p a (asked_of asked))

  -- Each reason told is true, and so is each 16: the block is good, the record holds a state, and of that instant the thing asked about is so and the statement is the one, or
  -- it is not so.
  pub each_reason_told_is_true : (named : Option ℕ) → r ≡ answer_for named → TrueOn b s (Two p a) (asked_of asked) named
  each_reason_told_is_true named e = told_is_true b s p a (asked_of asked) named (sym (values_for named) ∙ sym (ap reason_values e) ∙ reason_says b c)

-- Why an instant was refused is answered exactly when `instant_heard` on the same bytes and inputs gives 13.
pub why_refused_is_told_exactly_when_13 : (b s : List ℕ) (p a : ℕ) (r : Reason) → ReasonCalled b s p a Refused r → (i : Instant) (s' : List ℕ) → HeardCalled b s p a i s'
    → (number_in (reason_values r) ≡ 0) ↔ ((instant_told i).number ≡ NOT_CONSTRUCTIVE)
why_refused_is_told_exactly_when_13 b s p a r c i s' d =
    subst (λ (l : List ℕ). (number_in l ≡ 0) ↔ ((instant_told i).number ≡ NOT_CONSTRUCTIVE)) (sym (reason_says b c))
    (subst (λ (t : Told). (number_in (reason_owed b s p a (asked_of Refused)) ≡ 0) ↔ (t.number ≡ NOT_CONSTRUCTIVE)) (sym (instant_says b (with_two d)).0) (told_exactly_when_13 b s p a))

-- With a good block, a record that is found legal and declared inputs, a question names a statement or is told 16: it is none of the refusals 1 to 11.
pub of_a_legal_state_a_reason_or_16 : (b : List ℕ) (g : Good) → reading b ≡ good g → (s : List ℕ) (st : State) → Holds g s st → (w : Inputs g) (p a : ℕ) → w.given ≡ Two p a
    → (asked : Asked) (r : Reason) → ReasonCalled b s p a asked r → (named : Option ℕ) × (r ≡ answer_for named)
of_a_legal_state_a_reason_or_16 b g e s st h w p a q asked r c =
    let named = said b s p a (asked_of asked) g st in
    (named, a_question_has_one_answer b s p a (asked_of asked) r (answer_for named) (reason_says b c) (asked_of_a_legal_state b g e s st h w p a q (asked_of asked)))
