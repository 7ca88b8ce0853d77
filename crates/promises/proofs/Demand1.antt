-- Demand 1, sentence by sentence, of the calls as their contracts tell of them (`specs/Calls`). Each theorem is proved in the file that the `use`
-- lines name. Assumes nothing.
use mathlib.Core.Path.{◌≡◌, refl, sym, ap, ◌∙◌, subst}
use mathlib.Core.Logic.{◌≢◌}
use mathlib.Core.Bool.{false}
use mathlib.Core.List.{List, []}
use Prim.Native.Nat.{ℕ}
use lib.ListN.{take, drop}
use Rattle.block.specs.Format.{turned_down, reading}
use Rattle.records.specs.LogRecord.{no_room}
use Rattle.reaction.specs.Instants.{CLASH, Told, told, state_after, log_after, end_after, verdict}
use Rattle.reaction.specs.declared.Given.{Given}
use Rattle.reaction.specs.declared.Given.TheVariants.{All, Two}
use Rattle.refusals.specs.declared.Why.{Why}
use Rattle.foldheron.specs.Answers.{Checked}
use Rattle.foldheron.specs.Answers.{Begun}
use Rattle.foldheron.specs.Answers.{FoundPart, PartTold, part_told, Excerpt, Excerpted, excerpted_as}
use Rattle.foldheron.specs.Answers.{Instant}
use Rattle.foldheron.specs.Answers.{Logging, answer_in, end_in}
use Rattle.std.specs.Prelude.{Ok, Err, IfOk}
use Rattle.records.specs.Parts.{LiesAt}
use Rattle.refusals.specs.Refusals.{number}
use Rattle.refusals.proofs.Laws.{number_above}
use Rattle.foldheron.specs.Answers.{check_values, begun_values, state_owed, part_owed}
use Rattle.reaction.specs.Answers.{instant_told}
use Rattle.foldheron.proofs.Owed.{check_told_apart, begun_told_apart, part_told_apart}
use Rattle.refusals.proofs.number_of.Kinds as number_of_kinds
use Rattle.refusals.proofs.number_of.Reads as refusal_number
use Rattle.refusals.proofs.number_of.Statement as number_of_statement
use Rattle.refusals.proofs.number_of.Met as number_of_met
use Rattle.foldheron.proofs.check.Kinds as check_kinds
use Rattle.foldheron.proofs.check.Reads as check
use Rattle.foldheron.proofs.check.Statement as check_statement
use Rattle.foldheron.proofs.check.Met as check_met
use Rattle.foldheron.proofs.fresh.Kinds as fresh_kinds
use Rattle.foldheron.proofs.fresh.Reads as fresh
use Rattle.foldheron.proofs.fresh.Statement as fresh_statement
use Rattle.foldheron.proofs.fresh.Met as fresh_met
use Rattle.foldheron.proofs.part_of.Kinds as part_of_kinds
use Rattle.foldheron.proofs.part_of.Reads as part_of
use Rattle.foldheron.proofs.part_of.Statement as part_of_statement
use Rattle.foldheron.proofs.part_of.Met as part_of_met
use Rattle.foldheron.proofs.excerpt.Kinds as excerpt_kinds
use Rattle.foldheron.proofs.excerpt.Reads as excerpt
use Rattle.foldheron.proofs.excerpt.Statement as excerpt_statement
use Rattle.foldheron.proofs.excerpt.Met as excerpt_met
use Rattle.foldheron.proofs.instant.Kinds as instant_kinds
use Rattle.foldheron.proofs.instant.Reads as instant
use Rattle.foldheron.proofs.instant.Statement as instant_statement
use Rattle.foldheron.proofs.instant.Met as instant_met
use Rattle.foldheron.proofs.instant_logged.Kinds as logged_kinds
use Rattle.foldheron.proofs.instant_logged.Reads as logged
use Rattle.foldheron.proofs.instant_logged.Statement as logged_statement
use Rattle.foldheron.proofs.instant_logged.Met as logged_met
use Rattle.foldheron.proofs.instant_heard.Kinds as heard_kinds
use Rattle.foldheron.proofs.instant_heard.Reads as heard
use Rattle.foldheron.proofs.instant_heard.Statement as heard_statement
use Rattle.foldheron.proofs.instant_heard.Met as heard_met
use Rattle.foldheron.proofs.instant_heard_logged.Kinds as heard_logged_kinds
use Rattle.foldheron.proofs.instant_heard_logged.Reads as heard_logged
use Rattle.foldheron.proofs.instant_heard_logged.Statement as heard_logged_statement
use Rattle.foldheron.proofs.instant_heard_logged.Met as heard_logged_met
use Rattle.promises.specs.Calls.{Place, ◌holds◌, CheckCalled, FreshCalled, CalledFor, LoggedFor, with_set, with_two, PartCalled, ExcerptCalled, NumberCalled, LoggedCalls}
use Rattle.promises.specs.Tests.{Test, First}
use Rattle.promises.specs.Demand1.{block_tests, fresh_tests, excerpt_tests, instant_tests, logged_tests, Returns, ExactlyOne, number_in, place_in, PlacedBy, PairOf, block_read, LoggedRun}
use Rattle.promises.specs.FirstRecord.{Decides, InOrder}
use Rattle.promises.proofs.Learnt.{check_says, fresh_says, instant_says, logged_answer, logged_end, logged_state, logged_log, part_says}
use Rattle.promises.proofs.Learnt.{excerpt_part, excerpt_lies, excerpt_number, excerpt_place, number_says}
use Rattle.promises.proofs.OneAnswer.{an_instant_has_one_answer}
use Rattle.promises.proofs.Exists.{a_check, a_beginning, an_instant, a_part, an_excerpt}
use Rattle.promises.proofs.FirstRefusal.{check_first, fresh_first, part_first, instant_first, logged_first, check_placed}
use Rattle.promises.proofs.FirstRefusal.{fresh_placed, part_placed, verdict_placed, verdict_paired, fresh_stays, part_absent}
use Rattle.promises.proofs.RecordTests.{first_is_one}
use Rattle.promises.proofs.FirstRecord.{in_order, decides_alone}
use Rattle.promises.proofs.LoggedRuns.{left, a_logging, logging_told_apart, logged_run}

-- "Every block, state record, input set and log gets an answer and the call ends."
-- Nothing is asked of a caller, and each call returns:
pub check_returns : Returns 1 check_kinds.ps check.Asked check_statement.statement
check_returns = record { nothing_asked = λ κs a. tt; returns = λ M. check_met.met }

pub fresh_returns : Returns 2 fresh_kinds.ps fresh.Asked fresh_statement.statement
fresh_returns = record { nothing_asked = λ κs a. tt; returns = λ M. fresh_met.met }

pub instant_returns : Returns 2 instant_kinds.ps instant.Asked instant_statement.statement
instant_returns = record { nothing_asked = λ κs a. tt; returns = λ M. instant_met.met }

pub instant_logged_returns : Returns 3 logged_kinds.ps logged.Asked logged_statement.statement
instant_logged_returns = record { nothing_asked = λ κs a. tt; returns = λ M. logged_met.met }

pub instant_heard_returns : Returns 2 heard_kinds.ps heard.Asked heard_statement.statement
instant_heard_returns = record { nothing_asked = λ κs a. tt; returns = λ M. heard_met.met }

pub instant_heard_logged_returns : Returns 3 heard_logged_kinds.ps heard_logged.Asked heard_logged_statement.statement
instant_heard_logged_returns = record { nothing_asked = λ κs a. tt; returns = λ M. heard_logged_met.met }

pub excerpt_returns : Returns 1 excerpt_kinds.ps excerpt.Asked excerpt_statement.statement
excerpt_returns = record { nothing_asked = λ κs a. tt; returns = λ M. excerpt_met.met }

pub part_of_returns : Returns 1 part_of_kinds.ps part_of.Asked part_of_statement.statement
part_of_returns = record { nothing_asked = λ κs a. tt; returns = λ M. part_of_met.met }

pub number_of_returns : Returns 0 number_of_kinds.ps refusal_number.Asked number_of_statement.statement
number_of_returns = record { nothing_asked = λ κs a. tt; returns = λ M. number_of_met.met }

-- and for all that is lent there is exactly one answer, with exactly one content of each lent byte afterwards.
abbrev pub anywhere : ℕ → Place
anywhere i = record { ptr = (0, 0); name = 0 }

pub check_has_one_answer : (b : List ℕ) → ExactlyOne (CheckCalled b)
check_has_one_answer b = record {
  the_one = (a_check b).0;
  it_is = record { call = record { lifetimes = ([], tt); places = anywhere; learnt = (a_check b).1 } };
  no_other = λ r c. check_told_apart r (a_check b).0 (check_says b c ∙ sym (a_check b).1);
}

pub number_of_has_one_answer : (why : Why) → ExactlyOne (NumberCalled why)
number_of_has_one_answer why = record {
  the_one = number why;
  it_is = record { call = record { lifetimes = tt; places = anywhere; learnt = refl } };
  no_other = λ k c. number_says c;
}

pub fresh_has_one_answer : (b s : List ℕ) → ExactlyOne (λ (x : Begun × List ℕ). FreshCalled b s x.0 x.1)
fresh_has_one_answer b s = record {
  the_one = ((a_beginning b s).0, state_owed (reading b) s);
  it_is = record { call = record { lifetimes = ([], ([], tt)); places = anywhere; learnt = ((a_beginning b s).1, refl) } };
  no_other = λ x c i. (begun_told_apart x.0 (a_beginning b s).0 ((fresh_says b c).0 ∙ sym (a_beginning b s).1) i, (fresh_says b c).1 i);
}

pub instant_has_one_answer : (b s : List ℕ) (w : Given) → ExactlyOne (λ (x : Instant × List ℕ). CalledFor b s w x.0 x.1)
instant_has_one_answer b s w = record {
  the_one = ((an_instant b s w false).0, state_after s (verdict b s w false));
  it_is = made w;
  no_other = λ x c i. (an_instant_has_one_answer b s w false x.0 (an_instant b s w false).0 (instant_says b c).0 (an_instant b s w false).1 i, (instant_says b c).1 i);
}
  where
    made : (x : Given) → CalledFor b s x (an_instant b s x false).0 (state_after s (verdict b s x false))
    made (All n) = with_set (record { call = record { lifetimes = ([], ([], tt)); places = anywhere; learnt = ((an_instant b s (All n) false).1, refl) } })
    made (Two m n) = with_two (record { call = record { lifetimes = ([], ([], tt)); places = anywhere; learnt = ((an_instant b s (Two m n) false).1, refl) } })

pub instant_logged_has_one_answer : (b s : List ℕ) (w : Given) (log : List ℕ) (end : ℕ)
    → ExactlyOne (λ (x : Logging × List ℕ × List ℕ). LoggedFor b s w log end x.0 x.1 x.2)
instant_logged_has_one_answer b s w log end = record {
  the_one = the w;
  it_is = made w;
  no_other = λ x c i. (
    logging_told_apart x.0 (its w).0 (an_instant_has_one_answer b s w (no_room log end) (answer_in x.0) (answer_in (its w).0) (logged_answer b c) (its w).1)
        (logged_end b c ∙ sym (its w).2) i,
    logged_state b c i,
    logged_log b c i,
  );
}
  where
    its : (x : Given) → (r : Logging) × (instant_told (answer_in r) ≡ told (verdict b s x (no_room log end))) × (end_in r ≡ end_after end (verdict b s x (no_room log end)))
    its x =
        let a = an_instant b s x (no_room log end) in
        a_logging (verdict b s x (no_room log end)) s log end x a.0 a.1

    the : Given → Logging × List ℕ × List ℕ
    the x =
        let v = verdict b s x (no_room log end) in
        ((its x).0, state_after s v, log_after log end x v)

    made : (x : Given) → LoggedFor b s x log end (the x).0 (the x).1 (the x).2
    made (All n) = with_set (record {
      call = record {
        lifetimes = ([], ([], ([], tt)));
        places = anywhere;
        learnt = ((its (All n)).1, ((its (All n)).2, (refl, refl)));
      };
    })
    made (Two m n) = with_two (record {
      call = record {
        lifetimes = ([], ([], ([], tt)));
        places = anywhere;
        learnt = ((its (Two m n)).1, ((its (Two m n)).2, (refl, refl)));
      };
    })

pub part_of_has_one_answer : (b : List ℕ) (n : ℕ) → ExactlyOne (PartCalled b n)
part_of_has_one_answer b n = record {
  the_one = (a_part b n).0;
  it_is = record { call = record { lifetimes = ([], tt); places = anywhere; learnt = ((a_part b n).1, (a_part b n).2) } };
  no_other = λ r c. part_told_apart r (a_part b n).0 (part_says b c ∙ sym (a_part b n).1);
}

-- What is handed back are the bytes of the part, none of a refusal.
excerpt_bytes : (b : List ℕ) {n k p : ℕ} {part : List ℕ} → ExcerptCalled b n part k p → part ≡ take (part_owed (reading b) n).size (drop (part_owed (reading b) n).offset b)
unfolding excerpted_as
excerpt_bytes b {n} c = excerpt_part b c ∙ go c.answer c.call.learnt.0 (excerpt_lies b c)
  where
    go : (x : Excerpt) → (excerpted_as x).number ≡ (part_owed (reading b) n).number
        → IfOk x (λ y. LiesAt y (c.call.places 0 holds b) (part_owed (reading b) n).offset (part_owed (reading b) n).size)
        → (excerpted_as x).part ≡ take (part_owed (reading b) n).size (drop (part_owed (reading b) n).offset b)
    go (Ok y) d l = l.its_bytes
    go (Err r) d l = ap (λ (m : ℕ). take m (drop (part_owed (reading b) n).offset b)) (sym (part_absent b n (λ z. number_above r.why (d ∙ z))))

-- (A returned part has its place in memory fixed too, by where the block lies: `excerpt_lies`.)
pub excerpt_has_one_answer : (b : List ℕ) (n : ℕ) → ExactlyOne (λ (x : List ℕ × ℕ × ℕ). ExcerptCalled b n x.0 x.1 x.2)
excerpt_has_one_answer b n =
    let p = part_owed (reading b) n in
    let e = an_excerpt b n (anywhere 0) in
    record {
      the_one = (take p.size (drop p.offset b), p.number, p.place);
      it_is = record {
        answer = e.0;
        is_told = e.1;
        call = record {
          lifetimes = ([], tt);
          places = anywhere;
          learnt = (ap (λ (t : Excerpted). t.number) e.1, (ap (λ (t : Excerpted). t.place) e.1, e.2));
        };
      };
      no_other = λ x c i. (excerpt_bytes b c i, excerpt_number b c i, excerpt_place b c i);
    }

-- "A bad one gets the first refusal in the written order." The number given back is that of the first test in the written order that applies
-- (`specs/Demand1` has each test on its own, and the lists), and 0 where none does. No two numbers are first.
pub first_is_one_number : (ts : List Test) (m n : ℕ) → First ts m → First ts n → m ≡ n
first_is_one_number = first_is_one

module _ (b : List ℕ) where
  pub check_gives_the_first : {r : Checked} → CheckCalled b r → First (block_tests b) (number_in (check_values r))
  check_gives_the_first c = subst (First (block_tests b)) (sym (ap number_in (check_says b c))) (check_first b)

  pub fresh_gives_the_first : {s s' : List ℕ} {r : Begun} → FreshCalled b s r s' → First (fresh_tests b s) (number_in (begun_values r))
  fresh_gives_the_first {s} c = subst (First (fresh_tests b s)) (sym (ap number_in (fresh_says b c).0)) (fresh_first b s)

  pub instant_gives_the_first : {s s' : List ℕ} {w : Given} {r : Instant} → CalledFor b s w r s' → First (instant_tests b s w) (instant_told r).number
  instant_gives_the_first {s} {w = w} c = subst (First (instant_tests b s w)) (sym (ap (λ (t : Told). t.number) (instant_says b c).0)) (instant_first b s w)

  pub instant_logged_gives_the_first : {s s' log log' : List ℕ} {w : Given} {end : ℕ} {r : Logging} → LoggedFor b s w log end r s' log'
      → First (logged_tests b s w log end) (instant_told (answer_in r)).number
  instant_logged_gives_the_first {s} {log = log} {w = w} {end = end} c =
      subst (First (logged_tests b s w log end)) (sym (ap (λ (t : Told). t.number) (logged_answer b c))) (logged_first b s w log end)

  pub excerpt_gives_the_first : {n k p : ℕ} {part : List ℕ} → ExcerptCalled b n part k p → First (excerpt_tests b n) k
  excerpt_gives_the_first {n} c = subst (First (excerpt_tests b n)) (sym (excerpt_number b c)) (part_first b n)

  pub part_of_gives_the_first : {n : ℕ} {r : FoundPart} → PartCalled b n r → First (excerpt_tests b n) (part_told r).number
  part_of_gives_the_first {n} c = subst (First (excerpt_tests b n)) (sym (ap (λ (x : PartTold). x.number) (part_says b c))) (part_first b n)

  -- Its place is where the block is turned down, and 0 from 9 on; a CLASH names the first pair.
  pub check_gives_its_place : {r : Checked} → CheckCalled b r → PlacedBy b (number_in (check_values r)) (place_in (check_values r))
  check_gives_its_place c = subst (λ (l : List ℕ). PlacedBy b (number_in l) (place_in l)) (sym (check_says b c)) (check_placed b)

  pub fresh_gives_its_place : {s s' : List ℕ} {r : Begun} → FreshCalled b s r s' → PlacedBy b (number_in (begun_values r)) (place_in (begun_values r))
  fresh_gives_its_place {s} c = subst (λ (l : List ℕ). PlacedBy b (number_in l) (place_in l)) (sym (fresh_says b c).0) (fresh_placed b s)

  pub instant_gives_its_place : {s s' : List ℕ} {w : Given} {r : Instant} → CalledFor b s w r s' → PlacedBy b (instant_told r).number (instant_told r).place
  instant_gives_its_place {s} {w = w} c = subst (λ (t : Told). PlacedBy b t.number t.place) (sym (instant_says b c).0) (verdict_placed b s w false)

  pub instant_logged_gives_its_place : {s s' log log' : List ℕ} {w : Given} {end : ℕ} {r : Logging} → LoggedFor b s w log end r s' log'
      → PlacedBy b (instant_told (answer_in r)).number (instant_told (answer_in r)).place
  instant_logged_gives_its_place {s} {log = log} {w = w} {end = end} c =
      subst (λ (t : Told). PlacedBy b t.number t.place) (sym (logged_answer b c)) (verdict_placed b s w (no_room log end))

  pub excerpt_gives_its_place : {n k p : ℕ} {part : List ℕ} → ExcerptCalled b n part k p → PlacedBy b k p
  excerpt_gives_its_place {n} {k} {p} c =
      subst (λ (j : ℕ). PlacedBy b j p) (sym (excerpt_number b c)) (subst (λ (j : ℕ). PlacedBy b (part_owed (reading b) n).number j) (sym (excerpt_place b c)) (part_placed b n))

  pub a_clash_names_the_first_pair : {s s' : List ℕ} {w : Given} {r : Instant} → CalledFor b s w r s' → (instant_told r).number ≡ CLASH
      → PairOf b s (instant_told r).first (instant_told r).second
  a_clash_names_the_first_pair {s} {w = w} c =
      subst (λ (t : Told). t.number ≡ CLASH → PairOf b s t.first t.second) (sym (instant_says b c).0) (verdict_paired b s w false)

  pub a_logged_clash_names_the_first_pair : {s s' log log' : List ℕ} {w : Given} {end : ℕ} {r : Logging} → LoggedFor b s w log end r s' log'
      → (instant_told (answer_in r)).number ≡ CLASH → PairOf b s (instant_told (answer_in r)).first (instant_told (answer_in r)).second
  a_logged_clash_names_the_first_pair {s} {log = log} {w = w} {end = end} c =
      subst (λ (t : Told). t.number ≡ CLASH → PairOf b s t.first t.second) (sym (logged_answer b c)) (verdict_paired b s w (no_room log end))

  -- Within 1 to 8: after the size test the records are read from the front; the first record at fault decides, and within it the lowest number; LOOP
  -- comes after a whole good reading (`specs/FirstRecord` has each test of a record on its own). Where none decides, all is good; and nothing else decides.
  pub the_first_record_at_fault_decides : InOrder b (reading b)
  the_first_record_at_fault_decides = in_order b

  pub nothing_else_decides : (n at : ℕ) → Decides b n at → reading b ≡ turned_down n at
  nothing_else_decides = decides_alone b

  -- "A refused instant changes no byte of state or log", whatever its number; nor does a refused `fresh`, and a refused excerpt is empty.
  pub a_refused_instant_changes_nothing : {s s' : List ℕ} {w : Given} {r : Instant} → CalledFor b s w r s' → (instant_told r).number ≢ 0 → s' ≡ s
  a_refused_instant_changes_nothing {s} {w = w} c h =
      (instant_says b c).1 ∙ (left (verdict b s w false) s [] 0 w (λ z. h (ap (λ (t : Told). t.number) (instant_says b c).0 ∙ z))).state_stays

  pub a_refused_logged_instant_changes_nothing : {s s' log log' : List ℕ} {w : Given} {end : ℕ} {r : Logging} → LoggedFor b s w log end r s' log'
      → (instant_told (answer_in r)).number ≢ 0 → (s' ≡ s) × (log' ≡ log) × (end_in r ≡ 0)
  a_refused_logged_instant_changes_nothing {s} {log = log} {w = w} {end = end} c h =
      let l = left (verdict b s w (no_room log end)) s log end w (λ z. h (ap (λ (t : Told). t.number) (logged_answer b c) ∙ z)) in
      (logged_state b c ∙ l.state_stays, logged_log b c ∙ l.log_stays, logged_end b c ∙ l.no_end)

  pub a_refused_fresh_changes_nothing : {s s' : List ℕ} {r : Begun} → FreshCalled b s r s' → number_in (begun_values r) ≢ 0 → s' ≡ s
  a_refused_fresh_changes_nothing {s} c h = (fresh_says b c).1 ∙ fresh_stays b s (λ z. h (ap number_in (fresh_says b c).0 ∙ z))

  pub a_refused_excerpt_is_empty : {n k p : ℕ} {part : List ℕ} → ExcerptCalled b n part k p → k ≢ 0 → part ≡ []
  a_refused_excerpt_is_empty {n} c h =
      excerpt_bytes b c ∙ ap (λ (m : ℕ). take m (drop (part_owed (reading b) n).offset b)) (part_absent b n (λ z. h (excerpt_number b c ∙ z)))

  -- Over runs with a log, the log's bytes after the run are the records of its answered instants one after the other from the first end on, and
  -- all else as it was.
  pub over_a_run_the_log_has_the_records_of_the_answered_instants : {s log : List ℕ} {end : ℕ} {ws : List Given} {rs : List Logging} {s' log' : List ℕ} {end' : ℕ}
      → LoggedCalls b s log end ws rs s' log' end' → LoggedRun (block_read (reading b)) log end ws rs log' end'
  over_a_run_the_log_has_the_records_of_the_answered_instants = logged_run b
