-- The shelf of two parties, sentence by sentence, of the calls as their contracts tell of them (`specs/Calls`, `specs/Shelves`). Each theorem is
-- proved in the file that the `use` lines name. Assumes nothing.
use mathlib.Core.Path.{◌≡◌, refl, sym, ap, ◌∙◌, subst}
use mathlib.Core.Logic.{◌≢◌}
use mathlib.Core.List.{List, []}
use Prim.Native.Nat.{ℕ, ◌+◌, ◌<◌}
use Rattle.records.specs.Numerals.{Bytes}
use Rattle.shelf.specs.Entries.{size, in_use, shelf_of, own, entries}
use Rattle.shelf.specs.Calls.{SHELF, QUOTA, Call, install, fetch, withdraw, ShelfAnswer, done, entry, told, left}
use Rattle.shelf.specs.Histories.{empty_shelf, own_calls, Said, kept, used}
use Rattle.shelf.specs.Answered.{shelved_values, shelved_owed}
use Rattle.std.specs.Prelude.{Result}
use Rattle.refusals.specs.declared.Refused.{Refused}
use Rattle.shelf.proofs.Answers.{Accepted, no_other_lack, quota_told, told_shelf}
use Rattle.shelf.proofs.Told.{refused_empty, refused_leaves, withdraw_place}
use Rattle.shelf.proofs.Told as told_on_a_shelf
use Rattle.shelf.proofs.Rule.{only_its_own_calls, never_shelf}
use Rattle.shelf.proofs.Conservation.{conservation, bytes_in_use}
use Rattle.shelf.proofs.install.Kinds as install_kinds
use Rattle.shelf.proofs.install.Reads as install_reads
use Rattle.shelf.proofs.install.Statement as install_statement
use Rattle.shelf.proofs.install.Met as install_met
use Rattle.shelf.proofs.fetch.Kinds as fetch_kinds
use Rattle.shelf.proofs.fetch.Reads as fetch_reads
use Rattle.shelf.proofs.fetch.Statement as fetch_statement
use Rattle.shelf.proofs.fetch.Met as fetch_met
use Rattle.shelf.proofs.withdraw.Kinds as withdraw_kinds
use Rattle.shelf.proofs.withdraw.Reads as withdraw_reads
use Rattle.shelf.proofs.withdraw.Statement as withdraw_statement
use Rattle.shelf.proofs.withdraw.Met as withdraw_met
use Rattle.promises.specs.Calls.{InstallCalled, FetchCalled, WithdrawCalled}
use Rattle.promises.specs.Tests.{First}
use Rattle.promises.specs.Demand1.{Returns, ExactlyOne, number_in, place_in}
use Rattle.promises.specs.Shelves.{ShelfOf, install_tests, fetch_tests, withdraw_tests, PlacedInBlock, ShelfCalled, installs, ShelfCalls, told_party, heard, answer_of}
use Rattle.promises.proofs.Demand1.{anywhere}
use Rattle.promises.proofs.Learnt.{install_says, fetch_part, fetch_number, fetch_place, withdraw_says}
use Rattle.promises.proofs.ShelfAnswers.{install_first, fetch_first, withdraw_first, install_placed, shelved_told_apart, an_install, a_withdrawal, a_fetch, calls_are, last_is}

-- Nothing is asked of a caller, and each call returns;
pub install_returns : Returns 2 install_kinds.ps install_reads.Asked install_statement.statement
install_returns = record { nothing_asked = λ κs a. tt; returns = λ M. install_met.met }

pub fetch_returns : Returns 1 fetch_kinds.ps fetch_reads.Asked fetch_statement.statement
fetch_returns = record { nothing_asked = λ κs a. tt; returns = λ M. fetch_met.met }

pub withdraw_returns : Returns 1 withdraw_kinds.ps withdraw_reads.Asked withdraw_statement.statement
withdraw_returns = record { nothing_asked = λ κs a. tt; returns = λ M. withdraw_met.met }

-- and for all that is lent there is exactly one answer, with exactly one content of each lent byte afterwards.
pub install_has_one_answer : (s : List ℕ) (party name : ℕ) (b : List ℕ) → ExactlyOne (λ (x : Result (Unit {0}) Refused × List ℕ). InstallCalled s party name b x.0 x.1)
install_has_one_answer s party name b =
    let a = an_install s party name b in
    record {
      the_one = (a.0, left s (install party name b));
      it_is = record { call = record { lifetimes = ([], ([], tt)); places = anywhere; learnt = (a.1, refl) } };
      no_other = λ x c i. (shelved_told_apart x.0 a.0 ((install_says c).0 ∙ sym a.1) i, (install_says c).1 i);
    }

pub withdraw_has_one_answer : (s : List ℕ) (party name : ℕ) → ExactlyOne (λ (x : Result (Unit {0}) Refused × List ℕ). WithdrawCalled s party name x.0 x.1)
withdraw_has_one_answer s party name =
    let a = a_withdrawal s party name in
    record {
      the_one = (a.0, left s (withdraw party name));
      it_is = record { call = record { lifetimes = ([], tt); places = anywhere; learnt = (a.1, refl) } };
      no_other = λ x c i. (shelved_told_apart x.0 a.0 ((withdraw_says c).0 ∙ sym a.1) i, (withdraw_says c).1 i);
    }

pub fetch_has_one_answer : (s : List ℕ) → Bytes s → (party name : ℕ) → ExactlyOne (λ (x : List ℕ × ℕ × ℕ). FetchCalled s party name x.0 x.1 x.2)
fetch_has_one_answer s bytes party name =
    let a = told s (fetch party name) in
    let f = a_fetch s bytes party name (anywhere 0) in
    record {
      the_one = (a.part, a.number, a.place);
      it_is = record { answer = f.0; is_told = f.1; call = record { lifetimes = ([], tt); places = anywhere; learnt = (f.1, f.2) } };
      no_other = λ x c i. (fetch_part c i, fetch_number c i, fetch_place c i);
    }

module _ {s : List ℕ} {party name : ℕ} where
  -- "Refusals: 18 PARTY above 1; 19 SHELF ..; an install then 1 to 8, 20 TAKEN .., 21 QUOTA; a fetch 22 ABSENT": the number given back is that of the
  -- first test in this order that applies (`specs/Shelves` has each test on its own, and the lists), and 0 where none does.
  pub install_gives_the_first : Bytes s → {b s' : List ℕ} {r : Result (Unit {0}) Refused} → InstallCalled s party name b r s' → First (install_tests s party name b) (number_in (shelved_values r))
  unfolding shelved_owed
  install_gives_the_first bytes {b} c = subst (First (install_tests s party name b)) (sym (ap number_in (install_says c).0)) (install_first s bytes party name b)

  pub fetch_gives_the_first : Bytes s → {part : List ℕ} {k p : ℕ} → FetchCalled s party name part k p → First (fetch_tests s party name) k
  fetch_gives_the_first bytes c = subst (First (fetch_tests s party name)) (sym (fetch_number c)) (fetch_first s bytes party name)

  pub withdraw_gives_the_first : Bytes s → {s' : List ℕ} {r : Result (Unit {0}) Refused} → WithdrawCalled s party name r s' → First (withdraw_tests s party name) (number_in (shelved_values r))
  unfolding shelved_owed
  withdraw_gives_the_first bytes c = subst (First (withdraw_tests s party name)) (sym (ap number_in (withdraw_says c).0)) (withdraw_first s bytes party name)

  -- The place of 1 to 8 is where the block is turned down; every other is 0.
  pub install_gives_its_place : {b s' : List ℕ} {r : Result (Unit {0}) Refused} → InstallCalled s party name b r s' → PlacedInBlock b (number_in (shelved_values r)) (place_in (shelved_values r))
  unfolding shelved_owed
  install_gives_its_place {b} c = subst (λ (l : List ℕ). PlacedInBlock b (number_in l) (place_in l)) (sym (install_says c).0) (install_placed s party name b)

  pub fetch_gives_its_place : {part : List ℕ} {k p : ℕ} → FetchCalled s party name part k p → p ≡ 0
  fetch_gives_its_place c = fetch_place c ∙ told_on_a_shelf.fetch_place s party name

  pub withdraw_gives_its_place : {s' : List ℕ} {r : Result (Unit {0}) Refused} → WithdrawCalled s party name r s' → place_in (shelved_values r) ≡ 0
  unfolding shelved_owed
  withdraw_gives_its_place c = ap place_in (withdraw_says c).0 ∙ withdraw_place s party name

  -- "A refusal leaves all lent bytes, a refused part is empty." (A fetch has the shelf lent for reading alone.)
  pub a_refused_install_changes_nothing : {b s' : List ℕ} {r : Result (Unit {0}) Refused} → InstallCalled s party name b r s' → number_in (shelved_values r) ≢ 0 → s' ≡ s
  unfolding shelved_owed
  a_refused_install_changes_nothing {b} c h = (install_says c).1 ∙ refused_leaves s (install party name b) (λ z. h (ap number_in (install_says c).0 ∙ z))

  pub a_refused_withdrawal_changes_nothing : {s' : List ℕ} {r : Result (Unit {0}) Refused} → WithdrawCalled s party name r s' → number_in (shelved_values r) ≢ 0 → s' ≡ s
  unfolding shelved_owed
  a_refused_withdrawal_changes_nothing c h = (withdraw_says c).1 ∙ refused_leaves s (withdraw party name) (λ z. h (ap number_in (withdraw_says c).0 ∙ z))

  pub a_refused_fetch_is_empty : {part : List ℕ} {k p : ℕ} → FetchCalled s party name part k p → k ≢ 0 → part ≡ []
  a_refused_fetch_is_empty c h = fetch_part c ∙ refused_empty s party name (λ z. h (fetch_number c ∙ z))

-- "What one party is told, in answers and refusals, depends only on its own installs and fetches" (and withdrawals). "That rule speaks of a shelf begun empty and changed
-- only by these calls." In two histories with the same calls of one party, whatever the other's are, it is told the same.
pub what_a_party_is_told_depends_on_its_own_calls : (p : ℕ) {h h' : List Call} {rs rs' : List ShelfAnswer} {s s' : List ℕ} → ShelfCalls empty_shelf h rs s
    → ShelfCalls empty_shelf h' rs' s' → own_calls p h ≡ own_calls p h' → told_party p h rs ≡ told_party p h' rs'
what_a_party_is_told_depends_on_its_own_calls p {h} {h'} c c' e =
    let w = calls_are p c in
    let w' = calls_are p c' in
    w.their_answers ∙ only_its_own_calls p h h' w.their_names w'.their_names e ∙ sym w'.their_answers

-- "The bytes in use always equal the sum, over the history, of entries installed and not withdrawn. Entries of both parties keep their content and
-- order": after every history the shelf is that of the entries installed and not withdrawn, in the order of their installs.
module _ {h : List Call} {rs : List ShelfAnswer} {s : List ℕ} (c : ShelfCalls empty_shelf h rs s) where
  pub the_shelf_holds_what_was_installed_and_not_withdrawn : ShelfOf s (kept (heard h rs))
  the_shelf_holds_what_was_installed_and_not_withdrawn =
      let w = calls_are 0 c in
      let k = conservation h w.their_names in
      subst (λ (xs : List Said). ShelfOf s (kept xs)) (sym w.all_heard) (record { legal = k.legal; bytes = w.their_shelf ∙ k.bytes })

  pub the_bytes_in_use_are_their_sum : used (entries s) ≡ in_use (kept (heard h rs))
  the_bytes_in_use_are_their_sum =
      let w = calls_are 0 c in
      ap (λ (x : List ℕ). used (entries x)) w.their_shelf ∙ bytes_in_use h w.their_names ∙ ap (λ (xs : List Said). in_use (kept xs)) (sym w.all_heard)

  -- No further call is told 19.
  pub shelf_is_never_told : {d : Call} {a : ShelfAnswer} {s' : List ℕ} → ShelfCalled s d a s' → a.number ≢ SHELF
  shelf_is_never_told {d} k e =
      let w = calls_are 0 c in
      never_shelf h d w.their_names (ap (λ (x : List ℕ). (told x d).number) (sym w.their_shelf) ∙ sym (ap (λ (x : ShelfAnswer). x.number) (last_is k)) ∙ e)

  -- "An install is refused for 21 and for no other lack of room": a good block under a free name goes in wherever the party's own quota is kept, and
  -- 21 is told only where it is not.
  module _ {party name : ℕ} {b s' : List ℕ} {r : Result (Unit {0}) Refused} (small : name < 65536) (k : InstallCalled s party name b r s') where
    told_there : answer_of r ≡ told (shelf_of (kept (heard h rs))) (install party name b)
    told_there = last_is (installs small k) ∙ ap (λ (x : List ℕ). told x (install party name b)) the_shelf_holds_what_was_installed_and_not_withdrawn.bytes

    pub within_its_quota_it_goes_in : Accepted (own party (kept (heard h rs))) party name b → answer_of r ≡ done
    within_its_quota_it_goes_in a = told_there ∙ (no_other_lack (kept (heard h rs)) party name b the_shelf_holds_what_was_installed_and_not_withdrawn.legal small a).0

    pub quota_is_told_for_its_quota_alone : (answer_of r).number ≡ QUOTA → 32768 < in_use (own party (kept (heard h rs))) + size (entry party name b)
    quota_is_told_for_its_quota_alone e =
        let there = kept (heard h rs) in
        quota_told (own party there) party name b
        (sym (ap (λ (x : ShelfAnswer). x.number) (told_there ∙ told_shelf there the_shelf_holds_what_was_installed_and_not_withdrawn.legal (install party name b))) ∙ e)
