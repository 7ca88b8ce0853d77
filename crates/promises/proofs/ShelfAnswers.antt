-- What the definitions of the calls on a shelf come to: the first test that applies, an answer that says it, and over a history what each call is told
-- and leaves. By cases on the tests in their order, and by induction on the calls. Assumes nothing.
use mathlib.Core.Path.{◌≡◌, refl, sym, ap, ◌∙◌, subst}
use mathlib.Core.Logic.{inl, inr}
use mathlib.Core.Bool.{Bool, true, false, cond, ◌||◌}
use mathlib.Core.List.{List, [], ◌∷◌, ◌++◌}
use mathlib.Core.Option.{Option, none, some}
use Prim.Native.Nat.{ℕ, ◌+◌, ◌≤◌, ◌<◌}
use native.Mathlib.Omega.{arith}
use lib.Dec.{T, eqb, ltb}
use lib.ListN.{length, get_or, take, drop}
use borrow.Author.Tests.{ltb-true, ltb-false}
use Rattle.std.specs.Prelude.{Result, Ok, Err, IfOk}
use Rattle.std.specs.Borrow.{Bor}
use Rattle.records.specs.Parts.{LiesAt}
use Rattle.refusals.specs.Refusals.{number, why_of}
use Rattle.refusals.specs.declared.Why.{Why}
use Rattle.refusals.specs.declared.Refused.{Refused}
use Rattle.refusals.proofs.Laws.{numbers_differ, number_above}
use Rattle.sets.proofs.Members.{of_true, of_false}
use Rattle.block.specs.Format.{Reading, good, turned_down, reading}
use Rattle.block.proofs.GoodReadings.{numbers}
use Rattle.records.specs.Numerals.{Bytes}
use Rattle.shelf.specs.Entries.{QUOTA_SIZE, Entry, size, in_use, own, taken, find, entries}
use Rattle.shelf.specs.Calls.{PARTY, TAKEN, QUOTA, Call, install, fetch, withdraw, party_of, name_of, ShelfAnswer, refused, done, entry, installed}
use Rattle.shelf.specs.Calls.{fetched, withdrawn, told_by, told_on, told, left}
use Rattle.shelf.specs.Histories.{is_of, shelf_after, told_to, Named, said}
use Rattle.shelf.specs.Answered.{shelved_values, shelved_owed, fetched_as, lies_from}
use Rattle.shelf.proofs.ReadBack.{read_back}
use Rattle.shelf.proofs.OnlyShelf.{only_shelf, no_shelf}
use Rattle.shelf.proofs.Told.{install_answers, fetch_answers, withdraw_answers, install_empty, withdraw_empty, fetch_leaves, fetched_lies}
use Rattle.promises.specs.Calls.{Place, ◌holds◌}
use Rattle.promises.specs.Tests.{Test, First}
use Rattle.promises.specs.Demand1.{one_to_8, block_tests}
use Rattle.promises.specs.Shelves.{ShelfOf, NameTaken, OverQuota, NameAbsent, party_test, shelf_test, taken_test, quota_test, absent_test}
use Rattle.promises.specs.Shelves.{install_tests, fetch_tests, withdraw_tests, PlacedInBlock}
use Rattle.promises.specs.Shelves.{answer_of, ShelfCalled, installs, fetches, withdraws, ShelfCalls, no_call, one_more, told_party, heard}
use Rattle.promises.proofs.Learnt.{install_says, fetch_says, withdraw_says}
use Rattle.promises.proofs.Exists.{named_in_block}
use Rattle.promises.proofs.FirstRecord.{turned_down_decides}
use Rattle.promises.proofs.FirstRefusal.{past_block, of_the_block}

-- A shelf has one list of entries.
same_entries : (s : List ℕ) {es : List Entry} → entries s ≡ some es → (fs : List Entry) → ShelfOf s fs → es ≡ fs
same_entries s {es} q fs f = let d : some es ≡ some fs = sym q ∙ ap entries f.bytes ∙ read_back fs f.legal in cc

-- A name is there exactly where its entry is found.
is_some : Option Entry → Bool
is_some none = false
is_some (some e) = true

find_taken : (n : ℕ) (mine : List Entry) → taken n mine ≡ is_some (find n mine)
unfolding taken find is_some
find_taken n [] = refl
find_taken n (e ∷ es) = go (eqb e.name n) (find_taken n es)
  where
    go : (z : Bool) → taken n es ≡ is_some (find n es) → (z || taken n es) ≡ is_some (cond z (some e) (find n es))
    go true ih = refl
    go false ih = ih

-- The tests after 18 and 19, on the entries there.
abbrev late : List ℕ → ℕ → ℕ → List ℕ → List Test
late s p n b = taken_test s p n ∷ quota_test s p b ∷ []

module _ (s : List ℕ) (p n : ℕ) (es : List Entry) (q : entries s ≡ some es) (on : ShelfOf s es) where
  moved : (P : List Entry → Type 0) (fs : List Entry) → ShelfOf s fs → P fs → P es
  moved P fs f x = subst P (sym (same_entries s q fs f)) x

  free : taken n (own p es) ≡ false → NameTaken s p n → ⊥
  free d t = of_false {b = taken n (own p es)} d (moved (λ l. T (taken n (own p l))) t.there t.is_shelf t.has_name)

  kept : (b : List ℕ) → in_use (own p es) + size (entry p n b) ≤ QUOTA_SIZE → OverQuota s p b → ⊥
  kept b h t = let k : QUOTA_SIZE < in_use (own p es) + (8 + length b) = moved (λ l. QUOTA_SIZE < in_use (own p l) + (8 + length b)) t.there t.is_shelf t.over in omega arith

  there_is : taken n (own p es) ≡ true → NameAbsent s p n → ⊥
  there_is d t = moved (λ l. T (taken n (own p l)) → ⊥) t.there t.is_shelf t.no_name (of_true {b = taken n (own p es)} d)

  late_first : (b : List ℕ) (x y : Bool) → taken n (own p es) ≡ x → ltb QUOTA_SIZE (in_use (own p es) + size (entry p n b)) ≡ y
      → First (late s p n b) (cond x (refused TAKEN 0) (cond y (refused QUOTA 0) done)).number
  late_first b true y d e = inl (record { there = es; is_shelf = on; has_name = of_true {b = taken n (own p es)} d }, refl)
  late_first b false true d e = inr (free d, inl (record { there = es; is_shelf = on; over = ltb-true QUOTA_SIZE (in_use (own p es) + size (entry p n b)) e }, refl))
  late_first b false false d e = inr (free d, inr (kept b (ltb-false QUOTA_SIZE (in_use (own p es) + size (entry p n b)) e), refl))

  installed_first : (b : List ℕ) (r : Reading) → reading b ≡ r → First (block_tests b ++ late s p n b) (installed r (own p es) n (size (entry p n b))).number
  unfolding installed
  installed_first b (turned_down k at) e = of_the_block b k at e (late s p n b)
  installed_first b (good g) e = past_block b g e one_to_8 (late s p n b) _ (late_first b (taken n (own p es)) (ltb QUOTA_SIZE (in_use (own p es) + size (entry p n b))) refl refl)

  found_first : (o : Option Entry) → find n (own p es) ≡ o → First (absent_test s p n ∷ []) (fetched o).number
  unfolding fetched is_some
  found_first none e = inl (record { there = es; is_shelf = on; no_name = of_false {b = taken n (own p es)} (find_taken n (own p es) ∙ ap is_some e) }, refl)
  found_first (some x) e = inr (there_is (find_taken n (own p es) ∙ ap is_some e), refl)

  gone_first : (o : Option Entry) → find n (own p es) ≡ o → First (absent_test s p n ∷ []) (withdrawn o).number
  unfolding withdrawn is_some
  gone_first none e = inl (record { there = es; is_shelf = on; no_name = of_false {b = taken n (own p es)} (find_taken n (own p es) ∙ ap is_some e) }, refl)
  gone_first (some x) e = inr (there_is (find_taken n (own p es) ∙ ap is_some e), refl)

-- 18 and 19.
party_first : (p : ℕ) (ts : List Test) (a : ShelfAnswer) → First ts a.number → First (party_test p ∷ ts) (cond (ltb 1 p) (refused PARTY 0) a).number
party_first p ts a f = go (ltb 1 p) refl
  where
    go : (z : Bool) → ltb 1 p ≡ z → First (party_test p ∷ ts) (cond z (refused PARTY 0) a).number
    go true q = inl (ltb-true 1 p q, refl)
    go false q = let l : p ≤ 1 = ltb-false 1 p q in inr ((λ h. omega arith), f)

module _ (s : List ℕ) (bytes : Bytes s) (c : Call) (ts : List Test) where
  shelf_first : ((es : List Entry) → entries s ≡ some es → ShelfOf s es → First ts (told_by (own (party_of c) es) c).number)
      → First (shelf_test s ∷ ts) (told_on (entries s) c).number
  unfolding told_on
  shelf_first f = go (entries s) refl
    where
      go : (o : Option (List Entry)) → entries s ≡ o → First (shelf_test s ∷ ts) (told_on o c).number
      go none q = inl ((λ es w. no_shelf s q es w.legal w.bytes), refl)
      go (some es) q =
          let w = only_shelf s bytes q in
          let on : ShelfOf s es = record { legal = w.1; bytes = w.0 } in
          inr ((λ none_there. none_there es on), f es q on)

module _ (s : List ℕ) (bytes : Bytes s) (p n : ℕ) where
  pub install_first : (b : List ℕ) → First (install_tests s p n b) (told s (install p n b)).number
  unfolding told told_by
  install_first b =
      let last = block_tests b ++ late s p n b in
      party_first p (shelf_test s ∷ last) (told_on (entries s) (install p n b)) (shelf_first s bytes (install p n b) last (λ es q on. installed_first s p n es q on b (reading b) refl))

  pub fetch_first : First (fetch_tests s p n) (told s (fetch p n)).number
  unfolding told told_by
  fetch_first =
      party_first p (shelf_test s ∷ absent_test s p n ∷ []) (told_on (entries s) (fetch p n))
      (shelf_first s bytes (fetch p n) (absent_test s p n ∷ []) (λ es q on. found_first s p n es q on (find n (own p es)) refl))

  pub withdraw_first : First (withdraw_tests s p n) (told s (withdraw p n)).number
  unfolding told told_by
  withdraw_first =
      party_first p (shelf_test s ∷ absent_test s p n ∷ []) (told_on (entries s) (withdraw p n))
      (shelf_first s bytes (withdraw p n) (absent_test s p n ∷ []) (λ es q on. gone_first s p n es q on (find n (own p es)) refl))

-- The place of an install.
pub install_placed : (s : List ℕ) (p n : ℕ) (b : List ℕ) → PlacedInBlock b (told s (install p n b)).number (told s (install p n b)).place
install_placed s p n b =
    install_answers (λ a. PlacedInBlock b a.number a.place) s (later 18 (omega arith)) (later 19 (omega arith)) p n b of_block (later 20 (omega arith)) (later 21 (omega arith))
    (record { of_block = λ l h. absurd (omega arith); else_0 = λ f. refl })
  where
    later : (k : ℕ) → 8 < k → PlacedInBlock b k 0
    later k h = record { of_block = λ l m. absurd (omega arith); else_0 = λ f. refl }

    of_block : (k at : ℕ) → reading b ≡ turned_down k at → PlacedInBlock b k at
    of_block k at q = record { of_block = λ l m. turned_down_decides b k at q; else_0 = λ f. absurd (f (numbers b k at q).0 (numbers b k at q).1) }

-- There is an answer to every install and to every withdrawal, and no other.
nth : ℕ → List ℕ → ℕ
nth n l = get_or l n 0

pub shelved_told_apart : (x y : Result (Unit {0}) Refused) → shelved_values x ≡ shelved_values y → x ≡ y
unfolding shelved_values nth
shelved_told_apart (Ok _) (Ok _) e = refl
shelved_told_apart (Ok _) (Err r) e = absurd (number_above r.why (sym (ap (nth 0) e)))
shelved_told_apart (Err r) (Ok _) e = absurd (number_above r.why (ap (nth 0) e))
shelved_told_apart (Err v) (Err w) e = λ i. Err (record { why = numbers_differ v.why w.why (ap (nth 0) e) i; place = ap (nth 1) e i })

-- A refusal that is of no place in a block.
abbrev no_place : Why → Refused
no_place w = record { why = w; place = 0 }

pub an_install : (s : List ℕ) (p n : ℕ) (b : List ℕ) → (r : Result (Unit {0}) Refused) × (shelved_values r ≡ shelved_owed (told s (install p n b)))
unfolding shelved_values shelved_owed number
an_install s p n b =
    install_answers (λ a. (r : Result (Unit {0}) Refused) × (shelved_values r ≡ shelved_owed a)) s (Err (no_place Why.Party), refl) (Err (no_place Why.Shelf), refl) p n b
    (λ k at q. (Err (record { why = why_of k; place = at }), ap (λ (m : ℕ). m ∷ at ∷ []) (named_in_block b k at q))) (Err (no_place Why.Taken), refl) (Err (no_place Why.Quota), refl) (Ok tt, refl)

pub a_withdrawal : (s : List ℕ) (p n : ℕ) → (r : Result (Unit {0}) Refused) × (shelved_values r ≡ shelved_owed (told s (withdraw p n)))
unfolding shelved_values shelved_owed number
a_withdrawal s p n =
    withdraw_answers (λ a. (r : Result (Unit {0}) Refused) × (shelved_values r ≡ shelved_owed a)) s (Err (no_place Why.Party), refl) (Err (no_place Why.Shelf), refl) p n
    (Err (no_place Why.Absent), refl) (Ok tt, refl)

-- And to every fetch, whose part lies on the lent shelf.
module _ (s : List ℕ) (bytes : Bytes s) (p n : ℕ) (lent : Place) where
  abbrev Fetch : ShelfAnswer → Type 0
  Fetch a = (r : Result (Bor (List ℕ)) Refused) × (fetched_as r ≡ a) × IfOk r (λ x. LiesAt x (lent holds s) (lies_from s p n) (length x.now))

  pub a_fetch : Fetch (told s (fetch p n))
  unfolding fetched_as number
  a_fetch =
      let w = fetched_lies s p n bytes in
      fetch_answers (λ a. a ≡ told s (fetch p n) → Fetch a) s (λ q. (Err (no_place Why.Party), refl, tt)) (λ q. (Err (no_place Why.Shelf), refl, tt)) p n
      (λ q. (Err (no_place Why.Absent), refl, tt))
      (λ es e o d q.
      let part : e.block ≡ (told s (fetch p n)).part = ap (λ (a : ShelfAnswer). a.part) q in (
        Ok (record { ref_ptr = (lent.ptr.0, lent.ptr.1 + lies_from s p n); now = e.block }),
        refl,
        record {
          in_its_memory = refl;
          from_offset = refl;
          within = omega (arith, w.within, ap length part);
          its_bytes = part ∙ w.its_bytes ∙ ap (λ (x : List ℕ). take (length x) (drop (lies_from s p n) s)) (sym part);
        },
      ))
      refl

-- A call by its contract is told and leaves what the definitions say, and so is a history.
pub record CallIs (s : List ℕ) (c : Call) (a : ShelfAnswer) (s' : List ℕ) : Type 0 where
  pub its_answer : a ≡ told s c
  pub its_shelf : s' ≡ left s c
  pub its_name : name_of c < 65536

call_is : (s : List ℕ) {c : Call} {a : ShelfAnswer} {s' : List ℕ} → ShelfCalled s c a s' → CallIs s c a s'
unfolding answer_of shelved_owed nth
call_is s (installs {party = p} {name = n} {b = b} {r = r} l k) = record {
  its_answer = λ i. record { number = ap (nth 0) (install_says k).0 i; place = ap (nth 1) (install_says k).0 i; part = sym (install_empty s p n b) i };
  its_shelf = (install_says k).1;
  its_name = l;
}
call_is s (fetches {party = p} {name = n} l k) = record {
  its_answer = fetch_says k;
  its_shelf = sym (fetch_leaves s p n);
  its_name = l;
}
call_is s (withdraws {party = p} {name = n} {r = r} l k) = record {
  its_answer = λ i. record { number = ap (nth 0) (withdraw_says k).0 i; place = ap (nth 1) (withdraw_says k).0 i; part = sym (withdraw_empty s p n) i };
  its_shelf = (withdraw_says k).1;
  its_name = l;
}

pub record CallsAre (p : ℕ) (s : List ℕ) (h : List Call) (rs : List ShelfAnswer) (s' : List ℕ) : Type 0 where
  pub their_answers : told_party p h rs ≡ told_to p s h
  pub all_heard : heard h rs ≡ said s h
  pub their_shelf : s' ≡ shelf_after s h
  pub their_names : Named h

pub calls_are : (p : ℕ) {s s' : List ℕ} {h : List Call} {rs : List ShelfAnswer} → ShelfCalls s h rs s' → CallsAre p s h rs s'
unfolding told_party told_to heard said shelf_after Named
calls_are p no_call = record { their_answers = refl; all_heard = refl; their_shelf = refl; their_names = tt }
calls_are p (one_more {s = s} {c = c} {h = h} {a = a} {rs = rs} k t) =
    let w = call_is s k in
    let r = calls_are p t in
    let others : heard h rs ≡ said (left s c) h = r.all_heard ∙ ap (λ (x : List ℕ). said x h) w.its_shelf in
    let rest : told_party p h rs ≡ told_to p (left s c) h = r.their_answers ∙ ap (λ (x : List ℕ). told_to p x h) w.its_shelf in
    record {
      their_answers = λ i. cond (is_of p c) (w.its_answer i ∷ rest i) (rest i);
      all_heard = λ i. record { call = c; number = (w.its_answer i).number } ∷ others i;
      their_shelf = r.their_shelf ∙ ap (λ (x : List ℕ). shelf_after x h) w.its_shelf;
      their_names = (w.its_name, r.their_names);
    }

-- The last call of a history.
pub last_is : {s s' : List ℕ} {c : Call} {a : ShelfAnswer} → ShelfCalled s c a s' → a ≡ told s c
last_is {s} k = (call_is s k).its_answer
