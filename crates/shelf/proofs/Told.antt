-- What holds of every answer on a shelf, whatever bytes it has: an answer is that of one of the tests, so that a sentence about answers is shown
-- for each test alone. Numbers are small, a refusal hands nothing back and leaves every byte, and no fetched block is longer than a block may
-- be. Assumes nothing.
use mathlib.Core.Path.{◌≡◌, refl, sym, ap, ◌∙◌, subst}
use mathlib.Core.Bool.{Bool, true, false, cond}
use mathlib.Core.List.{List, [], ◌∷◌, ◌++◌}
use mathlib.Core.Option.{Option, none, some}
use Prim.Native.Nat.{ℕ, ◌+◌, ◌-◌, ◌≤◌}
use native.Mathlib.Omega.{arith}
use lib.Dec.{T, lit≤, eqb, ltb}
use lib.ListN.{length, take, drop, replicate}
use lib.Seq.{take-append_seam, drop-append_seam}
use borrow.Author.Tests.{ne_eqb, ltb-true, ltb-false}
use Rattle.refusals.specs.Refusals.{number}
use Rattle.refusals.specs.declared.Why.TheVariants as Why
use Rattle.refusals.proofs.Laws.{number_above}
use Rattle.block.specs.Format.{Reading, good, turned_down, reading}
use Rattle.block.proofs.GoodReadings.{numbers}
use Rattle.records.specs.Numerals.{Bytes, field}
use Rattle.shelf.specs.Entries.{SHELF_SIZE, QUOTA_SIZE, Entry, size, laid_out, in_use, shelf_of, own, taken, find, all_fit, Legal, zeros, entries}
use Rattle.shelf.specs.Calls.{PARTY, SHELF, TAKEN, QUOTA, ABSENT, Call, install, fetch, withdraw, party_of, ShelfAnswer, refused, done, entry, installed}
use Rattle.shelf.specs.Calls.{fetched, withdrawn, told_by, told_on, told, put, left}
use Rattle.shelf.specs.Places.{offset, OnShelf}
use Rattle.shelf.proofs.Lists.{length_laid}
use Rattle.shelf.proofs.Legality.{good_size, fit_right, fit_first, whole, shelf_length}
use Rattle.shelf.proofs.ReadBack.{zeros_all, read_back}
use Rattle.shelf.proofs.OnlyShelf.{only_shelf}
use Rattle.shelf.proofs.Stored.{third_party, no_shelf_told}
use Rattle.shelf.proofs.Fetched.{Standing, nowhere, behind, standing, LiesOn, empty_lies, no_fetch, part_lies}

abbrev found : Entry → ShelfAnswer
found e = record { number = 0; place = 0; part = e.block }

module _ (P : ShelfAnswer → Type 0) (s : List ℕ) (party : P (refused PARTY 0)) (no_shelf : P (refused SHELF 0)) where
  by_tests : (c : Call) → ((es : List Entry) → entries s ≡ some es → P (told_by (own (party_of c) es) c)) → P (told s c)
  unfolding told told_on
  by_tests c f = go (ltb 1 (party_of c)) (entries s) refl
    where
      go : (z : Bool) (o : Option (List Entry)) → entries s ≡ o → P (cond z (refused PARTY 0) (told_on o c))
      go true o q = party
      go false none q = no_shelf
      go false (some es) q = f es q

  -- An install gets 18, 19, one of 1 to 8, 20, 21, or is done.
  pub install_answers : (p n : ℕ) (b : List ℕ) → ((k at : ℕ) → reading b ≡ turned_down k at → P (refused k at)) → P (refused TAKEN 0) → P (refused QUOTA 0) → P done
      → P (told s (install p n b))
  unfolding told_by installed
  install_answers p n b of_block taken_so over so = by_tests (install p n b) (λ es q. go (own p es) (reading b) refl)
    where
      go : (mine : List Entry) (r : Reading) → reading b ≡ r → P (installed r mine n (size (entry p n b)))
      go mine (turned_down k at) q = of_block k at q
      go mine (good g) q = two (taken n mine) (ltb QUOTA_SIZE (in_use mine + size (entry p n b)))
        where
          two : (x y : Bool) → P (cond x (refused TAKEN 0) (cond y (refused QUOTA 0) done))
          two true y = taken_so
          two false true = over
          two false false = so

  -- A fetch gets 18, 19, 22, or the block of an entry on the shelf.
  pub fetch_answers : (p n : ℕ) → P (refused ABSENT 0) → ((es : List Entry) (e : Entry) → entries s ≡ some es → find n (own p es) ≡ some e → P (found e)) → P (told s (fetch p n))
  unfolding told_by fetched
  fetch_answers p n absent there = by_tests (fetch p n) (λ es q. go es q (find n (own p es)) refl)
    where
      go : (es : List Entry) → entries s ≡ some es → (o : Option Entry) → find n (own p es) ≡ o → P (fetched o)
      go es q none d = absent
      go es q (some e) d = there es e q d

  -- A withdrawal gets 18, 19, 22, or is done.
  pub withdraw_answers : (p n : ℕ) → P (refused ABSENT 0) → P done → P (told s (withdraw p n))
  unfolding told_by withdrawn
  withdraw_answers p n absent so = by_tests (withdraw p n) (λ es q. go (find n (own p es)))
    where
      go : (o : Option Entry) → P (withdrawn o)
      go none = absent
      go (some e) = so

module _ (s : List ℕ) where
  -- Numbers are small.
  pub install_small : (p n : ℕ) (b : List ℕ) → (told s (install p n b)).number ≤ 63
  install_small p n b =
      install_answers (λ a. a.number ≤ 63) s (lit≤ tt) (lit≤ tt) p n b (λ k at q. let h : k ≤ 8 = (numbers b k at q).1 in omega arith) (lit≤ tt) (lit≤ tt) (lit≤ tt)

  pub fetch_small : (p n : ℕ) → (told s (fetch p n)).number ≤ 63
  fetch_small p n = fetch_answers (λ a. a.number ≤ 63) s (lit≤ tt) (lit≤ tt) p n (lit≤ tt) (λ es e q d. lit≤ tt)

  pub withdraw_small : (p n : ℕ) → (told s (withdraw p n)).number ≤ 63
  withdraw_small p n = withdraw_answers (λ a. a.number ≤ 63) s (lit≤ tt) (lit≤ tt) p n (lit≤ tt) (lit≤ tt)

  -- An install and a withdrawal hand nothing back, nor does a refused fetch.
  pub install_empty : (p n : ℕ) (b : List ℕ) → (told s (install p n b)).part ≡ []
  install_empty p n b = install_answers (λ a. a.part ≡ []) s refl refl p n b (λ k at q. refl) refl refl refl

  pub withdraw_empty : (p n : ℕ) → (told s (withdraw p n)).part ≡ []
  withdraw_empty p n = withdraw_answers (λ a. a.part ≡ []) s refl refl p n refl refl

  pub refused_empty : (p n : ℕ) → ((told s (fetch p n)).number ≡ 0 → ⊥) → (told s (fetch p n)).part ≡ []
  refused_empty p n = fetch_answers (λ a. (a.number ≡ 0 → ⊥) → a.part ≡ []) s (λ f. refl) (λ f. refl) p n (λ f. refl) (λ es e q d f. absurd (f refl))

  -- The place of a fetch and of a withdrawal is 0.
  pub withdraw_place : (p n : ℕ) → (told s (withdraw p n)).place ≡ 0
  withdraw_place p n = withdraw_answers (λ a. a.place ≡ 0) s refl refl p n refl refl

  pub fetch_place : (p n : ℕ) → (told s (fetch p n)).place ≡ 0
  fetch_place p n = fetch_answers (λ a. a.place ≡ 0) s refl refl p n refl (λ es e q d. refl)

  -- A refusal leaves every byte, and so does a fetch.
  pub refused_leaves : (c : Call) → ((told s c).number ≡ 0 → ⊥) → left s c ≡ s
  unfolding left
  refused_leaves c f = ap (λ (z : Bool). cond z (put (entries s) s c) s) (ne_eqb (told s c).number 0 f)

  pub fetch_leaves : (p n : ℕ) → left s (fetch p n) ≡ s
  unfolding left put
  fetch_leaves p n = go (eqb (told s (fetch p n)).number 0) (entries s)
    where
      go : (z : Bool) (o : Option (List Entry)) → cond z (put o s (fetch p n)) s ≡ s
      go true none = refl
      go true (some es) = refl
      go false o = refl

  -- A fetched block is a good one, of at most 3,086 bytes.
  pub fetched_size : Bytes s → (p n : ℕ) → length (told s (fetch p n)).part ≤ 3086
  fetched_size bytes p n =
      fetch_answers (λ a. length a.part ≤ 3086) s (lit≤ tt) (lit≤ tt) p n (lit≤ tt) (λ es e q d. go es (only_shelf s bytes q).1 e d (standing p n es))
    where
      go : (es : List Entry) → Legal es → (e : Entry) → find n (own p es) ≡ some e → Standing p n es → length e.block ≤ 3086
      go es l e d (nowhere q u) = let z : ◌≡◌ {A = ℕ} 0 1 = cc in absurd (omega arith)
      go es l e d (behind a x r q o u i j) =
          let f = fit_first a x r (fit_right [] a (x ∷ r) (subst (λ (t : List Entry). T (all_fit [] t)) q l.each_fits)) in
          let same : x ≡ e = cc in
          subst (λ (y : Entry). length y.block ≤ 3086) same (good_size x.block f.its_block)

-- A fetched part lies on the shelf, where it is found.
on_its_shelf : (es : List Entry) → Legal es → OnShelf (shelf_of es) (in_use es) es
unfolding shelf_of
on_its_shelf es l =
    let z = replicate {A = ℕ} (SHELF_SIZE - in_use es) 0 in
    let k : in_use es ≤ length (shelf_of es) = omega (arith, whole es l, shelf_length es l) in
    record {
      laid = record { legal = l; within = k; bytes = ap (λ (m : ℕ). take m (laid_out es ++ z)) (sym (length_laid es)) ∙ take-append_seam (laid_out es) z };
      all_bytes = shelf_length es l;
      behind = ap zeros (ap (λ (m : ℕ). drop m (laid_out es ++ z)) (sym (length_laid es)) ∙ drop-append_seam (laid_out es) z) ∙ zeros_all (SHELF_SIZE - in_use es);
      read = read_back es l;
    }

module _ (s : List ℕ) (p n : ℕ) where
  lies_on : p ≤ 1 → (es : List Entry) → OnShelf s (in_use es) es → (z : Bool) → ltb (offset p n es) (in_use es) ≡ z → LiesOn s p n
  unfolding number
  lies_on l es o true d =
      part_lies {own = record { at = offset p n es; size = field s (offset p n es) 2; end = in_use es }}
      (record { its_party = l; all = es; on_shelf = o; stands = refl; is_there = ltb-true (offset p n es) (in_use es) d; its_size = refl })
  lies_on l es o false d = empty_lies s p n ABSENT (no_fetch o p n l (ltb-false (offset p n es) (in_use es) d)) (number_above Why.Absent)

  lies_in : Bytes s → p ≤ 1 → (o : Option (List Entry)) → entries s ≡ o → LiesOn s p n
  unfolding number
  lies_in bytes l none q = empty_lies s p n SHELF (no_shelf_told s (fetch p n) l q) (number_above Why.Shelf)
  lies_in bytes l (some es) q =
      let w = only_shelf s bytes q in
      lies_on l es (subst (λ (t : List ℕ). OnShelf t (in_use es) es) (sym w.0) (on_its_shelf es w.1)) (ltb (offset p n es) (in_use es)) refl

  pub fetched_lies : Bytes s → LiesOn s p n
  unfolding number
  fetched_lies bytes = go (ltb 1 p) refl
    where
      go : (z : Bool) → ltb 1 p ≡ z → LiesOn s p n
      go true q = empty_lies s p n PARTY (third_party s (fetch p n) (ltb-true 1 p q)) (number_above Why.Party)
      go false q = lies_in bytes (ltb-false 1 p q) (entries s) refl
