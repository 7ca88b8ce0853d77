-- An install: the stores of an entry's numbers and bytes make the entry, and the entry behind the last one makes the shelf of one entry more,
-- since nothing but zeros lay there. A lemma for each way through the code. Assumes nothing.
use mathlib.Core.Path.{◌≡◌, sym, ap, ap₂, ◌∙◌, subst}
use mathlib.Core.Bool.{Bool, true, false, cond}
use mathlib.Core.List.{List, [], ◌∷◌, ◌++◌, append-nil, append_assoc}
use mathlib.Core.Option.{Option, none}
use Rattle.std.specs.Prelude.{Option as Found, Some, None, Result, Ok, Err, IsErr, is_some, ok_or}
use Prim.Native.Nat.{ℕ, zero, suc, ◌+◌, ◌-◌, ◌≤◌, ◌<◌}
use native.Mathlib.Nat.{le_of_eq}
use native.Mathlib.Omega.{arith}
use lib.Dec.{T, eqb, ltb}
use lib.ListN.{length, take, drop, replicate, length-drop, drop_of_length-le}
use lib.Seq.{sets, take_all}
use borrow.Author.Tests.{ne_eqb, lt-ltb, le-ltb}
use Rattle.std.specs.Result.{IsErrAnd}
use Rattle.refusals.specs.Refusals.{number}
use Rattle.refusals.specs.declared.Why.{Why}
use Rattle.refusals.specs.declared.Refused.{Refused}
use Rattle.refusals.proofs.Laws.{number_above}
use Rattle.tables.specs.declared.Table.{Table}
use Rattle.block.specs.Format.{Good, Reading, good, turned_down, reading}
use Rattle.block.specs.Told.{ReadWhole}
use Rattle.block.specs.declared.whole.Summary.{Summary}
use Rattle.block.proofs.Answered.{was_good, was_turned_down}
use Rattle.records.specs.Numerals.{in_bytes}
use Rattle.records.proofs.Bytes.{sets_front}
use Rattle.shelf.specs.Entries.{SHELF_SIZE, QUOTA_SIZE, Entry, size, entry_bytes, laid_out, in_use, shelf_of, own, taken, is_good, entries}
use Rattle.shelf.specs.Calls.{PARTY, SHELF, Call, install, party_of, ShelfAnswer, refused, done, entry, installed, told_by, told_on, told, after, put, left}
use Rattle.shelf.specs.Places.{offset, StandsAt, OnShelf, Walks}
use Rattle.shelf.specs.Answered.{shelved_values, shelved_owed, TurnedDown, Entered}
use Rattle.shelf.proofs.Lists.{laid_append, in_use_append, length_entry}
use Rattle.shelf.proofs.Legality.{Fitting, has_room}
use Rattle.shelf.proofs.OnlyShelf.{zeros_only}
use Rattle.shelf.proofs.Passing.{end_is, is_there, is_nowhere}
use Rattle.shelf.proofs.Walking.{taken_is}

-- The entry's four numbers and its block.
pub entry_stored : (s : List ℕ) (e : Entry) {k : ℕ} {s1 s2 s3 s4 s5 : List ℕ} → k ≡ size e → s1 ≡ sets s 0 (in_bytes 2 k) → s2 ≡ sets s1 2 (in_bytes 2 5)
    → s3 ≡ sets s2 4 (in_bytes 2 e.party) → s4 ≡ sets s3 6 (in_bytes 2 e.name) → s5 ≡ sets s4 8 e.block → s5 ≡ sets s 0 (entry_bytes e)
unfolding entry_bytes in_bytes
entry_stored s e q e1 e2 e3 e4 e5 =
    e5 ∙ ap (λ (x : List ℕ). sets x 8 e.block)
    (e4 ∙ ap (λ (x : List ℕ). sets x 6 (in_bytes 2 e.name))
    (e3 ∙ ap (λ (x : List ℕ). sets x 4 (in_bytes 2 e.party))
    (e2 ∙ ap (λ (x : List ℕ). sets x 2 (in_bytes 2 5)) (e1 ∙ ap (λ (n : ℕ). sets s 0 (in_bytes 2 n)) q))))

pub fewer_zeros : (n k : ℕ) → drop k (replicate {A = ℕ} n 0) ≡ replicate (n - k) 0
fewer_zeros n zero = let e : n ≡ n - 0 = omega arith in ap (λ (m : ℕ). replicate {A = ℕ} m 0) e
fewer_zeros zero (suc k) = let e : 0 ≡ 0 - suc k = omega arith in ap (λ (m : ℕ). replicate {A = ℕ} m 0) e
fewer_zeros (suc n) (suc k) = let e : n - k ≡ suc n - suc k = omega arith in fewer_zeros n k ∙ ap (λ (m : ℕ). replicate {A = ℕ} m 0) e

module _ {s : List ℕ} {end : ℕ} {es : List Entry} (o : OnShelf s end es) where
  abbrev its_end : end ≡ in_use es
  its_end = end_is s end es o.laid

  pub behind_it : drop end s ≡ replicate (65536 - end) 0
  behind_it =
      let n : length (drop end s) ≡ 65536 - end = length-drop end s ∙ ap (λ (k : ℕ). k - end) o.all_bytes in
      zeros_only (drop end s) o.behind ∙ ap (λ (k : ℕ). replicate {A = ℕ} k 0) n

  -- The part from the end on is lent and put back.
  pub entry_put : (e : Entry) → Fitting es e → {part : List ℕ} → part ≡ sets (take (length s - end) (drop end s)) 0 (entry_bytes e)
      → take end s ++ (part ++ drop (length s - end) (drop end s)) ≡ shelf_of (es ++ (e ∷ []))
  unfolding shelf_of laid_out in_use
  entry_put e f {part} q =
      let all : length (drop end s) ≤ length s - end = le_of_eq (length-drop end s) in
      let room : in_use es + size e ≤ 65536 = has_room es e o.laid.legal f in
      let fit : length (entry_bytes e) ≤ length (drop end s) = omega (arith, length_entry e, length-drop end s, o.all_bytes, its_end) in
      let left_over : 65536 - end - size e ≡ SHELF_SIZE - in_use (es ++ (e ∷ [])) = omega (arith, its_end, in_use_append es (e ∷ [])) in
      let p : part ≡ entry_bytes e ++ replicate (SHELF_SIZE - in_use (es ++ (e ∷ []))) 0 =
      q ∙ ap (λ (x : List ℕ). sets x 0 (entry_bytes e)) (take_all (length s - end) (drop end s) all) ∙ sets_front (entry_bytes e) (drop end s) fit
      ∙ ap₂ (λ (k : ℕ) (x : List ℕ). entry_bytes e ++ drop k x) (length_entry e) behind_it
      ∙ ap (λ (x : List ℕ). entry_bytes e ++ x) (fewer_zeros (65536 - end) (size e) ∙ ap (λ (k : ℕ). replicate {A = ℕ} k 0) left_over) in
      ap₂ (λ (x y : List ℕ). x ++ (part ++ y)) o.laid.bytes (drop_of_length-le (drop end s) all)
      ∙ ap (λ (x : List ℕ). laid_out es ++ x) (append-nil part ∙ p)
      ∙ sym (append_assoc (laid_out es) (entry_bytes e) (replicate (SHELF_SIZE - in_use (es ++ (e ∷ []))) 0))
      ∙ ap (λ (x : List ℕ). x ++ replicate (SHELF_SIZE - in_use (es ++ (e ∷ []))) 0) (ap (λ (x : List ℕ). laid_out es ++ x) (sym (append-nil (entry_bytes e))) ∙ sym (laid_append es (e ∷ [])))

-- A refusal leaves every byte.
pub left_refused : (s : List ℕ) (c : Call) {k at : ℕ} → told s c ≡ refused k at → (k ≡ 0 → ⊥) → s ≡ left s c
unfolding left
left_refused s c {k} {at} t f = sym (ap (λ (a : ShelfAnswer). cond (eqb a.number 0) (put (entries s) s c) s) t ∙ simp (ne_eqb k 0 f))

-- A refusal is passed on as it is.
pub passed_on : {T : Type 0} {e : Refused} (r : Result T Refused) → IsErr r × IsErrAnd r (λ f. f ≡ e) → r ≡ Err e
passed_on (Ok x) h = absurd h.1
passed_on (Err f) h = ap Err h.1

pub turned_down_so : {s : List ℕ} {c : Call} {e : Refused} {r : Result (Unit {0}) Refused} → r ≡ Err e → TurnedDown s c e → (shelved_values r ≡ shelved_owed (told s c)) × (s ≡ left s c)
unfolding shelved_values shelved_owed
turned_down_so {s} {c} {e} q t = (ap shelved_values q ∙ sym (ap shelved_owed t.told_so), left_refused s c t.told_so (number_above e.why))

-- One that is of no place in a block.
pub of_no_place : {s : List ℕ} {c : Call} {why : Why} {r : Refused} → r ≡ record { why = why; place = 0 } → told s c ≡ refused (number why) 0 → TurnedDown s c r
of_no_place {s} {c} e t = subst (TurnedDown s c) (sym e) (record { told_so = t })

-- PARTY and SHELF.
pub third_party : (s : List ℕ) (c : Call) → 1 < party_of c → told s c ≡ refused PARTY 0
unfolding told
third_party s c h = simp (lt-ltb 1 (party_of c) h)

pub no_shelf_told : (s : List ℕ) (c : Call) → party_of c ≤ 1 → entries s ≡ none → told s c ≡ refused SHELF 0
unfolding told told_on
no_shelf_told s c h e = ap (λ (t : Bool). cond t (refused PARTY 0) (told_on (entries s) c)) (le-ltb 1 (party_of c) h) ∙ ap (λ (x : Option (List Entry)). told_on x c) e

module _ {s : List ℕ} {p : ℕ} {r : Refused} where
  pub third_enters : 1 < p → r ≡ record { why = Why.Party; place = 0 } → Entered s p (Err r)
  unfolding number
  third_enters h e = record { its_shelf = tt; turned_down = λ c q. of_no_place e (third_party s c (omega (arith, q))) }

  pub enters : {w : Found ℕ} → p ≤ 1 → Walks s w → r ≡ record { why = Why.Shelf; place = 0 } → Entered s p (ok_or w r)
  unfolding number
  enters {w = Some end} h k e = record { its_shelf = (h, k); turned_down = tt }
  enters {w = None} h k e = record { its_shelf = tt; turned_down = λ c q. of_no_place e (no_shelf_told s c (omega (arith, q)) k.no_shelf) }

pub told_own : {s : List ℕ} {end : ℕ} {es : List Entry} → OnShelf s end es → (c : Call) → party_of c ≤ 1 → told s c ≡ told_by (own (party_of c) es) c
unfolding told told_on
told_own {s} o c h = ap (λ (t : Bool). cond t (refused PARTY 0) (told_on (entries s) c)) (le-ltb 1 (party_of c) h) ∙ ap (λ (x : Option (List Entry)). told_on x c) o.read

-- An install on a shelf.
module _ {s : List ℕ} {end : ℕ} {es : List Entry} (o : OnShelf s end es) (p n : ℕ) (b : List ℕ) (h : p ≤ 1) where
  abbrev c : Call
  c = install p n b

  told_is : told s c ≡ installed (reading b) (own p es) n (size (entry p n b))
  unfolding told_by
  told_is = told_own o c h

  pub block_refused : {k at : ℕ} → reading b ≡ turned_down k at → told s c ≡ refused k at
  unfolding installed
  block_refused e = told_is ∙ ap (λ (r : Reading). installed r (own p es) n (size (entry p n b))) e

  module _ {g : Good} (e : reading b ≡ good g) where
    good_told : told s c ≡ cond (taken n (own p es)) (refused 20 0) (cond (ltb QUOTA_SIZE (in_use (own p es) + size (entry p n b))) (refused 21 0) done)
    unfolding installed
    good_told = told_is ∙ ap (λ (r : Reading). installed r (own p es) n (size (entry p n b))) e

    pub name_taken : {r : Found ℕ} → StandsAt p n es r → is_some r ≡ true → told s c ≡ refused (number Why.Taken) 0
    unfolding number
    name_taken q l =
        let t : taken n (own p es) ≡ true = taken_is p n es ∙ lt-ltb (offset p n es) (in_use es) (is_there q l) in
        good_told ∙ ap (λ (x : Bool). cond x (refused 20 0) (cond (ltb QUOTA_SIZE (in_use (own p es) + size (entry p n b))) (refused 21 0) done)) t

    module _ {r : Found ℕ} (q : StandsAt p n es r) (l : is_some r ≡ false) where
      pub is_free : taken n (own p es) ≡ false
      is_free = taken_is p n es ∙ le-ltb (offset p n es) (in_use es) (is_nowhere q l)

      free_told : told s c ≡ cond (ltb QUOTA_SIZE (in_use (own p es) + size (entry p n b))) (refused 21 0) done
      free_told = good_told ∙ ap (λ (x : Bool). cond x (refused 20 0) (cond (ltb QUOTA_SIZE (in_use (own p es) + size (entry p n b))) (refused 21 0) done)) is_free

      pub over_quota : {m : ℕ} → m ≡ in_use (own p es) → 32768 < m + 8 + length b → told s c ≡ refused (number Why.Quota) 0
      unfolding number
      over_quota e k = free_told ∙ ap (λ (x : Bool). cond x (refused 21 0) done) (lt-ltb QUOTA_SIZE (in_use (own p es) + size (entry p n b)) (omega arith))

      module _ {m : ℕ} (i : m ≡ in_use (own p es)) (k : m + 8 + length b ≤ 32768) (small : n < 65536) where
        pub it_fits : Fitting es (entry p n b)
        unfolding is_good
        it_fits = record { its_party = h; its_name = small; not_taken = is_free; quota_kept = omega arith; its_block = subst (λ (r : Reading). T (is_good r)) (sym e) tt }

        pub is_done : told s c ≡ done
        is_done = free_told ∙ ap (λ (x : Bool). cond x (refused 21 0) done) (le-ltb QUOTA_SIZE (in_use (own p es) + size (entry p n b)) (omega arith))

        now_on : (shelved_values (Ok tt) ≡ shelved_owed (told s c)) × (shelf_of (es ++ (entry p n b ∷ [])) ≡ left s c)
        unfolding shelved_values shelved_owed left put after
        now_on = (
          sym (ap shelved_owed is_done),
          sym (ap (λ (a : ShelfAnswer). cond (eqb a.number 0) (put (entries s) s c) s) is_done ∙ ap (λ (x : Option (List Entry)). put x s c) o.read),
        )

        pub entry_on : {part : List ℕ} → part ≡ sets (take (length s - end) (drop end s)) 0 (entry_bytes (entry p n b))
            → (shelved_values (Ok tt) ≡ shelved_owed (told s c)) × (take end s ++ (part ++ drop (length s - end) (drop end s)) ≡ left s c)
        entry_on q = (now_on.0, entry_put o (entry p n b) it_fits q ∙ now_on.1)

        pub room_for : end + (8 + length b) ≤ length s
        room_for = omega (arith, has_room es (entry p n b) o.laid.legal it_fits, its_end o, o.all_bytes)

-- The check's answer, for an install.
module _ {x : Reading} {tab : Table} {a : Result Summary Refused} (w : ReadWhole x tab a) where
  pub found_good : {v : Summary} → a ≡ Ok v → (g : Good) × (x ≡ good g)
  found_good e = let r = was_good w e in (r.0, r.1)

pub block_turned_down : {s : List ℕ} {end : ℕ} {es : List Entry} → OnShelf s end es → (p n : ℕ) (b : List ℕ) → p ≤ 1
    → {tab : Table} {a : Result Summary Refused} → ReadWhole (reading b) tab a → {r : Refused} → a ≡ Err r → TurnedDown s (install p n b) r
block_turned_down o p n b h w e = record { told_so = block_refused o p n b h (was_turned_down b w e) }
