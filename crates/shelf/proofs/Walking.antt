-- The walk over a shelf: what each test of an entry says, and that the walk over the bytes goes as the reading does. A lemma for each way
-- through the code. Assumes nothing.
use mathlib.Core.Path.{◌≡◌, refl, sym, ap, ap₂, ◌∙◌}
use mathlib.Core.Bool.{Bool, true, false, cond, ◌&&◌}
use mathlib.Core.List.{List, [], ◌∷◌, ◌++◌, append-nil}
use mathlib.Core.Option.{none}
use Rattle.std.specs.Prelude.{Option, Some, None, is_some, Result, is_ok}
use Rattle.std.specs.Bool.{then_some}
use Rattle.std.specs.List.{list_all}
use Rattle.std.proofs.lemmas.List.Recursion.{same_from_clauses}
use Prim.Native.Nat.{ℕ, zero, suc, ◌+◌, ◌-◌, ◌≤◌, ◌<◌}
use native.Mathlib.Omega.{arith}
use lib.Dec.{eqb, ltb, ltb→lt, lt→ltb}
use lib.ListN.{length, take, drop, length-drop}
use lib.Seq.{length-take-le, drop-drop, take-add, take_at}
use borrow.Author.Tests.{eq-eqb, ne_eqb, lt-ltb, le-ltb, le-leb}
use Rattle.refusals.specs.declared.Refused.{Refused}
use Rattle.sets.proofs.Members.{is_true, is_false, of_true, same, and_left, and_right}
use Rattle.tables.specs.declared.Table.{Table}
use Rattle.block.specs.Format.{Reading, good, turned_down, reading}
use Rattle.block.specs.Told.{answer_to, ReadWhole}
use Rattle.block.specs.declared.whole.Summary.{Summary}
use Rattle.records.specs.Numerals.{Bytes, field}
use Rattle.shelf.specs.Entries.{SHELF_SIZE, Entry, size, entry_bytes, laid_out, in_use, those, own, taken, is_good, fits, zeros, entry_there, first_entry, walk, entries}
use Rattle.shelf.specs.Places.{LaidOut, offset, StandsAt, OnShelf, Walks}
use Rattle.shelf.proofs.Lists.{laid_append, length_entry}
use Rattle.shelf.proofs.Legality.{fitting, none_legal, legal_more}
use Rattle.shelf.proofs.ReadBack.{walk_zeros}
use Rattle.shelf.proofs.OnlyShelf.{There, there, entry_back, first_size, rest_bytes}
use Rattle.shelf.proofs.Passing.{field_behind, is_there as there_is, is_nowhere}

ltb_shift : (k m n : ℕ) → ltb m n ≡ ltb (k + m) (k + n)
ltb_shift k m n = same (ltb m n) (ltb (k + m) (k + n)) (λ t. let h = ltb→lt m n t in lt→ltb (k + m) (k + n) (omega arith)) (λ t. let h = ltb→lt (k + m) (k + n) t in lt→ltb m n (omega arith))

-- A party has a name exactly where its entry begins before the end.
pub taken_is : (p n : ℕ) (es : List Entry) → taken n (own p es) ≡ ltb (offset p n es) (in_use es)
unfolding taken those offset in_use
taken_is p n [] = refl
taken_is p n (e ∷ es) = go (eqb e.party p) (eqb e.name n) refl (taken_is p n es)
  where
    further : ltb (offset p n es) (in_use es) ≡ ltb (size e + offset p n es) (size e + in_use es)
    further = ltb_shift (size e) (offset p n es) (in_use es)

    go : (x y : Bool) → eqb e.name n ≡ y → taken n (own p es) ≡ ltb (offset p n es) (in_use es)
        → taken n (cond x (e ∷ own p es) (own p es)) ≡ ltb (cond (x && y) 0 (size e + offset p n es)) (size e + in_use es)
    go true true q ih = simp q (sym (lt-ltb 0 (size e + in_use es) (omega arith)))
    go true false q ih = simp q (ih ∙ further)
    go false y q ih = ih ∙ further

-- The entry of some bytes at a place.
abbrev placed : List ℕ → ℕ → ℕ → ℕ → ℕ → Entry
placed s at p n k = record { party = p; name = n; block = take (k - 8) (drop (at + 8) s) }

module _ (s : List ℕ) (at p n k : ℕ) (h : 8 ≤ k) (m : at + k ≤ length s) where
  placed_size : size (placed s at p n k) ≡ k
  placed_size = omega (arith, length-take-le (k - 8) (drop (at + 8) s) (omega (arith, length-drop (at + 8) s)))

  pub third_party : 1 < p → (es : List Entry) → LaidOut s at es → false ≡ fits es (placed s at p n k)
  third_party l es w = sym (is_false (fits es (placed s at p n k)) (λ t. absurd (omega (arith, (fitting es (placed s at p n k) t).its_party))))

  pub name_taken : {r : Option ℕ} → ((es : List Entry) → LaidOut s at es → StandsAt p n es r) → is_some r ≡ true → (es : List Entry) → LaidOut s at es → false ≡ fits es (placed s at p n k)
  name_taken f l es w =
      let t : taken n (own p es) ≡ true = taken_is p n es ∙ lt-ltb (offset p n es) (in_use es) (there_is (f es w) l) in
      sym (is_false (fits es (placed s at p n k)) (λ u. let z : true ≡ false = sym t ∙ (fitting es (placed s at p n k) u).not_taken in let y : ◌≡◌ {A = ℕ} 0 1 = cc in absurd (omega arith)))

  pub over_quota : {r : ℕ} → ((es : List Entry) → LaidOut s at es → r ≡ in_use (own p es)) → 32768 < r + k → (es : List Entry) → LaidOut s at es → false ≡ fits es (placed s at p n k)
  over_quota f l es w = sym (is_false (fits es (placed s at p n k)) (λ u. absurd (omega (arith, f es w, placed_size, (fitting es (placed s at p n k) u).quota_kept))))

  pub by_its_block : {r : Option ℕ} {q : ℕ} {b : Bool} → n < 65536 → p ≤ 1 → ((es : List Entry) → LaidOut s at es → StandsAt p n es r) → is_some r ≡ false
      → ((es : List Entry) → LaidOut s at es → q ≡ in_use (own p es)) → q + k ≤ 32768
      → b ≡ is_good (reading (take (at + k - (at + 8)) (drop (at + 8) s))) → (es : List Entry) → LaidOut s at es → b ≡ fits es (placed s at p n k)
  unfolding fits
  by_its_block {b = b} small party f far g within e es w =
      let d : at + k - (at + 8) ≡ k - 8 = omega arith in
      let c : b ≡ is_good (reading (take (k - 8) (drop (at + 8) s))) = e ∙ ap (λ (j : ℕ). is_good (reading (take j (drop (at + 8) s)))) d in
      let t : taken n (own p es) ≡ false = taken_is p n es ∙ le-ltb (offset p n es) (in_use es) (is_nowhere (f es w) far) in
      let i : in_use (own p es) + size (placed s at p n k) ≤ 32768 = omega (arith, g es w, placed_size) in
      c ∙ sym (simp (le-leb p 1 party, lt-ltb n 65536 small, t, le-leb (in_use (own p es) + size (placed s at p n k)) 32768 i))

-- The entry at a place of the whole bytes, and at the front of those from there on.
field_here : (s : List ℕ) (at n : ℕ) → field s at n ≡ field (drop at s) 0 n
unfolding field
field_here s at n = refl

module _ (s : List ℕ) (at : ℕ) where
  abbrev here : List ℕ
  here = drop at s

  abbrev Ends : Option ℕ → Type 0
  Ends r = (es : List Entry) → LaidOut s at es → r ≡ cond (entry_there here && fits es (first_entry here)) (Some (at + field s at 2)) None

  not_there : (There here → ⊥) → Ends None
  not_there f es w = sym (ap (λ (t : Bool). cond (t && fits es (first_entry here)) (Some (at + field s at 2)) None) (is_false (entry_there here) (λ t. f (there here t))))

  pub few_left : length s - at < 8 → Ends None
  few_left l = not_there (λ t. absurd (omega (arith, t.enough, t.within, length-drop at s)))

  module _ {k : ℕ} (e : k ≡ field s at 2) where
    its_field : field here 0 2 ≡ k
    its_field = sym (e ∙ field_here s at 2)

    pub too_short : k < 8 → Ends None
    too_short l = not_there (λ t. absurd (omega (arith, t.enough, its_field)))

    pub too_long : length s - at < k → Ends None
    too_long l = not_there (λ t. absurd (omega (arith, t.within, its_field, length-drop at s)))

    pub other_kind : {c : ℕ} → c ≡ field s (at + 2) 2 → (c ≡ 5 → ⊥) → Ends None
    other_kind q f = not_there (λ t. f (q ∙ field_behind s at 2 2 ∙ t.its_kind))

    module _ {c p n : ℕ} (l : 8 ≤ k) (m : k ≤ length s - at) (kind : c ≡ field s (at + 2) 2) (five : c ≡ 5) (party : p ≡ field s (at + 4) 2) (name : n ≡ field s (at + 6) 2) where
      is_there : entry_there here ≡ true
      unfolding entry_there
      is_there =
          let a : 8 ≤ field here 0 2 = omega (arith, its_field) in
          let b : field here 0 2 ≤ length here = omega (arith, its_field, length-drop at s) in
          simp (le-leb 8 (field here 0 2) a, le-leb (field here 0 2) (length here) b, eq-eqb (field here 2 2) 5 (sym (field_behind s at 2 2) ∙ sym kind ∙ five))

      is_placed : placed s at p n k ≡ first_entry here
      unfolding first_entry
      is_placed =
          let x : p ≡ field here 4 2 = party ∙ field_behind s at 4 2 in
          let y : n ≡ field here 6 2 = name ∙ field_behind s at 6 2 in
          let z : take (k - 8) (drop (at + 8) s) ≡ take (field here 0 2 - 8) (drop 8 here) = ap₂ (λ (j : ℕ) (b : List ℕ). take (j - 8) b) (sym its_field) (sym (drop-drop 8 at s)) in
          λ i. record { party = x i; name = y i; block = z i }

      pub ends_so : {b : Bool} → ((es : List Entry) → LaidOut s at es → b ≡ fits es (placed s at p n k)) → Ends (then_some b (at + k))
      ends_so {b} f es w =
          let u : b ≡ fits es (first_entry here) = f es w ∙ ap (fits es) is_placed in
          by_test b ∙ ap₂ (λ (t : Bool) (j : ℕ). cond t (Some (at + j)) None) u e
          ∙ sym (ap (λ (t : Bool). cond (t && fits es (first_entry here)) (Some (at + field s at 2)) None) is_there)
        where
          by_test : (t : Bool) → then_some t (at + k) ≡ cond t (Some (at + k)) None
          by_test true = refl
          by_test false = refl

-- The walk: the entries before a place, and that the reading goes on from there.
pub record Walking (s : List ℕ) (at : ℕ) : Type 0 where
  pub before : List Entry
  pub steps : ℕ
  pub laid : LaidOut s at before
  pub enough : length s ≤ at + steps
  pub same : walk (suc steps) before (drop at s) ≡ entries s

pub walking_begin : (s : List ℕ) → length s ≡ 65536 → Walking s 0
unfolding entries laid_out
walking_begin s l = record {
  before = [];
  steps = length s;
  laid = record { legal = none_legal; within = omega arith; bytes = refl };
  enough = omega arith;
  same = sym (simp (eq-eqb (length s) SHELF_SIZE l));
}

module _ {s : List ℕ} {at : ℕ} (w : Walking s at) where
  pub walking_end : length s ≡ 65536 → true ≡ zeros (drop at s) → (es : List Entry) × OnShelf s at es
  walking_end l z = (w.before, record { laid = w.laid; all_bytes = l; behind = sym z; read = sym w.same ∙ walk_zeros w.steps w.before (drop at s) (sym z) })

  module _ (z : false ≡ zeros (drop at s)) {r : Option ℕ} (f : (es : List Entry) → LaidOut s at es → r ≡ cond (entry_there (drop at s) && fits es (first_entry (drop at s))) (Some (at + field s at 2)) None) where
    abbrev bs : List ℕ
    bs = drop at s

    test : Bool
    test = entry_there bs && fits w.before (first_entry bs)

    one_step : walk (suc w.steps) w.before bs ≡ cond test (walk w.steps (w.before ++ (first_entry bs ∷ [])) (drop (field bs 0 2) bs)) none
    unfolding walk test
    one_step = simp (sym z)

    its_end : r ≡ cond test (Some (at + field s at 2)) None
    unfolding test
    its_end = f w.before w.laid

    -- No entry is there, or it may not stand there.
    pub walking_ends : r ≡ None → entries s ≡ none
    walking_ends q = sym w.same ∙ one_step ∙ go test its_end
      where
        go : (t : Bool) → r ≡ cond t (Some (at + field s at 2)) None → cond t (walk w.steps (w.before ++ (first_entry bs ∷ [])) (drop (field bs 0 2) bs)) none ≡ none
        go false e = refl
        go true e = let y : ◌≡◌ {A = ℕ} 0 1 = cc in absurd (omega arith)

    -- One more entry, up to the next place.
    module _ {next : ℕ} (moved : r ≡ Some next) where
      holds : (test ≡ true) × (next ≡ at + field s at 2)
      holds = go test refl
        where
          go : (t : Bool) → test ≡ t → (test ≡ true) × (next ≡ at + field s at 2)
          go true e = let i : r ≡ Some (at + field s at 2) = its_end ∙ ap (λ (b : Bool). cond b (Some (at + field s at 2)) None) e in (e, cc)
          go false e = let i : r ≡ None = its_end ∙ ap (λ (b : Bool). cond b (Some (at + field s at 2)) None) e in let y : ◌≡◌ {A = ℕ} 0 1 = cc in absurd (omega arith)

      its_there : There bs
      unfolding test
      its_there = there bs (and_left (entry_there bs) (fits w.before (first_entry bs)) (of_true holds.0))

      its_place : next ≡ at + field bs 0 2
      its_place = holds.1 ∙ ap (λ (n : ℕ). at + n) (field_here s at 2)

      pub forward : (at < next) × (next ≤ length s)
      forward = (omega (arith, its_place, its_there.enough), omega (arith, its_place, its_there.within, length-drop at s, its_there.enough))

      module _ (byte : Bytes s) where
        new : Entry
        new = first_entry bs

        taken_bytes : take next s ≡ laid_out (w.before ++ (new ∷ []))
        unfolding new laid_out
        taken_bytes =
            let t = its_there in
            let b = rest_bytes at s byte in
            let n : length (entry_bytes (first_entry bs)) ≡ field bs 0 2 = length_entry (first_entry bs) ∙ first_size bs b t in
            ap (λ (k : ℕ). take k s) its_place ∙ take-add at (field bs 0 2) s
            ∙ ap₂ (λ (x y : List ℕ). x ++ y) w.laid.bytes
            (ap (take (field bs 0 2)) (entry_back bs b t) ∙ take_at (entry_bytes (first_entry bs)) (drop (field bs 0 2) bs) (field bs 0 2) n
            ∙ sym (append-nil (entry_bytes (first_entry bs))))
            ∙ sym (laid_append w.before (first_entry bs ∷ []))

        all_fit : fits w.before new ≡ true
        unfolding test new
        all_fit = is_true (fits w.before (first_entry bs)) (and_right (entry_there bs) (fits w.before (first_entry bs)) (of_true holds.0))

        laid_further : LaidOut s next (w.before ++ (new ∷ []))
        laid_further = record {
          legal = legal_more w.before new w.laid.legal (fitting w.before new (of_true all_fit));
          within = forward.1;
          bytes = taken_bytes;
        }

        pub walking_more : Walking s next
        unfolding new
        walking_more = go w.steps refl
          where
            go : (k : ℕ) → w.steps ≡ k → Walking s next
            go zero q = absurd (omega (arith, w.enough, forward))
            go (suc k) q = record {
              before = w.before ++ (new ∷ []);
              steps = k;
              laid = laid_further;
              enough = omega (arith, w.enough, forward);
              same =
                  ap₂ (λ (j : ℕ) (l : List ℕ). walk j (w.before ++ (new ∷ [])) l) (sym q) (ap (λ (j : ℕ). drop j s) its_place ∙ sym (drop-drop (field bs 0 2) at s))
                  ∙ sym (ap (λ (t : Bool). cond t (walk w.steps (w.before ++ (first_entry bs ∷ [])) (drop (field bs 0 2) bs)) none) holds.0)
                  ∙ sym one_step ∙ w.same;
            }

-- The check of a block says whether it is good.
good_is_ok : (x : Reading) → is_ok (answer_to x) ≡ is_good x
unfolding is_good answer_to
good_is_ok (good g) = refl
good_is_ok (turned_down n place) = refl

pub says_good : {x : Reading} {tab : Table} {a : Result Summary Refused} → ReadWhole x tab a → is_ok a ≡ is_good x
says_good {x} w = ap is_ok w.answered ∙ good_is_ok x

-- Every byte is a zero.
pub all_zeros : (bs : List ℕ) → list_all (λ b. eqb b 0) bs ≡ zeros bs
unfolding zeros
all_zeros = same_from_clauses (list_all (λ b. eqb b 0)) zeros (λ b t. eqb b 0 && t) refl (λ b bs. refl) (λ b bs. refl)

-- What the walk says.
pub no_size : (s : List ℕ) → (length s ≡ 65536 → ⊥) → Walks s None
unfolding entries
no_size s f = record { its_entries = tt; no_shelf = simp (ne_eqb (length s) SHELF_SIZE f) }
