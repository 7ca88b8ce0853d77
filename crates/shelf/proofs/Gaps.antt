-- A withdrawal: the bytes behind the entry are moved down byte by byte and zeros put behind them, and what is then there is the shelf of all
-- other entries, since no name stands twice. A lemma for each way through the code. Assumes nothing.
use mathlib.Core.Path.{◌≡◌, refl, sym, ap, ap₂, ◌∙◌, subst}
use mathlib.Core.Bool.{Bool, true, false, not, cond, ◌&&◌, ◌||◌}
use mathlib.Core.List.{List, [], ◌∷◌, ◌++◌, append_assoc}
use mathlib.Core.Option.{Option}
use Prim.Native.Nat.{ℕ, ◌+◌, ◌-◌, ◌≤◌}
use native.Mathlib.Omega.{arith}
use lib.Dec.{T, eqb}
use lib.ListN.{length, take, drop, replicate, length-drop, replicate-append-replicate}
use lib.Seq.{length-paste, length-take-le, drop-paste, take-paste, drop-drop, take_at, drop_at, take-take}
use borrow.Author.Tests.{eq-eqb, eqb-true}
use Rattle.std.specs.Prelude.{Ok}
use Rattle.std.specs.List.{copy_within}
use Rattle.shelf.specs.Entries.{SHELF_SIZE, Entry, size, entry_bytes, laid_out, in_use, shelf_of, those, own, is_named, taken, all_fit, entries}
use Rattle.shelf.specs.Calls.{Call, withdraw, ShelfAnswer, done, withdrawn, told_by, told, taken_out, after, put, left}
use Rattle.shelf.specs.Places.{OnShelf, closed}
use Rattle.shelf.specs.Answered.{shelved_values, shelved_owed, OwnEntry}
use Rattle.shelf.specs.declared.Own.{Own}
use Rattle.shelf.proofs.Lists.{those_append, in_use_append, laid_append, length_entry, length_laid}
use Rattle.shelf.proofs.Legality.{Fitting, fit_first, fit_rest, fit_right, own_mine}
use Rattle.shelf.proofs.Passing.{At, stands, end_is}
use Rattle.shelf.proofs.Stored.{behind_it, told_own}
use Rattle.shelf.proofs.Fetched.{Standing, nowhere, behind, standing}

-- The bytes behind the gap moved down, and zeros put behind them, make the gap closed.
module _ (s : List ℕ) (at gap end : ℕ) {t : List ℕ} (l : at + gap ≤ end) (m : end ≤ length s) (e : t ≡ copy_within s (at + gap) end at) where
  abbrev moved : List ℕ
  moved = drop (at + gap) s

  abbrev count : ℕ
  count = end - (at + gap)

  enough : count ≤ length moved
  enough = omega (arith, length-drop (at + gap) s)

  seam : end - gap ≡ at + count
  seam = omega arith

  front : take (end - gap) t ≡ take at s ++ take count moved
  front = ap₂ take seam e ∙ take-paste s at moved count (omega arith) enough

  back : drop (end - (end - gap)) (drop (end - gap) t) ≡ drop end s
  back =
      let j : at + count + gap ≡ end = omega arith in
      let k : end - (end - gap) ≡ gap = omega arith in
      ap₂ (λ (a b : ℕ). drop a (drop b t)) k seam
      ∙ ap (drop gap) (ap (drop (at + count)) e ∙ drop-paste s at moved count (omega arith) enough) ∙ drop-drop gap (at + count) s ∙ ap (λ (y : ℕ). drop y s) j

  -- So many zeros are put there.
  pub as_many : length (take (end - (end - gap)) (drop (end - gap) t)) ≡ gap
  as_many =
      let n : length t ≡ length s = ap length e ∙ length-paste s at moved count (omega arith) enough in
      length-take-le (end - (end - gap)) (drop (end - gap) t) (omega (arith, length-drop (end - gap) t, n)) ∙ omega arith

  pub gap_closed : {zeros : List ℕ} → zeros ≡ replicate (length (take (end - (end - gap)) (drop (end - gap) t))) 0
      → take (end - gap) t ++ (zeros ++ drop (end - (end - gap)) (drop (end - gap) t)) ≡ closed s at gap end
  unfolding closed
  gap_closed {zeros} z =
      ap₂ (λ (x y : List ℕ). x ++ (zeros ++ y)) front back ∙ ap (λ (x : List ℕ). take at s ++ take count moved ++ (x ++ drop end s)) (z ∙ ap (λ (k : ℕ). replicate {A = ℕ} k 0) as_many)
      ∙ append_assoc (take at s) (take count moved) (replicate gap 0 ++ drop end s)

-- No other entry has the party's name: not before it, and not behind it.
others_before : (p n : ℕ) (es : List Entry) → taken n (own p es) ≡ false → taken_out p n es ≡ es
unfolding those taken
others_before p n [] h = refl
others_before p n (e ∷ es) h = go (eqb e.party p) (eqb e.name n) refl refl h (others_before p n es)
  where
    go : (x y : Bool) → eqb e.party p ≡ x → eqb e.name n ≡ y → taken n (cond x (e ∷ own p es) (own p es)) ≡ false
        → (taken n (own p es) ≡ false → taken_out p n es ≡ es) → cond (not (x && y)) (e ∷ taken_out p n es) (taken_out p n es) ≡ e ∷ es
    go true true i j h ih = let z : ◌≡◌ {A = ℕ} 0 1 = cc in absurd (omega arith)
    go true false i j h ih = ap (λ (l : List Entry). e ∷ l) (ih (sym (ap (λ (t : Bool). t || taken n (own p es)) j) ∙ h))
    go false y i j h ih = ap (λ (l : List Entry). e ∷ l) (ih h)

taken_left : (n : ℕ) (a b : List Entry) → taken n a ≡ true → taken n (a ++ b) ≡ true
unfolding taken
taken_left n [] b h = let z : ◌≡◌ {A = ℕ} 0 1 = cc in absurd (omega arith)
taken_left n (e ∷ a) b h = go (eqb e.name n) h (taken_left n a b)
  where
    go : (y : Bool) → (y || taken n a) ≡ true → (taken n a ≡ true → taken n (a ++ b) ≡ true) → (y || taken n (a ++ b)) ≡ true
    go true h ih = refl
    go false h ih = ih h

still_taken : (p n : ℕ) (before b : List Entry) → taken n (own p before) ≡ true → taken n (own p (before ++ b)) ≡ true
still_taken p n before b h = ap (taken n) (those_append (λ e. eqb e.party p) before b) ∙ taken_left n (own p before) (own p b) h

others_behind : (p n : ℕ) (before es : List Entry) → T (all_fit before es) → taken n (own p before) ≡ true → taken_out p n es ≡ es
unfolding those
others_behind p n before [] t h = refl
others_behind p n before (e ∷ es) t h =
    go (eqb e.party p) (eqb e.name n) refl refl (others_behind p n (before ++ (e ∷ [])) es (fit_rest before e es t) (still_taken p n before (e ∷ []) h))
  where
    go : (x y : Bool) → eqb e.party p ≡ x → eqb e.name n ≡ y → taken_out p n es ≡ es → cond (not (x && y)) (e ∷ taken_out p n es) (taken_out p n es) ≡ e ∷ es
    go true true i j ih =
        let k : taken n (own p before) ≡ false = ap₂ (λ (x y : ℕ). taken x (own y before)) (sym (eqb-true e.name n j)) (sym (eqb-true e.party p i)) ∙ (fit_first before e es t).not_taken in
        let z : true ≡ false = sym h ∙ k in
        let y : ◌≡◌ {A = ℕ} 0 1 = cc in
        absurd (omega arith)
    go true false i j ih = ap (λ (l : List Entry). e ∷ l) ih
    go false y i j ih = ap (λ (l : List Entry). e ∷ l) ih

taken_end : (n : ℕ) (a : List Entry) (e : Entry) → e.name ≡ n → taken n (a ++ (e ∷ [])) ≡ true
unfolding taken
taken_end n [] e j = ap (λ (t : Bool). t || false) (eq-eqb e.name n j)
taken_end n (x ∷ a) e j = go (eqb x.name n) (taken_end n a e j)
  where
    go : (y : Bool) → taken n (a ++ (e ∷ [])) ≡ true → (y || taken n (a ++ (e ∷ []))) ≡ true
    go true ih = refl
    go false ih = ih

all_others : (p n : ℕ) (a : List Entry) (e : Entry) (r : List Entry) → T (all_fit [] (a ++ e ∷ r)) → e.party ≡ p → e.name ≡ n → taken_out p n (a ++ e ∷ r) ≡ a ++ r
unfolding those taken
all_others p n a e r t i j =
    let f = fit_right [] a (e ∷ r) t in
    let w : Fitting a e = fit_first a e r f in
    let free : taken n (own p a) ≡ false = ap₂ (λ (x y : ℕ). taken x (own y a)) (sym j) (sym i) ∙ w.not_taken in
    let there : taken n (own p (a ++ (e ∷ []))) ≡ true =
    ap (taken n) (those_append (λ x. eqb x.party p) a (e ∷ []) ∙ ap (λ (l : List Entry). own p a ++ l) (own_mine p e [] i)) ∙ taken_end n (own p a) e j in
    let out : taken_out p n (e ∷ r) ≡ taken_out p n r = simp (eq-eqb e.party p i, eq-eqb e.name n j) in
    those_append (λ x. not (is_named p n x)) a (e ∷ r) ∙ ap₂ (λ (x y : List Entry). x ++ y) (others_before p n a free) (out ∙ others_behind p n (a ++ (e ∷ [])) r (fit_rest a e r f) there)

-- The shelf with an entry's bytes closed up is the shelf of the other entries.
closed_shelf : {s : List ℕ} {end : ℕ} (a : List Entry) (e : Entry) (r : List Entry) → OnShelf s end (a ++ e ∷ r) → closed s (in_use a) (size e) end ≡ shelf_of (a ++ r)
unfolding closed shelf_of laid_out in_use
closed_shelf {s} {end} a e r o =
    let w : At s end (in_use a) e r = stands s end a e r o.laid in
    let q : end ≡ in_use a + (size e + in_use r) = end_is s end (a ++ e ∷ r) o.laid ∙ in_use_append a (e ∷ r) in
    let near : in_use a ≤ end = omega arith in
    let front : take (in_use a) s ≡ laid_out a =
    sym (take-take (in_use a) end s near) ∙ ap (take (in_use a)) (o.laid.bytes ∙ laid_append a (e ∷ r)) ∙ take_at (laid_out a) (entry_bytes e ++ laid_out r) (in_use a) (length_laid a) in
    let rest : drop (in_use a + size e) s ≡ laid_out r ++ drop end s =
    sym (drop-drop (size e) (in_use a) s) ∙ ap (drop (size e)) w.bytes ∙ drop_at (entry_bytes e) (laid_out r ++ drop end s) (size e) (length_entry e) in
    let n : length (laid_out r) ≡ end - (in_use a + size e) = length_laid r ∙ omega arith in
    let middle : take (end - (in_use a + size e)) (drop (in_use a + size e) s) ≡ laid_out r =
    ap (take (end - (in_use a + size e))) rest ∙ take_at (laid_out r) (drop end s) (end - (in_use a + size e)) n in
    let m : size e + (65536 - end) ≡ SHELF_SIZE - in_use (a ++ r) = omega (arith, in_use_append a r, o.laid.within, o.all_bytes) in
    let back : replicate {A = ℕ} (size e) 0 ++ drop end s ≡ replicate (SHELF_SIZE - in_use (a ++ r)) 0 =
    ap (λ (x : List ℕ). replicate {A = ℕ} (size e) 0 ++ x) (behind_it o) ∙ replicate-append-replicate {A = ℕ} (size e) (65536 - end) 0 ∙ ap (λ (k : ℕ). replicate {A = ℕ} k 0) m in
    ap₂ (λ (x y : List ℕ). x ++ (y ++ (replicate {A = ℕ} (size e) 0 ++ drop end s))) front middle
    ∙ ap (λ (x : List ℕ). laid_out a ++ (laid_out r ++ x)) back
    ∙ sym (append_assoc (laid_out a) (laid_out r) (replicate (SHELF_SIZE - in_use (a ++ r)) 0))
    ∙ ap (λ (x : List ℕ). x ++ replicate (SHELF_SIZE - in_use (a ++ r)) 0) (sym (laid_append a r))

-- The entry that is found goes.
module _ {s : List ℕ} {p n : ℕ} {own : Own} (f : OwnEntry s p n own) where
  abbrev c : Call
  c = withdraw p n

  pub record Going (e : Entry) : Type 0 where
    pub is_done : told s c ≡ done
    pub its_length : own.size ≡ size e
    pub ends : own.at + size e ≤ own.end
    pub others : closed s own.at (size e) own.end ≡ shelf_of (taken_out p n f.all)

  going : (e : Entry) × Going e
  unfolding told_by in_use withdrawn
  going = go (standing p n f.all)
    where
      go : Standing p n f.all → (e : Entry) × Going e
      go (nowhere i u) = absurd (omega (arith, f.stands, f.is_there))
      go (behind a e r i j u x y) =
          let o : OnShelf s own.end (a ++ e ∷ r) = subst (OnShelf s own.end) i f.on_shelf in
          let w : At s own.end own.at e r = subst (λ (k : ℕ). At s own.end k e r) (sym (f.stands ∙ j)) (stands s own.end a e r o.laid) in (
            e,
            record {
              is_done = told_own f.on_shelf c f.its_party ∙ ap withdrawn u;
              its_length = f.its_size ∙ w.its_size;
              ends = w.ends;
              others =
                  ap (λ (k : ℕ). closed s k (size e) own.end) (f.stands ∙ j) ∙ closed_shelf a e r o
                  ∙ ap (λ (l : List Entry). shelf_of l) (sym (all_others p n a e r o.laid.legal.each_fits x y) ∙ ap (taken_out p n) (sym i));
            },
          )

  pub gap_there : (own.at + own.size ≤ own.end) × (own.end ≤ length s)
  gap_there = let w = going.1 in (omega (arith, w.ends, w.its_length), f.on_shelf.laid.within)

  pub gone : {t : List ℕ} → t ≡ closed s own.at own.size own.end → (shelved_values (Ok tt) ≡ shelved_owed (told s c)) × (t ≡ left s c)
  unfolding shelved_values shelved_owed left put after
  gone e =
      let w = going.1 in (
        sym (ap shelved_owed w.is_done),
        e ∙ ap (λ (m : ℕ). closed s own.at m own.end) w.its_length ∙ w.others
            ∙ sym (ap (λ (a : ShelfAnswer). cond (eqb a.number 0) (put (entries s) s c) s) w.is_done ∙ ap (λ (y : Option (List Entry)). put y s c) f.on_shelf.read),
      )
