-- Looking at entries one after the other: at a place where entries are still due the bytes are those of the first of them. A lemma for each
-- way through the two searches. Assumes nothing.
use mathlib.Core.Path.{◌≡◌, refl, sym, ap, ap₂, ◌∙◌, subst}
use mathlib.Core.Bool.{Bool, true, false, cond, ◌&&◌}
use mathlib.Core.List.{List, [], ◌∷◌, ◌++◌, append_assoc}
use Rattle.std.specs.Prelude.{Option, Some, None, Ok, Err, is_some, ok_or}
use Prim.Native.Nat.{ℕ, ◌+◌, ◌≤◌, ◌<◌}
use native.Mathlib.Omega.{arith}
use lib.Dec.{eqb}
use lib.ListN.{length, take, drop, take-append-drop}
use lib.Seq.{length-take-le, drop_at, drop-drop}
use borrow.Author.Tests.{eq-eqb, ne_eqb, eqb-true, eqb-false}
use Rattle.records.specs.Numerals.{as_number, field}
use Rattle.shelf.specs.Entries.{Entry, size, entry_bytes, laid_out, in_use, own, is_named, those}
use Rattle.shelf.specs.Places.{LaidOut, offset, StandsAt}
use Rattle.shelf.proofs.Lists.{in_use_append, laid_append, length_laid}
use Rattle.shelf.proofs.Legality.{Fitting, fit_first, fit_right, small_size, own_mine, own_other, quota}
use Rattle.shelf.proofs.ReadBack.{its_length, its_party, its_name}

-- A field behind a place.
pub field_behind : (s : List ℕ) (at k n : ℕ) → field s (at + k) n ≡ field (drop at s) k n
unfolding field
field_behind s at k n = ap (λ (l : List ℕ). as_number (take n l)) (sym (drop-drop k at s))

-- Some of the entries have been passed, and the rest are due from a place on.
pub record Passed (es : List Entry) (at : ℕ) : Type 0 where
  pub seen : List Entry
  pub due : List Entry
  pub are_all : es ≡ seen ++ due
  pub at_them : at ≡ in_use seen

nothing_used : 0 ≡ in_use []
unfolding in_use
nothing_used = refl

one_used : (a : List Entry) (e : Entry) {at : ℕ} → at ≡ in_use a → at + size e ≡ in_use (a ++ (e ∷ []))
unfolding in_use
one_used a e h = omega (arith, h, in_use_append a (e ∷ []))

abbrev none_passed : (es : List Entry) → Passed es 0
none_passed es = record { seen = []; due = es; are_all = refl; at_them = nothing_used }

-- The entry at a place, by its numbers there.
pub record At (s : List ℕ) (end at : ℕ) (e : Entry) (r : List Entry) : Type 0 where
  pub its_size : field s at 2 ≡ size e
  pub party_there : field s (at + 4) 2 ≡ e.party
  pub name_there : field s (at + 6) 2 ≡ e.name
  pub ends : at + size e ≤ end
  pub bytes : drop at s ≡ entry_bytes e ++ (laid_out r ++ drop end s)

pub end_is : (s : List ℕ) (end : ℕ) (es : List Entry) → LaidOut s end es → end ≡ in_use es
end_is s end es l = sym (length-take-le end s l.within) ∙ ap (λ (x : List ℕ). length x) l.bytes ∙ length_laid es

all_bytes : (s : List ℕ) (end : ℕ) (es : List Entry) → LaidOut s end es → s ≡ laid_out es ++ drop end s
all_bytes s end es l = sym (take-append-drop end s) ∙ ap (λ (x : List ℕ). x ++ drop end s) l.bytes

-- Where the entries are a list, an entry and another list, the entry stands behind the first list.
pub stands : (s : List ℕ) (end : ℕ) (a : List Entry) (e : Entry) (r : List Entry) → LaidOut s end (a ++ e ∷ r) → At s end (in_use a) e r
unfolding laid_out in_use field
stands s end a e r l = record {
  its_size = ap (λ (x : List ℕ). field x 0 2) behind ∙ its_length e (laid_out r ++ drop end s) small party f.its_name;
  party_there = field_behind s (in_use a) 4 2 ∙ ap (λ (x : List ℕ). field x 4 2) behind ∙ its_party e (laid_out r ++ drop end s) small party f.its_name;
  name_there = field_behind s (in_use a) 6 2 ∙ ap (λ (x : List ℕ). field x 6 2) behind ∙ its_name e (laid_out r ++ drop end s) small party f.its_name;
  ends = omega (arith, end_is s end (a ++ e ∷ r) l, in_use_append a (e ∷ r));
  bytes = behind;
}
  where
    f : Fitting a e
    f = fit_first a e r (fit_right [] a (e ∷ r) l.legal.each_fits)

    small : size e < 65536
    small = small_size e f

    party : e.party < 65536
    party = omega (arith, f.its_party)

    behind : drop (in_use a) s ≡ entry_bytes e ++ (laid_out r ++ drop end s)
    behind =
        ap (drop (in_use a)) (all_bytes s end (a ++ e ∷ r) l ∙ ap (λ (x : List ℕ). x ++ drop end s) (laid_append a (e ∷ r)) ∙ append_assoc (laid_out a) (laid_out (e ∷ r)) (drop end s))
        ∙ drop_at (laid_out a) (laid_out (e ∷ r) ++ drop end s) (in_use a) (length_laid a) ∙ append_assoc (entry_bytes e) (laid_out r) (drop end s)

module _ {s : List ℕ} {end : ℕ} {es : List Entry} {at : ℕ} (l : LaidOut s end es) (w : Passed es at) where
  pub total : end ≡ at + in_use w.due
  total = end_is s end es l ∙ ap in_use w.are_all ∙ in_use_append w.seen w.due ∙ ap (λ (n : ℕ). n + in_use w.due) (sym w.at_them)

  -- Before the end an entry is due.
  pub entered : at < end → (e : Entry) × (r : List Entry) × (w.due ≡ e ∷ r)
  unfolding in_use
  entered h = go w.due refl
    where
      go : (d : List Entry) → w.due ≡ d → (e : Entry) × (r : List Entry) × (w.due ≡ e ∷ r)
      go [] q = let z : in_use w.due ≡ 0 = ap in_use q in absurd (omega (arith, total, z))
      go (e ∷ r) q = (e, r, q)

  -- At the end none is.
  pub no_more : end ≤ at → w.due ≡ []
  unfolding in_use
  no_more h = go w.due refl
    where
      go : (d : List Entry) → w.due ≡ d → w.due ≡ []
      go [] q = q
      go (e ∷ r) q = let z : in_use w.due ≡ size e + in_use r = ap in_use q in absurd (omega (arith, total, z))

  module _ {e : Entry} {r : List Entry} (q : w.due ≡ e ∷ r) where
    pub at_entry : At s end at e r
    at_entry =
        subst (λ (n : ℕ). At s end n e r) (sym w.at_them)
        (stands s end w.seen e r (subst (LaidOut s end) (w.are_all ∙ ap (λ (d : List Entry). w.seen ++ d) q) l))

    abbrev passed_more : Passed es (at + size e)
    passed_more = record {
      seen = w.seen ++ (e ∷ []);
      due = r;
      are_all = w.are_all ∙ ap (λ (d : List Entry). w.seen ++ d) q ∙ sym (append_assoc w.seen (e ∷ []) r);
      at_them = one_used w.seen e w.at_them;
    }

  -- What a look at the entry needs, and that the next place lies further on.
  pub record Room : Type 0 where
    pub eight : at + 8 ≤ length s
    pub ends : at + field s at 2 ≤ end
    pub further : at < at + field s at 2

  pub room : at < end → Room
  room h =
      let x = entered h in
      let a = at_entry x.2 in
      record { eight = omega (arith, a.ends, l.within); ends = omega (arith, a.ends, a.its_size); further = omega (arith, a.its_size) }

-- A name is looked for: where it is, counted from the entries that are due.
pub record Sought (s : List ℕ) (end p n at : ℕ) : Type 0 where
  pub reached : (es : List Entry) → LaidOut s end es → Passed es at
  pub sought : (es : List Entry) (l : LaidOut s end es) → offset p n es ≡ at + offset p n (reached es l).due

module _ {s : List ℕ} {end p n : ℕ} where
  pub sought_begin : Sought s end p n 0
  sought_begin = record { reached = λ es l. none_passed es; sought = λ es l. omega arith }

  module _ {at : ℕ} (w : Sought s end p n at) where
    test_is : (es : List Entry) (l : LaidOut s end es) {e : Entry} {r : List Entry} → (w.reached es l).due ≡ e ∷ r
        → (eqb (field s (at + 4) 2) p && eqb (field s (at + 6) 2) n) ≡ is_named p n e
    test_is es l q = let a = at_entry l (w.reached es l) q in ap₂ (λ (x y : ℕ). eqb x p && eqb y n) a.party_there a.name_there

    pub sought_found : at < end → true ≡ (eqb (field s (at + 4) 2) p && eqb (field s (at + 6) 2) n) → (es : List Entry) → LaidOut s end es → StandsAt p n es (Some at)
    unfolding offset
    sought_found h t es l =
        let x = entered l (w.reached es l) h in
        let z : offset p n (x.0 ∷ x.1) ≡ 0 = simp (sym (t ∙ test_is es l x.2)) in
        record { there = (omega (arith, w.sought es l, ap (offset p n) x.2, z), omega (arith, end_is s end es l)); nowhere = tt }

    pub sought_end : end ≤ at → (es : List Entry) → LaidOut s end es → StandsAt p n es None
    unfolding offset
    sought_end h es l = let z : offset p n (w.reached es l).due ≡ 0 = ap (offset p n) (no_more l (w.reached es l) h) in record { there = tt; nowhere = omega (arith, w.sought es l, z, end_is s end es l) }

    pub sought_more : {x : ℕ} → at < end → false ≡ (eqb (field s (at + 4) 2) p && eqb (field s (at + 6) 2) n) → x ≡ field s at 2 → Sought s end p n (at + x)
    unfolding offset
    sought_more {x} h f e = record { reached = λ es l. (moved es l).0; sought = λ es l. (moved es l).1 }
      where
        moved : (es : List Entry) (l : LaidOut s end es) → (v : Passed es (at + x)) × (offset p n es ≡ at + x + offset p n v.due)
        moved es l =
            let y = entered l (w.reached es l) h in
            let a = at_entry l (w.reached es l) y.2 in
            let z : offset p n (y.0 ∷ y.1) ≡ size y.0 + offset p n y.1 = simp (sym (f ∙ test_is es l y.2)) in
            let k : x ≡ size y.0 = e ∙ a.its_size in
            subst (λ (m : ℕ). (v : Passed es (at + m)) × (offset p n es ≡ at + m + offset p n v.due)) (sym k)
            (passed_more l (w.reached es l) y.2, omega (arith, w.sought es l, ap (offset p n) y.2, z))

-- The answer of the search.
module _ {p n : ℕ} {es : List Entry} where
  pub is_there : {r : Option ℕ} → StandsAt p n es r → is_some r ≡ true → offset p n es < in_use es
  is_there {r = None} w e = let z : ◌≡◌ {A = ℕ} 0 1 = cc in absurd (omega arith)
  is_there {r = Some at} w e = omega (arith, w.there)

  pub is_nowhere : {r : Option ℕ} → StandsAt p n es r → is_some r ≡ false → in_use es ≤ offset p n es
  is_nowhere {r = None} w e = w.nowhere
  is_nowhere {r = Some at} w e = let z : ◌≡◌ {A = ℕ} 0 1 = cc in absurd (omega arith)

  pub present : {T : Type 0} (e : T) {r : Option ℕ} {at : ℕ} → StandsAt p n es r → ok_or r e ≡ Ok at → (at ≡ offset p n es) × (at < in_use es)
  present e {r = None} w q = let z : ◌≡◌ {A = ℕ} 0 1 = cc in absurd (omega arith)
  present e {r = Some x} {at = at} w q = let k : at ≡ x = cc in (k ∙ w.there.0, omega (arith, w.there.1, k))

  pub absent : {T : Type 0} {e f : T} (r : Option ℕ) → StandsAt p n es r → ok_or r e ≡ Err f → (in_use es ≤ offset p n es) × (f ≡ e)
  absent None w q = (w.nowhere, cc)
  absent (Some x) w q = let z : ◌≡◌ {A = ℕ} 0 1 = cc in absurd (omega arith)

-- A party's bytes are added up: what is summed, and what the entries that are due still add.
pub record Summed (s : List ℕ) (end p held at : ℕ) : Type 0 where
  pub reached : (es : List Entry) → LaidOut s end es → Passed es at
  pub summed : (es : List Entry) (l : LaidOut s end es) → held + in_use (own p (reached es l).due) ≡ in_use (own p es)

module _ {s : List ℕ} {end p : ℕ} where
  pub summed_begin : Summed s end p 0 0
  summed_begin = record { reached = λ es l. none_passed es; summed = λ es l. omega arith }

  module _ {held at : ℕ} (w : Summed s end p held at) where
    pub summed_end : end ≤ at → (es : List Entry) → LaidOut s end es → held ≡ in_use (own p es)
    unfolding in_use those
    summed_end h es l = let z : in_use (own p (w.reached es l).due) ≡ 0 = ap (λ (d : List Entry). in_use (own p d)) (no_more l (w.reached es l) h) in omega (arith, w.summed es l, z)

    module _ {x : ℕ} (h : at < end) (k : x ≡ field s at 2) where
      added : (es : List Entry) (l : LaidOut s end es) (now : ℕ)
          → ((e : Entry) (r : List Entry) → field s (at + 4) 2 ≡ e.party → x ≡ size e → held + in_use (own p (e ∷ r)) ≡ now + in_use (own p r))
          → (v : Passed es (at + x)) × (now + in_use (own p v.due) ≡ in_use (own p es))
      added es l now f =
          let y = entered l (w.reached es l) h in
          let a = at_entry l (w.reached es l) y.2 in
          let z = f y.0 y.1 a.party_there (k ∙ a.its_size) in
          subst (λ (m : ℕ). (v : Passed es (at + m)) × (now + in_use (own p v.due) ≡ in_use (own p es))) (sym (k ∙ a.its_size))
          (passed_more l (w.reached es l) y.2, omega (arith, w.summed es l, ap (λ (d : List Entry). in_use (own p d)) y.2, z))

      pub summed_other : (field s (at + 4) 2 ≡ p → ⊥) → Summed s end p held (at + x)
      summed_other f = record { reached = λ es l. (moved es l).0; summed = λ es l. (moved es l).1 }
        where
          moved : (es : List Entry) (l : LaidOut s end es) → (v : Passed es (at + x)) × (held + in_use (own p v.due) ≡ in_use (own p es))
          moved es l = added es l held (λ e r q m. ap (λ (d : List Entry). held + in_use d) (own_other p e r (λ i. f (q ∙ i))))

      pub summed_mine : field s (at + 4) 2 ≡ p → Summed s end p (held + x) (at + x)
      unfolding in_use
      summed_mine i = record { reached = λ es l. (moved es l).0; summed = λ es l. (moved es l).1 }
        where
          moved : (es : List Entry) (l : LaidOut s end es) → (v : Passed es (at + x)) × (held + x + in_use (own p v.due) ≡ in_use (own p es))
          moved es l = added es l (held + x) (λ e r q m. ap (λ (d : List Entry). held + in_use d) (own_mine p e r (sym q ∙ i)) ∙ omega (arith, m))

      -- The entry's bytes are counted, or they are another party's.
      pub summed_more : {y : ℕ} → y ≡ cond (eqb (field s (at + 4) 2) p) (field s at 2) 0 → Summed s end p (held + y) (at + x)
      summed_more {y} q = go (eqb (field s (at + 4) 2) p) refl q
        where
          go : (z : Bool) → eqb (field s (at + 4) 2) p ≡ z → y ≡ cond z (field s at 2) 0 → Summed s end p (held + y) (at + x)
          go true t q = subst (λ (m : ℕ). Summed s end p (held + m) (at + x)) (k ∙ sym q) (summed_mine (eqb-true (field s (at + 4) 2) p t))
          go false t q =
              let m : held ≡ held + y = omega arith in
              subst (λ (m : ℕ). Summed s end p m (at + x)) m (summed_other (eqb-false (field s (at + 4) 2) p t))

    -- What is summed is never above the quota.
    pub summed_fits : (es : List Entry) → LaidOut s end es → held ≤ 32768
    summed_fits es l = omega (arith, w.summed es l, quota p es l.legal)

-- A test that decides between a number that is read and 0.
pub read_if : {x y f g : ℕ} (p : ℕ) → x ≡ f → x ≡ p → y ≡ g → y ≡ cond (eqb f p) g 0
read_if {f = f} {g} p e h q = q ∙ sym (ap (λ (t : Bool). cond t g 0) (eq-eqb f p (sym e ∙ h)))

pub none_if : {x f : ℕ} (g p : ℕ) → x ≡ f → (x ≡ p → ⊥) → 0 ≡ cond (eqb f p) g 0
none_if {f = f} g p e h = sym (ap (λ (t : Bool). cond t g 0) (ne_eqb f p (λ i. h (e ∙ i))))
