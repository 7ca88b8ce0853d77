-- A fetch: the place that the search gives is that of the entry which the definition finds, and its block lies behind the entry's four
-- numbers. A lemma for each way through the code. Assumes nothing.
use mathlib.Core.Path.{◌≡◌, refl, sym, ap, ap₂, ◌∙◌, subst}
use mathlib.Core.Bool.{Bool, true, false, cond}
use mathlib.Core.List.{List, [], ◌∷◌, ◌++◌}
use mathlib.Core.Option.{Option, none, some}
use Prim.Native.Nat.{ℕ, ◌+◌, ◌-◌, ◌≤◌, ◌<◌}
use native.Mathlib.Omega.{arith}
use lib.Dec.{eqb}
use lib.ListN.{length, take, drop}
use lib.Seq.{drop-drop}
use denote.Ref.{Bor}
use borrow.Author.Tests.{eqb-true, ne_eqb}
use Rattle.std.specs.Prelude.{Result, Ok, Err, IfOk}
use Rattle.refusals.specs.declared.Refused.{Refused}
use Rattle.refusals.specs.Refusals.{number}
use Rattle.refusals.specs.declared.Why.TheVariants as Why
use Rattle.shelf.specs.Entries.{Entry, size, laid_out, in_use, those, own, find, entries}
use Rattle.shelf.specs.Calls.{fetch, withdraw, ShelfAnswer, refused, fetched, withdrawn, told_by, told}
use Rattle.shelf.specs.Places.{offset, OnShelf, LaidOut}
use Rattle.records.specs.Parts.{LiesAt}
use Rattle.shelf.specs.Answered.{fetched_as, TurnedDown, OwnEntry, begins, lies_from}
use Rattle.shelf.specs.declared.Own.{Own}
use Rattle.shelf.proofs.Lists.{in_use_append}
use Rattle.shelf.proofs.Legality.{Fitting, fit_first, fit_right, small_size}
use Rattle.shelf.proofs.ReadBack.{its_block}
use Rattle.shelf.proofs.Passing.{At, stands}
use Rattle.shelf.proofs.Stored.{told_own}

-- Where a party's entry of a name stands among all entries, if it has one.
pub data Standing (p n : ℕ) (es : List Entry) : Type 0 where
  nowhere : offset p n es ≡ in_use es → find n (own p es) ≡ none → Standing p n es
  behind : (a : List Entry) (e : Entry) (r : List Entry) → es ≡ a ++ e ∷ r → offset p n es ≡ in_use a → find n (own p es) ≡ some e
      → e.party ≡ p → e.name ≡ n → Standing p n es

one_further : (p n : ℕ) (e : Entry) (es : List Entry) → offset p n (e ∷ es) ≡ size e + offset p n es → find n (own p (e ∷ es)) ≡ find n (own p es)
    → Standing p n es → Standing p n (e ∷ es)
unfolding in_use
one_further p n e es o f (nowhere q u) = nowhere (omega (arith, o, q)) (f ∙ u)
one_further p n e es o f (behind a x r q l u i j) = behind (e ∷ a) x r (ap (λ (t : List Entry). e ∷ t) q) (omega (arith, o, l)) (f ∙ u) i j

pub standing : (p n : ℕ) (es : List Entry) → Standing p n es
unfolding offset in_use find those
standing p n [] = nowhere refl refl
standing p n (e ∷ es) = go (eqb e.party p) (eqb e.name n) refl refl (standing p n es)
  where
    go : (x y : Bool) → eqb e.party p ≡ x → eqb e.name n ≡ y → Standing p n es → Standing p n (e ∷ es)
    go true true i j w = behind [] e es refl (simp (i, j)) (simp (i, j)) (eqb-true e.party p i) (eqb-true e.name n j)
    go true false i j w = one_further p n e es (simp (i, j)) (simp (i, j)) w
    go false y i j w = one_further p n e es (simp i) (simp i) w

pub not_found : (p n : ℕ) (es : List Entry) → in_use es ≤ offset p n es → find n (own p es) ≡ none
unfolding in_use
not_found p n es l = go (standing p n es)
  where
    go : Standing p n es → find n (own p es) ≡ none
    go (nowhere i u) = u
    go (behind a e r i j u x y) = absurd (omega (arith, ap in_use i, in_use_append a (e ∷ r)))

-- The part that a fetch is told lies on the shelf.
pub record LiesOn (s : List ℕ) (p n : ℕ) : Type 0 where
  pub within : lies_from s p n + length (told s (fetch p n)).part ≤ length s
  pub its_bytes : (told s (fetch p n)).part ≡ take (length (told s (fetch p n)).part) (drop (lies_from s p n) s)

-- A refused one is empty.
pub empty_lies : (s : List ℕ) (p n k : ℕ) → told s (fetch p n) ≡ refused k 0 → (k ≡ 0 → ⊥) → LiesOn s p n
unfolding lies_from
empty_lies s p n k t f =
    let part : (told s (fetch p n)).part ≡ [] = ap (λ (a : ShelfAnswer). a.part) t in
    let from : lies_from s p n ≡ 0 = ap (λ (a : ShelfAnswer). cond (eqb a.number 0) (begins (entries s) p n + 8) 0) t ∙ simp (ne_eqb k 0 f) in
    record { within = omega (arith, ap length part, from); its_bytes = part ∙ sym (ap (λ (x : List ℕ). take (length x) (drop (lies_from s p n) s)) part) }

-- A name that is not there is told, by a fetch and by a withdrawal.
module _ {s : List ℕ} {end : ℕ} {es : List Entry} (o : OnShelf s end es) (p n : ℕ) (h : p ≤ 1) (l : in_use es ≤ offset p n es) where
  pub no_fetch : told s (fetch p n) ≡ refused (number Why.Absent) 0
  unfolding told_by fetched number
  no_fetch = told_own o (fetch p n) h ∙ ap fetched (not_found p n es l)

  pub no_withdrawal : told s (withdraw p n) ≡ refused (number Why.Absent) 0
  unfolding told_by withdrawn number
  no_withdrawal = told_own o (withdraw p n) h ∙ ap withdrawn (not_found p n es l)

-- The entry that is found.
module _ {s : List ℕ} {p n : ℕ} {own : Own} (f : OwnEntry s p n own) where
  pub record Its (e : Entry) : Type 0 where
    pub is_found : told s (fetch p n) ≡ fetched (some e)
    pub its_length : own.size ≡ size e
    pub ends : own.at + size e ≤ length s
    pub block_there : take (size e - 8) (drop (own.at + 8) s) ≡ e.block

  its_entry : (e : Entry) × Its e
  unfolding told_by in_use
  its_entry = go (standing p n f.all)
    where
      go : Standing p n f.all → (e : Entry) × Its e
      go (nowhere i u) = absurd (omega (arith, f.stands, f.is_there))
      go (behind a e r i j u x y) =
          let l : LaidOut s own.end (a ++ e ∷ r) = subst (LaidOut s own.end) i f.on_shelf.laid in
          let w : At s own.end own.at e r = subst (λ (k : ℕ). At s own.end k e r) (sym (f.stands ∙ j)) (stands s own.end a e r l) in
          let t : Fitting a e = fit_first a e r (fit_right [] a (e ∷ r) l.legal.each_fits) in
          let party : e.party < 65536 = omega (arith, t.its_party) in (
            e,
            record {
              is_found = told_own f.on_shelf (fetch p n) f.its_party ∙ ap fetched u;
              its_length = f.its_size ∙ w.its_size;
              ends = omega (arith, w.ends, f.on_shelf.laid.within);
              block_there =
                  ap (take (size e - 8)) (sym (drop-drop 8 own.at s) ∙ ap (drop 8) w.bytes)
                  ∙ its_block e (laid_out r ++ drop own.end s) (small_size e t) party t.its_name;
            },
          )

  lies_there : lies_from s p n ≡ own.at + 8
  unfolding fetched lies_from begins
  lies_there =
      ap (λ (a : ShelfAnswer). cond (eqb a.number 0) (begins (entries s) p n + 8) 0) its_entry.1.is_found
      ∙ ap (λ (t : Option (List Entry)). begins t p n + 8) f.on_shelf.read ∙ ap (λ (m : ℕ). m + 8) (sym f.stands)

  its_part : (told s (fetch p n)).part ≡ its_entry.0.block
  unfolding fetched
  its_part = ap (λ (a : ShelfAnswer). a.part) its_entry.1.is_found

  pub part_lies : LiesOn s p n
  part_lies =
      let w = its_entry.1 in
      let k : size its_entry.0 - 8 ≡ length (told s (fetch p n)).part = omega (arith, ap length its_part) in
      record {
        within = omega (arith, w.ends, lies_there, k);
        its_bytes = its_part ∙ sym w.block_there ∙ ap₂ (λ (m a : ℕ). take m (drop a s)) k (sym lies_there);
      }

  -- Room for what is cut out of it.
  pub record Room : Type 0 where
    pub small : own.at + own.size ≤ 65536
    pub long : own.at + 8 ≤ own.at + own.size
    pub ends : own.at + own.size ≤ length s

  pub room_there : Room
  room_there = let w = its_entry.1 in record { small = omega (arith, w.ends, w.its_length, f.on_shelf.all_bytes); long = omega (arith, w.its_length); ends = omega (arith, w.ends, w.its_length) }

  -- What is cut out of the shelf is told.
  cut_out : (bytes : List ℕ) → bytes ≡ take (own.at + own.size - (own.at + 8)) (drop (own.at + 8) s)
      → (bytes ≡ (told s (fetch p n)).part) × (told s (fetch p n) ≡ record { number = 0; place = 0; part = bytes })
  unfolding fetched
  cut_out bytes c =
      let w = its_entry.1 in
      let d : own.at + own.size - (own.at + 8) ≡ size its_entry.0 - 8 = omega (arith, w.its_length) in
      let b : bytes ≡ its_entry.0.block = c ∙ ap (λ (m : ℕ). take m (drop (own.at + 8) s)) d ∙ w.block_there in
      (b ∙ sym its_part, w.is_found ∙ ap (λ (y : List ℕ). record { number = 0; place = 0; part = y }) (sym b))

-- The part that is cut out of the shelf.
pub handed_out : (part lent : Bor (List ℕ)) {p n : ℕ} {own : Own} (f : OwnEntry lent.now p n own) → LiesAt part lent (own.at + 8) (own.at + own.size - (own.at + 8))
    → (fetched_as (Ok part) ≡ told lent.now (fetch p n)) × LiesAt part lent (lies_from lent.now p n) (length part.now)
unfolding fetched_as
handed_out part lent {p} {n} f w =
    let t = cut_out f part.now w.its_bytes in
    let lies = part_lies f in (
      sym t.1,
      record {
        in_its_memory = w.in_its_memory;
        from_offset = w.from_offset ∙ ap (λ (m : ℕ). lent.ref_ptr.1 + m) (sym (lies_there f));
        within = omega (arith, lies.within, ap length t.0);
        its_bytes = t.0 ∙ lies.its_bytes ∙ ap (λ (y : List ℕ). take (length y) (drop (lies_from lent.now p n) lent.now)) (sym t.0);
      },
    )

-- A refusal hands none out.
pub handed_none : (lent : Bor (List ℕ)) (p n : ℕ) {e : Refused} {r : Result (Bor (List ℕ)) Refused} → r ≡ Err e → TurnedDown lent.now (fetch p n) e
    → (fetched_as r ≡ told lent.now (fetch p n)) × IfOk r (λ part. LiesAt part lent (lies_from lent.now p n) (length part.now))
unfolding fetched_as
handed_none lent p n q t =
    (ap fetched_as q ∙ sym t.told_so, subst (λ (x : Result (Bor (List ℕ)) Refused). IfOk x (λ part. LiesAt part lent (lies_from lent.now p n) (length part.now))) (sym q) tt)
