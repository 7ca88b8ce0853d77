-- Bytes that are read as entries are the shelf of these entries and of no others: each step of the reading takes the bytes of an entry
-- off the front, and what is left at the end is zeros. So SHELF is given exactly where the bytes are no shelf's. Assumes nothing.
use mathlib.Core.Path.{◌≡◌, refl, sym, ap, ap₂, ◌∙◌, subst}
use mathlib.Core.Bool.{Bool, true, false, cond, ◌&&◌}
use mathlib.Core.List.{List, [], ◌∷◌, ◌++◌, append_assoc, append-nil}
use mathlib.Core.Option.{Option, none, some}
use Prim.Native.Nat.{ℕ, zero, suc, ◌+◌, ◌-◌, ◌≤◌, ◌<◌}
use native.Mathlib.Numerals.{add-one}
use native.Mathlib.Omega.{arith}
use lib.Dec.{T, eqb, leb}
use lib.ListN.{length, get_or, take, drop, replicate, length-drop, take-append-drop}
use lib.Seq.{length-take-le, drop-drop, get_or-drop}
use borrow.Author.Tests.{eqb-true, leb-true}
use Rattle.sets.proofs.Members.{is_true, of_true, and_left, and_right}
use Rattle.block.specs.Format.{two_bytes}
use Rattle.records.specs.Numerals.{Bytes, in_bytes, field}
use Rattle.records.proofs.Bytes.{field_cons, field_none}
use Rattle.writing.proofs.Records.{next_two, two_small}
use Rattle.shelf.specs.Entries.{SHELF_SIZE, Entry, size, entry_bytes, laid_out, in_use, shelf_of, fits, all_fit, Legal, zeros, entry_there, first_entry, walk, entries}
use Rattle.shelf.proofs.Legality.{fitting, fit_cons}
use Rattle.shelf.proofs.ReadBack.{read_back}

-- Two bytes as a field.
pub field_two : (b : List ℕ) (at : ℕ) → at + 2 ≤ length b → field b at 2 ≡ two_bytes b at
field_two b at l =
    let n : get_or b (suc at) 0 ≡ get_or b (at + 1) 0 = ap (λ (k : ℕ). get_or b k 0) (sym (add-one at)) in
    omega (arith, field_cons b at 1 (omega arith), field_cons b (suc at) 0 (omega arith), field_none b (suc (suc at)), n)

pub field_small : (b : List ℕ) (at : ℕ) → Bytes b → at + 2 ≤ length b → field b at 2 < 65536
field_small b at s l = omega (arith, field_two b at l, two_small b at s)

next_field : (b : List ℕ) (at : ℕ) → Bytes b → at + 2 ≤ length b → drop at b ≡ in_bytes 2 (field b at 2) ++ drop (at + 2) b
next_field b at s l = next_two b at s l ∙ ap (λ (n : ℕ). in_bytes 2 n ++ drop (at + 2) b) (sym (field_two b at l))

pub rest_bytes : (n : ℕ) (b : List ℕ) → Bytes b → Bytes (drop n b)
rest_bytes n b s = record { byte = λ i. subst (λ (x : ℕ). x < 256) (sym (get_or-drop n b i 0)) (s.byte (n + i)) }

-- An entry that is there.
pub record There (bs : List ℕ) : Type 0 where
  pub enough : 8 ≤ field bs 0 2
  pub within : field bs 0 2 ≤ length bs
  pub its_kind : field bs 2 2 ≡ 5

pub there : (bs : List ℕ) → T (entry_there bs) → There bs
unfolding entry_there
there bs t =
    let a = leb 8 (field bs 0 2) in
    let b = leb (field bs 0 2) (length bs) in
    let k = eqb (field bs 2 2) 5 in
    let u = and_right a (b && k) t in
    record {
      enough = leb-true 8 (field bs 0 2) (is_true a (and_left a (b && k) t));
      within = leb-true (field bs 0 2) (length bs) (is_true b (and_left b k u));
      its_kind = eqb-true (field bs 2 2) 5 (is_true k (and_right b k u));
    }

module _ (bs : List ℕ) (s : Bytes bs) (t : There bs) where
  block_length : length (take (field bs 0 2 - 8) (drop 8 bs)) ≡ field bs 0 2 - 8
  block_length = length-take-le (field bs 0 2 - 8) (drop 8 bs) (omega (arith, length-drop 8 bs, t.within))

  pub first_size : size (first_entry bs) ≡ field bs 0 2
  unfolding first_entry
  first_size = omega (arith, block_length, t.enough)

  block_there : drop 8 bs ≡ take (field bs 0 2 - 8) (drop 8 bs) ++ drop (field bs 0 2) bs
  block_there =
      let n : 8 + (field bs 0 2 - 8) ≡ field bs 0 2 = omega (arith, t.enough) in
      sym (take-append-drop (field bs 0 2 - 8) (drop 8 bs))
      ∙ ap (λ (r : List ℕ). take (field bs 0 2 - 8) (drop 8 bs) ++ r) (drop-drop (field bs 0 2 - 8) 8 bs ∙ ap (λ (k : ℕ). drop k bs) n)

  pub entry_back : bs ≡ entry_bytes (first_entry bs) ++ drop (field bs 0 2) bs
  unfolding entry_bytes first_entry in_bytes
  entry_back =
      next_field bs 0 s (omega (arith, t.enough, t.within)) ∙ ap₂ (λ (n : ℕ) (r : List ℕ). in_bytes 2 n ++ r) (sym first_size)
      (next_field bs 2 s (omega (arith, t.enough, t.within)) ∙ ap₂ (λ (n : ℕ) (r : List ℕ). in_bytes 2 n ++ r) t.its_kind
      (next_field bs 4 s (omega (arith, t.enough, t.within)) ∙ ap (λ (r : List ℕ). in_bytes 2 (field bs 4 2) ++ r)
      (next_field bs 6 s (omega (arith, t.enough, t.within)) ∙ ap (λ (r : List ℕ). in_bytes 2 (field bs 6 2) ++ r) block_there)))

pub zeros_only : (bs : List ℕ) → zeros bs ≡ true → bs ≡ replicate (length bs) 0
unfolding zeros
zeros_only [] z = refl
zeros_only (b ∷ bs) z =
    let t = of_true z in
    let e : b ≡ 0 = eqb-true b 0 (is_true (eqb b 0) (and_left (eqb b 0) (zeros bs) t)) in
    ap₂ (λ (x : ℕ) (l : List ℕ). x ∷ l) e (zeros_only bs (is_true (zeros bs) (and_right (eqb b 0) (zeros bs) t)))

-- What was read, after some entries, of some bytes.
record Read (before : List Entry) (bs : List ℕ) (r : List Entry) : Type 0 where
  pub rest : List Entry
  pub is_all : r ≡ before ++ rest
  pub each_fits : T (all_fit before rest)
  pub enough : in_use rest ≤ length bs
  pub bytes : bs ≡ laid_out rest ++ replicate (length bs - in_use rest) 0

read_zeros : (before : List Entry) (bs : List ℕ) {r : List Entry} → zeros bs ≡ true → some before ≡ some r → Read before bs r
unfolding laid_out in_use all_fit
read_zeros before bs {r} z e =
    let b : before ≡ r = cc in
    let n : length bs - 0 ≡ length bs = omega arith in
    record {
      rest = [];
      is_all = sym b ∙ sym (append-nil before);
      each_fits = tt;
      enough = omega arith;
      bytes = zeros_only bs z ∙ ap (λ (k : ℕ). replicate k 0) (sym n);
    }

read_entry : (before : List Entry) (bs : List ℕ) {r : List Entry} → Bytes bs → There bs → T (fits before (first_entry bs))
    → Read (before ++ (first_entry bs ∷ [])) (drop (field bs 0 2) bs) r → Read before bs r
unfolding laid_out in_use
read_entry before bs {r} s t f w =
    let e = first_entry bs in
    let l = length-drop (field bs 0 2) bs in
    let n : length (drop (field bs 0 2) bs) - in_use w.rest ≡ length bs - (size e + in_use w.rest) = omega (arith, l, first_size bs s t, t.within) in
    record {
      rest = e ∷ w.rest;
      is_all = w.is_all ∙ append_assoc before (e ∷ []) w.rest;
      each_fits = fit_cons before e w.rest (fitting before e f) w.each_fits;
      enough = omega (arith, l, w.enough, first_size bs s t, t.within);
      bytes =
          entry_back bs s t
          ∙ ap (λ (x : List ℕ). entry_bytes e ++ x) (w.bytes ∙ ap (λ (k : ℕ). laid_out w.rest ++ replicate k 0) n)
          ∙ sym (append_assoc (entry_bytes e) (laid_out w.rest) (replicate (length bs - (size e + in_use w.rest)) 0));
    }

no_list : {P : Type 0} {r : List Entry} → ◌≡◌ {A = Option (List Entry)} none (some r) → P
no_list e = let z : ◌≡◌ {A = ℕ} 0 1 = cc in absurd (omega arith)

only_walk : (n : ℕ) (before : List Entry) (bs : List ℕ) {r : List Entry} → Bytes bs → walk n before bs ≡ some r → Read before bs r
unfolding walk
only_walk zero before bs s e = no_list e
only_walk (suc n) before bs {r} s e =
    go (zeros bs) (entry_there bs) (fits before (first_entry bs)) refl refl refl e (λ w. only_walk n (before ++ (first_entry bs ∷ [])) (drop (field bs 0 2) bs) (rest_bytes (field bs 0 2) bs s) w)
  where
    go : (x y z : Bool) → zeros bs ≡ x → entry_there bs ≡ y → fits before (first_entry bs) ≡ z
        → cond x (some before) (cond (y && z) (walk n (before ++ (first_entry bs ∷ [])) (drop (field bs 0 2) bs)) none) ≡ some r
        → (walk n (before ++ (first_entry bs ∷ [])) (drop (field bs 0 2) bs) ≡ some r → Read (before ++ (first_entry bs ∷ [])) (drop (field bs 0 2) bs) r) → Read before bs r
    go true y z a b c q ih = read_zeros before bs a q
    go false true true a b c q ih = read_entry before bs s (there bs (of_true b)) (of_true c) (ih q)
    go false true false a b c q ih = no_list q
    go false false z a b c q ih = no_list q

pub only_shelf : (s : List ℕ) {es : List Entry} → Bytes s → entries s ≡ some es → (s ≡ shelf_of es) × Legal es
unfolding entries shelf_of
only_shelf s {es} b e = go (eqb (length s) SHELF_SIZE) refl e
  where
    go : (z : Bool) → eqb (length s) SHELF_SIZE ≡ z → cond z (walk (suc (length s)) [] s) none ≡ some es → (s ≡ shelf_of es) × Legal es
    go false q w = no_list w
    go true q w =
        let r = only_walk (suc (length s)) [] s b w in
        let n : length s - in_use r.rest ≡ SHELF_SIZE - in_use r.rest = ap (λ (k : ℕ). k - in_use r.rest) (eqb-true (length s) SHELF_SIZE q) in (
          r.bytes ∙ ap (λ (k : ℕ). laid_out r.rest ++ replicate k 0) n ∙ ap (λ (l : List Entry). shelf_of l) (sym r.is_all),
          subst Legal (sym r.is_all) (record { each_fits = r.each_fits }),
        )

-- No bytes are two shelves.
pub one_shelf : (es fs : List Entry) → Legal es → Legal fs → shelf_of es ≡ shelf_of fs → es ≡ fs
one_shelf es fs l m e =
    let a : entries (shelf_of es) ≡ some es = read_back es l in
    let b : entries (shelf_of fs) ≡ some fs = read_back fs m in
    let c : some es ≡ some fs = sym a ∙ ap entries e ∙ b in
    cc

-- Bytes are read as no list of entries exactly where they are the shelf of none.
pub no_shelf : (s : List ℕ) → entries s ≡ none → (es : List Entry) → Legal es → s ≡ shelf_of es → ⊥
no_shelf s e es l q = no_list (sym e ∙ ap entries q ∙ read_back es l)

pub some_shelf : (s : List ℕ) → Bytes s → ((es : List Entry) → Legal es → s ≡ shelf_of es → ⊥) → entries s ≡ none
some_shelf s b f = go (entries s) refl
  where
    go : (o : Option (List Entry)) → entries s ≡ o → entries s ≡ none
    go none q = q
    go (some es) q = let w = only_shelf s b q in absurd (f es w.1 w.0)
