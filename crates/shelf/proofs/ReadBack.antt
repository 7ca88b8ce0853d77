-- A shelf's bytes are read as its entries: the entry at the front of the bytes is read back, and what is left is shorter. Assumes nothing.
use mathlib.Core.Path.{◌≡◌, refl, sym, ap, ap₂, ◌∙◌}
use mathlib.Core.Bool.{Bool, true, false, ◌&&◌}
use mathlib.Core.List.{List, [], ◌∷◌, ◌++◌, append_assoc, append-nil}
use mathlib.Core.Option.{some}
use Prim.Native.Nat.{ℕ, zero, suc, ◌-◌, ◌/◌, ◌%◌, ◌≤◌, ◌<◌}
use native.Mathlib.Omega.{arith}
use lib.Dec.{T, eqb}
use lib.ListN.{length, take, drop, replicate, length-append}
use lib.Seq.{take-append_seam, drop-append_seam}
use borrow.Author.Tests.{eq-eqb, le-leb}
use Rattle.sets.proofs.Members.{is_true}
use Rattle.records.specs.Numerals.{in_bytes, as_number, field}
use Rattle.records.proofs.Bytes.{number_in_bytes}
use Rattle.shelf.specs.Entries.{SHELF_SIZE, Entry, size, entry_bytes, laid_out, in_use, shelf_of, fits, all_fit, Legal, zeros, entry_there, first_entry, walk, entries}
use Rattle.shelf.proofs.Lists.{length_entry}
use Rattle.shelf.proofs.Legality.{Fitting, fits_so, small_size, fit_first, fit_rest, whole, shelf_length}

pub zeros_all : (n : ℕ) → zeros (replicate n 0) ≡ true
unfolding zeros
zeros_all zero = refl
zeros_all (suc n) = zeros_all n

third : (x y : Bool) → (x && (y && false)) ≡ false
third true true = refl
third true false = refl
third false y = refl

-- The bytes begin with an entry whose four numbers have two bytes each.
module _ (e : Entry) (rest : List ℕ) (s : size e < 65536) (p : e.party < 65536) (n : e.name < 65536) where
  pub its_length : field (entry_bytes e ++ rest) 0 2 ≡ size e
  unfolding field as_number entry_bytes in_bytes
  its_length = number_in_bytes 2 s

  pub its_kind : field (entry_bytes e ++ rest) 2 2 ≡ 5
  unfolding field as_number entry_bytes in_bytes
  its_kind = refl

  pub its_party : field (entry_bytes e ++ rest) 4 2 ≡ e.party
  unfolding field as_number entry_bytes in_bytes
  its_party = number_in_bytes 2 p

  pub its_name : field (entry_bytes e ++ rest) 6 2 ≡ e.name
  unfolding field as_number entry_bytes in_bytes
  its_name = number_in_bytes 2 n

  pub its_block : take (size e - 8) (drop 8 (entry_bytes e ++ rest)) ≡ e.block
  unfolding entry_bytes in_bytes
  its_block =
      let l : size e - 8 ≡ length e.block = omega arith in
      ap (λ (k : ℕ). take k (e.block ++ rest)) l ∙ take-append_seam e.block rest

  pub first_back : first_entry (entry_bytes e ++ rest) ≡ e
  unfolding first_entry
  first_back =
      let b : take (field (entry_bytes e ++ rest) 0 2 - 8) (drop 8 (entry_bytes e ++ rest)) ≡ e.block =
      ap (λ (k : ℕ). take (k - 8) (drop 8 (entry_bytes e ++ rest))) its_length ∙ its_block in
      λ i. record { party = its_party i; name = its_name i; block = b i }

  pub is_there : entry_there (entry_bytes e ++ rest) ≡ true
  unfolding entry_there
  is_there =
      let a : 8 ≤ field (entry_bytes e ++ rest) 0 2 = omega (arith, its_length) in
      let b : field (entry_bytes e ++ rest) 0 2 ≤ length (entry_bytes e ++ rest) = omega (arith, its_length, length-append (entry_bytes e) rest, length_entry e) in
      simp (le-leb 8 (field (entry_bytes e ++ rest) 0 2) a, le-leb (field (entry_bytes e ++ rest) 0 2) (length (entry_bytes e ++ rest)) b, eq-eqb (field (entry_bytes e ++ rest) 2 2) 5 its_kind)

  -- Its kind is not 0, so not all bytes are.
  pub not_zeros : zeros (entry_bytes e ++ rest) ≡ false
  unfolding zeros entry_bytes in_bytes
  not_zeros = third (eqb (size e % 256) 0) (eqb (size e / 256 % 256) 0)

  pub behind : drop (field (entry_bytes e ++ rest) 0 2) (entry_bytes e ++ rest) ≡ rest
  behind = ap (λ (k : ℕ). drop k (entry_bytes e ++ rest)) (its_length ∙ sym (length_entry e)) ∙ drop-append_seam (entry_bytes e) rest

-- One entry is read.
pub walk_entry : (n : ℕ) (before : List Entry) (e : Entry) (rest : List ℕ) → Fitting before e
    → walk (suc n) before (entry_bytes e ++ rest) ≡ walk n (before ++ (e ∷ [])) rest
unfolding walk
walk_entry n before e rest f =
    let s = small_size e f in
    let p : e.party < 65536 = omega (arith, f.its_party) in
    let bs = entry_bytes e ++ rest in
    let z = not_zeros e rest s p f.its_name in
    let t = is_there e rest s p f.its_name in
    let u : fits before (first_entry bs) ≡ true = ap (fits before) (first_back e rest s p f.its_name) ∙ is_true (fits before e) (fits_so before e f) in
    let w : walk (suc n) before bs ≡ walk n (before ++ (first_entry bs ∷ [])) (drop (field bs 0 2) bs) = simp (z, t, u) in
    w ∙ ap₂ (λ (x : Entry) (r : List ℕ). walk n (before ++ (x ∷ [])) r) (first_back e rest s p f.its_name) (behind e rest s p f.its_name)

pub walk_zeros : (n : ℕ) (before : List Entry) (bs : List ℕ) → zeros bs ≡ true → walk (suc n) before bs ≡ some before
unfolding walk
walk_zeros n before bs z = simp z

-- All entries are read, given as many steps as there are entries, and one for the zeros.
pub walk_back : (n k : ℕ) (before es : List Entry) → T (all_fit before es) → in_use es < n → walk n before (laid_out es ++ replicate k 0) ≡ some (before ++ es)
unfolding laid_out in_use
walk_back zero k before es t l = absurd (omega arith)
walk_back (suc n) k before [] t l = walk_zeros n before (replicate k 0) (zeros_all k) ∙ ap some (sym (append-nil before))
walk_back (suc n) k before (e ∷ es) t l =
    ap (walk (suc n) before) (append_assoc (entry_bytes e) (laid_out es) (replicate k 0))
    ∙ walk_entry n before e (laid_out es ++ replicate k 0) (fit_first before e es t)
    ∙ walk_back n k (before ++ (e ∷ [])) es (fit_rest before e es t) (omega arith)
    ∙ ap some (append_assoc before (e ∷ []) es)

pub read_back : (es : List Entry) → Legal es → entries (shelf_of es) ≡ some es
unfolding entries shelf_of
read_back es l =
    let n = shelf_length es l in
    let w : entries (shelf_of es) ≡ walk (suc (length (shelf_of es))) [] (shelf_of es) = simp (eq-eqb (length (shelf_of es)) SHELF_SIZE n) in
    w ∙ walk_back (suc (length (shelf_of es))) (SHELF_SIZE - in_use es) [] es l.each_fits (omega (arith, n, whole es l))
