-- Fields one after the other: what is left of them begins with the next one, so that stores field by field make the whole; and both ways
-- round: values that fit their fields are read back, and bytes are those of their own values. Assumes nothing.
use mathlib.Core.Path.{◌≡◌, refl, sym, ap, ap₂, ◌∙◌, subst}
use mathlib.Core.List.{List, [], ◌∷◌, ◌++◌, append-nil, append_assoc}
use Prim.Native.Nat.{ℕ, zero, suc, ◌+◌, ◌^◌, ◌≤◌, ◌<◌}
use native.Mathlib.Omega.{arith}
use native.Mathlib.Nat.{add_assoc}
use lib.ListN.{length, get_or, take, drop, length-append, length-drop, drop_of_length-le, take-append-drop}
use lib.Seq.{sets, drop-cons, drop-drop, drop-length, take_at, drop-append-add, get_or-drop}
use Rattle.records.specs.Numerals.{Bytes, in_bytes, as_number, field}
use Rattle.records.specs.Fields.{size, place, laid, value, values, Fit}
use Rattle.records.proofs.Bytes.{length_in_bytes, number_in_bytes, bytes_of_number, sets_append, sets_front}

pub length_laid : (ws xs : List ℕ) → length (laid ws xs) ≡ size ws
unfolding laid
length_laid [] xs = refl
length_laid (w ∷ ws) [] = length-append (in_bytes w 0) (laid ws []) ∙ ap₂ ◌+◌ (length_in_bytes w 0) (length_laid ws [])
length_laid (w ∷ ws) (x ∷ xs) = length-append (in_bytes w x) (laid ws xs) ∙ ap₂ ◌+◌ (length_in_bytes w x) (length_laid ws xs)

-- What is left from field i on.
pub size_left : (ws : List ℕ) (i : ℕ) → i < length ws → size (drop i ws) ≡ get_or ws i 0 + size (drop (i + 1) ws)
size_left ws i h = let q : suc i ≡ i + 1 = omega arith in ap size (drop-cons ws i 0 h) ∙ ap (λ (k : ℕ). get_or ws i 0 + size (drop k ws)) q

laid_left : (ws xs : List ℕ) (i : ℕ) → i < length ws → i < length xs
    → laid (drop i ws) (drop i xs) ≡ in_bytes (get_or ws i 0) (get_or xs i 0) ++ laid (drop (i + 1) ws) (drop (i + 1) xs)
unfolding laid
laid_left ws xs i h l =
    let q : suc i ≡ i + 1 = omega arith in
    ap₂ laid (drop-cons ws i 0 h) (drop-cons xs i 0 l)
    ∙ ap (λ (k : ℕ). in_bytes (get_or ws i 0) (get_or xs i 0) ++ laid (drop k ws) (drop k xs)) q

-- One more field stored, and every field stored.
pub one_laid : (ws xs s : List ℕ) (i to : ℕ) {s' : List ℕ} → i < length ws → length ws ≡ length xs → s' ≡ sets s to (in_bytes (get_or ws i 0) (get_or xs i 0))
    → sets s' (to + get_or ws i 0) (laid (drop (i + 1) ws) (drop (i + 1) xs)) ≡ sets s to (laid (drop i ws) (drop i xs))
one_laid ws xs s i to {s'} h l e =
    let v = in_bytes (get_or ws i 0) (get_or xs i 0) in
    let rest = laid (drop (i + 1) ws) (drop (i + 1) xs) in
    let at : to + get_or ws i 0 ≡ to + length v = ap (λ (n : ℕ). to + n) (sym (length_in_bytes (get_or ws i 0) (get_or xs i 0))) in
    ap₂ (λ (x : List ℕ) (n : ℕ). sets x n rest) e at
    ∙ sym (sets_append v rest s to)
    ∙ ap (sets s to) (sym (laid_left ws xs i h (omega arith)))

pub all_laid : (ws xs s : List ℕ) (i to : ℕ) → length ws ≤ i → sets s to (laid (drop i ws) (drop i xs)) ≡ s
unfolding laid
all_laid ws xs s i to h = ap (λ (l : List ℕ). sets s to (laid l (drop i xs))) (drop_of_length-le ws h)

-- Fields stored at the front: what lies behind them stays, and where nothing does they are all there is.
pub laid_front : (ws xs s : List ℕ) → size ws ≤ length s → sets s 0 (laid ws xs) ≡ laid ws xs ++ drop (size ws) s
laid_front ws xs s h =
    sets_front (laid ws xs) s (omega (arith, length_laid ws xs)) ∙ ap (λ (k : ℕ). laid ws xs ++ drop k s) (length_laid ws xs)

pub laid_whole : (ws xs s : List ℕ) → length s ≡ size ws → sets s 0 (laid ws xs) ≡ laid ws xs
laid_whole ws xs s l =
    laid_front ws xs s (omega arith) ∙ ap (λ (k : ℕ). laid ws xs ++ drop k s) (sym l) ∙ ap (λ (r : List ℕ). laid ws xs ++ r) (drop-length s)
    ∙ append-nil (laid ws xs)

-- Where a field begins: behind the one before it.
pub place_next : (ws : List ℕ) (i : ℕ) → i < length ws → place ws i + get_or ws i 0 ≡ place ws (suc i)
place_next [] i h = absurd (omega arith)
place_next (w ∷ ws) zero h = omega arith
place_next (w ∷ ws) (suc i) h = add_assoc w (place ws i) (get_or ws i 0) ∙ ap (λ (n : ℕ). w + n) (place_next ws i (omega arith))

pub place_within : (ws : List ℕ) (i : ℕ) → place ws i ≤ size ws
place_within [] zero = omega arith
place_within [] (suc i) = omega arith
place_within (w ∷ ws) zero = omega arith
place_within (w ∷ ws) (suc i) = omega (arith, place_within ws i)

-- A value is read behind the fields before it.
value_behind : (w : ℕ) (ws front rest : List ℕ) (i : ℕ) → length front ≡ w → value (w ∷ ws) (suc i) (front ++ rest) ≡ value ws i rest
unfolding field
value_behind w ws front rest i e =
    ap (λ (l : List ℕ). as_number (take (get_or ws i 0) l))
    (ap (λ (n : ℕ). drop (n + place ws i) (front ++ rest)) (sym e) ∙ drop-append-add front rest (place ws i))

-- Written and read back: a value that fits its field, whatever lies behind the fields.
pub read_laid : (ws xs rest : List ℕ) (i : ℕ) → i < length ws → get_or xs i 0 < 256 ^ get_or ws i 0 → value ws i (laid ws xs ++ rest) ≡ get_or xs i 0
unfolding laid field
read_laid [] xs rest i h f = absurd (omega arith)
read_laid (w ∷ ws) [] rest zero h f =
    ap (λ (l : List ℕ). as_number (take w l)) (append_assoc (in_bytes w 0) (laid ws []) rest)
    ∙ ap as_number (take_at (in_bytes w 0) (laid ws [] ++ rest) w (length_in_bytes w 0)) ∙ number_in_bytes w f
read_laid (w ∷ ws) (x ∷ xs) rest zero h f =
    ap (λ (l : List ℕ). as_number (take w l)) (append_assoc (in_bytes w x) (laid ws xs) rest)
    ∙ ap as_number (take_at (in_bytes w x) (laid ws xs ++ rest) w (length_in_bytes w x)) ∙ number_in_bytes w f
read_laid (w ∷ ws) [] rest (suc i) h f =
    ap (value (w ∷ ws) (suc i)) (append_assoc (in_bytes w 0) (laid ws []) rest)
    ∙ value_behind w ws (in_bytes w 0) (laid ws [] ++ rest) i (length_in_bytes w 0) ∙ read_laid ws [] rest i (omega arith) f
read_laid (w ∷ ws) (x ∷ xs) rest (suc i) h f =
    ap (value (w ∷ ws) (suc i)) (append_assoc (in_bytes w x) (laid ws xs) rest)
    ∙ value_behind w ws (in_bytes w x) (laid ws xs ++ rest) i (length_in_bytes w x) ∙ read_laid ws xs rest i (omega arith) f

pub value_laid : (ws xs : List ℕ) (i : ℕ) → i < length ws → get_or xs i 0 < 256 ^ get_or ws i 0 → value ws i (laid ws xs) ≡ get_or xs i 0
value_laid ws xs i h f = ap (value ws i) (sym (append-nil (laid ws xs))) ∙ read_laid ws xs [] i h f

-- The same of all fields at once.
pub values_laid : (ws xs rest : List ℕ) → Fit ws xs → values ws (laid ws xs ++ rest) ≡ xs
unfolding laid values
values_laid [] [] rest f = refl
values_laid [] (x ∷ xs) rest f = absurd (omega (arith, f.as_many))
values_laid (w ∷ ws) [] rest f = absurd (omega (arith, f.as_many))
values_laid (w ∷ ws) (x ∷ xs) rest f =
    let behind : Fit ws xs = record { as_many = omega (arith, f.as_many); fits = λ i h. f.fits (suc i) (omega arith) } in
    ap (values (w ∷ ws)) (append_assoc (in_bytes w x) (laid ws xs) rest)
    ∙ ap₂ ◌∷◌
    (ap as_number (take_at (in_bytes w x) (laid ws xs ++ rest) w (length_in_bytes w x)) ∙ number_in_bytes w (f.fits 0 (omega arith)))
    (ap (values ws) (lib.Seq.drop_at (in_bytes w x) (laid ws xs ++ rest) w (length_in_bytes w x)) ∙ values_laid ws xs rest behind)

-- The values are those of the fields.
pub value_of : (ws bs : List ℕ) (i : ℕ) → i < length ws → get_or (values ws bs) i 0 ≡ value ws i bs
unfolding values field
value_of [] bs i h = absurd (omega arith)
value_of (w ∷ ws) bs zero h = refl
value_of (w ∷ ws) bs (suc i) h =
    value_of ws (drop w bs) i (omega arith) ∙ ap (λ (l : List ℕ). as_number (take (get_or ws i 0) l)) (drop-drop (place ws i) w bs)

-- Read and written back: bytes of that size are those of their own values.
pub laid_only : (ws bs : List ℕ) → Bytes bs → length bs ≡ size ws → laid ws (values ws bs) ≡ bs
unfolding laid values
laid_only [] [] b l = refl
laid_only [] (x ∷ bs) b l = absurd (omega arith)
laid_only (w ∷ ws) bs b l =
    let behind : Bytes (drop w bs) = record { byte = λ i. subst (λ (x : ℕ). x < 256) (sym (get_or-drop w bs i 0)) (b.byte (w + i)) } in
    ap₂ ◌++◌ (bytes_of_number w bs b (omega arith)) (laid_only ws (drop w bs) behind (length-drop w bs ∙ omega arith))
    ∙ take-append-drop w bs
