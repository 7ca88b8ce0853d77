-- Keywords by one number: bytes of the same key are the same, so the word with a key is the word that is spelt so. Assumes nothing.
use mathlib.Core.Path.{◌≡◌, refl, sym, ap, ap₂, ◌∙◌}
use mathlib.Core.Bool.{Bool, true, false, cond, ◌&&◌}
use mathlib.Core.List.{List, [], ◌∷◌}
use mathlib.Core.Option.{none, some}
use Rattle.std.specs.Prelude.{Option as Returned, Some, None}
use Prim.Native.Nat.{ℕ, zero, suc, ◌+◌, ◌*◌, ◌^◌, ◌≤◌, ◌<◌}
use native.Mathlib.Nat.{pow-le-pow_right, zero-lt-suc}
use native.Mathlib.Omega.{arith}
use native.Mathlib.Decide.{ℕ_discrete}
use borrow.Author.Tests.{eq-eqb, ne_eqb}
use lib.Dec.{T, eqb, leb, leb→le}
use lib.ListN.{length, get_or, take, drop, length-drop}
use lib.Seq.{take-length}
use Rattle.records.specs.Numerals.{Bytes, in_bytes, as_number, field}
use Rattle.records.proofs.Bytes.{bytes_of_number}
use Rattle.records.proofs.LegalStates.{field_lt}
use Rattle.text.specs.Tokens.{in_word, keywords, same, keyword_from, word_of}
use Rattle.text.specs.Coded.{returned, keyword_number, key, keyed}
use Rattle.text.proofs.Words.{both_so, other_bytes}
use Rattle.text.proofs.ShownMeans.{same_self}

-- A key of which a match knows, one after the other, that it is none of the list's.
unfoldable pub NoneKeyed : Type 0 → List (List ℕ) → ℕ → Type 0
unfolding as_number
NoneKeyed known [] k = known
NoneKeyed known (w ∷ ws) k = NoneKeyed (known × (k ≡ key w → ⊥)) ws k

pub none_keyed : (known : Type 0) (i : ℕ) (ws : List (List ℕ)) (k : ℕ) → NoneKeyed known ws k → known × (None ≡ keyed i ws k)
unfolding NoneKeyed keyed
none_keyed known i [] k h = (h, refl)
none_keyed known i (w ∷ ws) k h =
    let r = none_keyed (known × (k ≡ key w → ⊥)) (suc i) ws k h in
    (r.0.0, r.1 ∙ sym (ap (λ (b : Bool). cond b (Some i) (keyed (suc i) ws k)) (ne_eqb k (key w) r.0.1)))

-- Bytes of the same key are the same.
bytes_back : (x : List ℕ) → Bytes x → in_bytes (length x) (as_number x) ≡ x
bytes_back x b = ap (λ (l : List ℕ). in_bytes (length x) (as_number l)) (sym (take-length x)) ∙ bytes_of_number (length x) x b (omega arith) ∙ take-length x

pub key_same : (x y : List ℕ) → Bytes x → Bytes y → length x ≤ 7 → length y ≤ 7 → key x ≡ key y → x ≡ y
key_same x y b d l m e =
    let n : length x ≡ length y = omega (arith, e, l, m) in
    let v : as_number x ≡ as_number y = omega (arith, e, n) in
    sym (bytes_back x b) ∙ ap₂ in_bytes n v ∙ bytes_back y d

-- Words of at most seven bytes.
abbrev all_bytes : List ℕ → Bool
all_bytes [] = true
all_bytes (b ∷ w) = leb b 255 && all_bytes w

abbrev all_short : List (List ℕ) → Bool
all_short [] = true
all_short (w ∷ ws) = (leb (length w) 7 && all_bytes w) && all_short ws

are_bytes : (w : List ℕ) → T (all_bytes w) → (i : ℕ) → get_or w i 0 < 256
are_bytes [] t i = omega arith
are_bytes (b ∷ w) t zero = let h = leb→le b 255 (both_so (leb b 255) (all_bytes w) t).0 in omega (arith, h)
are_bytes (b ∷ w) t (suc i) = are_bytes w (both_so (leb b 255) (all_bytes w) t).1 i

keyed_in : (i : ℕ) (ws : List (List ℕ)) (x : List ℕ) → T (all_short ws) → Bytes x → length x ≤ 7 → keyed i ws (key x) ≡ returned (keyword_from i ws x)
unfolding keyed keyword_from returned
keyed_in i [] x t b l = refl
keyed_in i (w ∷ ws) x t b l =
    let r = both_so (leb (length w) 7 && all_bytes w) (all_short ws) t in
    let q = both_so (leb (length w) 7) (all_bytes w) r.0 in
    go (record { byte = are_bytes w q.1 }) (leb→le (length w) 7 q.0) (ℕ_discrete (key x) (key w)) (keyed_in (suc i) ws x r.1 b l)
  where
    go : Bytes w → length w ≤ 7 → Dec (key x ≡ key w) → keyed (suc i) ws (key x) ≡ returned (keyword_from (suc i) ws x)
        → cond (eqb (key x) (key w)) (Some i) (keyed (suc i) ws (key x)) ≡ returned (cond (same w x) (some i) (keyword_from (suc i) ws x))
    go d m (yes e) ih =
        let s : same w x ≡ true = ap (λ (z : List ℕ). same w z) (key_same x w b d l m e) ∙ same_self w in
        ap (λ (z : Bool). cond z (Some i) (keyed (suc i) ws (key x))) (eq-eqb (key x) (key w) e) ∙ sym (ap (λ (z : Bool). returned (cond z (some i) (keyword_from (suc i) ws x))) s)
    go d m (no n) ih =
        let s : same w x ≡ false = other_bytes w x (λ e. n (sym (ap key e))) in
        ap (λ (z : Bool). cond z (Some i) (keyed (suc i) ws (key x))) (ne_eqb (key x) (key w) n) ∙ ih
        ∙ sym (ap (λ (z : Bool). returned (cond z (some i) (keyword_from (suc i) ws x))) s)

long_in : (i : ℕ) (ws : List (List ℕ)) (x : List ℕ) → T (all_short ws) → 7 < length x → keyword_from i ws x ≡ none
unfolding keyword_from
long_in i [] x t l = refl
long_in i (w ∷ ws) x t l =
    let r = both_so (leb (length w) 7 && all_bytes w) (all_short ws) t in
    let h = leb→le (length w) 7 (both_so (leb (length w) 7) (all_bytes w) r.0).0 in
    ap (λ (z : Bool). cond z (some i) (keyword_from (suc i) ws x)) (other_bytes w x (λ e. let n = ap length e in omega (arith, n, h, l))) ∙ long_in (suc i) ws x r.1 l

-- A word is taken from the front.
pub word_taken : (bs : List ℕ) → take (length (word_of bs)) bs ≡ word_of bs
unfolding word_of
word_taken [] = refl
word_taken (b ∷ bs) = go (in_word b) (word_taken bs)
  where
    go : (z : Bool) → take (length (word_of bs)) bs ≡ word_of bs → take (length (cond z (b ∷ word_of bs) [])) (b ∷ bs) ≡ cond z (b ∷ word_of bs) []
    go true ih = ap (λ (l : List ℕ). b ∷ l) ih
    go false ih = refl

pub word_within : (bs : List ℕ) → length (word_of bs) ≤ length bs
unfolding word_of
word_within [] = omega arith
word_within (b ∷ bs) = go (in_word b) (word_within bs)
  where
    go : (z : Bool) → length (word_of bs) ≤ length bs → length (cond z (b ∷ word_of bs) []) ≤ suc (length bs)
    go true ih = omega (arith, ih)
    go false ih = omega arith

-- The word at a place of a text lies in it.
module _ (s : List ℕ) (at : ℕ) where
  pub word_inside : {n : ℕ} → n ≡ length (word_of (drop at s)) → (n ≡ 0 → ⊥) → at + n ≤ length s
  word_inside e h = omega (arith, e, h, word_within (drop at s), length-drop at s)

-- A word of at most seven bytes by its key, and one that is too long. Seven bytes leave room for the length.
module _ (w : List ℕ) where
  pub too_long : 7 < length w → None ≡ keyword_number w
  unfolding returned
  too_long l = sym (ap returned (long_in 0 keywords w tt l))

  pub by_key : {v : ℕ} {r : Returned ℕ} → Bytes w → length w ≤ 7 → v ≡ field w 0 (length w) → r ≡ keyed 0 keywords (v * 8 + length w) → r ≡ keyword_number w
  unfolding field
  by_key b l f q = q ∙ ap (λ (u : ℕ). keyed 0 keywords (u * 8 + length w)) (f ∙ ap as_number (take-length w)) ∙ keyed_in 0 keywords w tt b l

  pub field_short : Bytes w → length w ≤ 7 → field w 0 (length w) < 2 ^ 56
  field_short b l =
      let m : 256 ^ length w ≤ 256 ^ 7 = pow-le-pow_right (zero-lt-suc 255) l in
      let h = field_lt w b 0 (length w) in
      omega (arith, m, h)
