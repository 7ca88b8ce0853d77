-- Numbers in bytes: a field is its first byte and the field behind it, and what is written in so many bytes is read back where it
-- fits. Assumes nothing.
use mathlib.Core.Path.{◌≡◌, refl, sym, ap, ap₂, ◌∙◌, subst}
use mathlib.Core.List.{List, [], ◌∷◌, ◌++◌}
use Prim.Native.Nat.{ℕ, zero, suc, ◌+◌, ◌-◌, ◌*◌, ◌/◌, ◌%◌, ◌^◌, ◌≤◌, ◌<◌}
use native.Mathlib.Nat.{pow-suc, pow-le-pow_right, zero-lt-suc, add-zero, zero-add, add-suc, suc-add}
use native.Mathlib.Omega.{arith}
use lib.ListN.{length, get_or, take, drop, set}
use lib.Seq.{drop-cons, sets, sets-eq, paste, paste-suc, take-length}
use Rattle.records.specs.Numerals.{Bytes, in_bytes, as_number, field}

-- A field, from its first byte on.
pub field_none : (s : List ℕ) (at : ℕ) → field s at 0 ≡ 0
unfolding field as_number
field_none s at = refl

pub field_cons : (s : List ℕ) (at n : ℕ) → at < length s → field s at (suc n) ≡ get_or s at 0 + 256 * field s (suc at) n
unfolding field as_number
field_cons s at n h = ap (λ (l : List ℕ). as_number (take (suc n) l)) (drop-cons s at 0 h)

-- One more byte below what was read.
pub field_more : (s : List ℕ) (at n : ℕ) {a i x : ℕ} → at < length s → a ≡ suc at → i ≡ suc n → x ≡ field s a n
    → x * 256 + get_or s at 0 ≡ field s at i
field_more s at n {a} {i} {x} h p q e =
    let v : x ≡ field s (suc at) n = e ∙ ap (λ (k : ℕ). field s k n) p in
    let w : x * 256 + get_or s at 0 ≡ field s at (suc n) = omega (arith, field_cons s at n h) in
    w ∙ ap (field s at) (sym q)

pub more_fits : (n : ℕ) {i x b : ℕ} → i ≡ suc n → x < 256 ^ n → b < 256 → x * 256 + b < 256 ^ i
more_fits n {i} {x} {b} q h l = subst (λ (k : ℕ). x * 256 + b < 256 ^ k) (sym q) (omega (arith, pow-suc 256 n))

pub to_eight : {i x : ℕ} → i ≤ 8 → x < 256 ^ i → x < 2 ^ 64
to_eight {i} {x} l h = let m : 256 ^ i ≤ 256 ^ 8 = pow-le-pow_right (zero-lt-suc 255) l in omega arith

-- Bytes written.
pub length_in_bytes : (n x : ℕ) → length (in_bytes n x) ≡ n
unfolding in_bytes
length_in_bytes zero x = refl
length_in_bytes (suc n) x = ap suc (length_in_bytes n (x / 256))

pub number_in_bytes : (n : ℕ) {x : ℕ} → x < 256 ^ n → as_number (in_bytes n x) ≡ x
unfolding as_number in_bytes
number_in_bytes zero h = omega arith
number_in_bytes (suc n) {x} h = omega (arith, number_in_bytes n {x = x / 256} (omega (arith, pow-suc 256 n)))

-- And so many bytes are those of their number.
pub bytes_of_number : (n : ℕ) (bs : List ℕ) → Bytes bs → n ≤ length bs → in_bytes n (as_number (take n bs)) ≡ take n bs
unfolding as_number in_bytes
bytes_of_number zero bs b h = refl
bytes_of_number (suc n) [] b h = absurd (omega arith)
bytes_of_number (suc n) (x ∷ bs) b h =
    let l : x < 256 = b.byte 0 in
    let q : (x + 256 * as_number (take n bs)) / 256 ≡ as_number (take n bs) = omega arith in
    let r : (x + 256 * as_number (take n bs)) % 256 ≡ x = omega arith in
    ap₂ ◌∷◌ r (ap (in_bytes n) q ∙ bytes_of_number n bs (record { byte = λ i. b.byte (suc i) }) (omega arith))

-- Stores one after the other.
pub sets_append : (vs ws l : List ℕ) (i : ℕ) → sets l i (vs ++ ws) ≡ sets (sets l i vs) (i + length vs) ws
sets_append [] ws l i = ap (λ (k : ℕ). sets l k ws) (sym (add-zero i))
sets_append (v ∷ vs) ws l i =
    sets_append vs ws (set l i v) (suc i)
    ∙ ap (λ (k : ℕ). sets (sets (set l i v) (suc i) vs) k ws) (suc-add i (length vs) ∙ sym (add-suc i (length vs)))

pub sets_front : (vs l : List ℕ) → length vs ≤ length l → sets l 0 vs ≡ vs ++ drop (length vs) l
sets_front vs l h = sets-eq vs l 0 (omega arith) ∙ ap (λ (k : ℕ). vs ++ drop k l) (zero-add (length vs))

-- The stores of a number's bytes: none done, one more, all done.
pub stores_begin : (s : List ℕ) (at n x : ℕ) → sets s (at + 0) (in_bytes (n - 0) x) ≡ sets s at (in_bytes n x)
stores_begin s at n x = let a : at + 0 ≡ at = omega arith in let b : n - 0 ≡ n = omega arith in ap₂ (λ (i k : ℕ). sets s i (in_bytes k x)) a b

pub stores_more : (s : List ℕ) (at n i x : ℕ) → i < n
    → sets (set s (at + i) (x % 256)) (at + (i + 1)) (in_bytes (n - (i + 1)) (x / 256)) ≡ sets s (at + i) (in_bytes (n - i) x)
unfolding in_bytes
stores_more s at n i x h =
    let a : at + (i + 1) ≡ suc (at + i) = omega arith in
    let b : n - i ≡ suc (n - (i + 1)) = omega arith in
    ap (λ (k : ℕ). sets (set s (at + i) (x % 256)) k (in_bytes (n - (i + 1)) (x / 256))) a ∙ ap (λ (k : ℕ). sets s (at + i) (in_bytes k x)) (sym b)

pub stores_end : (s : List ℕ) (at n i x : ℕ) → n ≤ i → sets s (at + i) (in_bytes (n - i) x) ≡ s
unfolding in_bytes
stores_end s at n i x h = let b : n - i ≡ 0 = omega arith in ap (λ (k : ℕ). sets s (at + i) (in_bytes k x)) b

-- The field that is read: none of it yet, and all of it.
pub field_begin : (s : List ℕ) (at n : ℕ) → 0 ≡ field s (at + n) (n - n)
field_begin s at n = let e : n - n ≡ 0 = omega arith in sym (ap (field s (at + n)) e ∙ field_none s (at + n))

pub small_begin : (n : ℕ) → 0 < 256 ^ (n - n)
small_begin n = let e : n - n ≡ 0 = omega arith in subst (λ (k : ℕ). 0 < 256 ^ k) (sym e) (zero-lt-suc 0)

pub field_end : (s : List ℕ) (at n k : ℕ) → k ≤ 0 → field s (at + k) (n - k) ≡ field s at n
field_end s at n k h = let a : at + k ≡ at = omega arith in let b : n - k ≡ n = omega arith in ap₂ (field s) a b

-- A copy that is at its end.
pub copied : (d : List ℕ) (at : ℕ) (s : List ℕ) (i : ℕ) → i ≤ length s → length s ≤ i → at + length s ≤ length d → paste d at s i ≡ sets d at s
copied d at s i l h m =
    let e : i ≡ length s = omega arith in
    ap (paste d at s) e ∙ ap (λ (x : List ℕ). take at d ++ x ++ drop (at + length s) d) (take-length s) ∙ sym (sets-eq s d at m)

pub copy_more : (d : List ℕ) (at : ℕ) (s : List ℕ) (i : ℕ) {x : List ℕ} → x ≡ paste d at s i → at + length s ≤ length d → i < length s
    → set x (at + i) (get_or s i 0) ≡ paste d at s (i + 1)
copy_more d at s i e m h =
    let n : suc i ≡ i + 1 = omega arith in
    ap (λ (y : List ℕ). set y (at + i) (get_or s i 0)) e ∙ paste-suc d at s i 0 (omega arith) h ∙ ap (paste d at s) n
