-- Two words as a set of pauses: each law is one of bits below 64 and one of bits from 64 on. Assumes nothing.
use mathlib.Core.Path.{◌≡◌, sym, ap, ap₂, ◌∙◌}
use mathlib.Core.Bool.{Bool, true, false, not, cond, ◌&&◌, ◌||◌, or-false}
use mathlib.Core.List.{List, [], ◌∷◌}
use Prim.Native.Nat.{ℕ, ◌+◌, ◌-◌, ◌*◌, ◌/◌, ◌%◌, ◌^◌, ◌≤◌, ◌<◌}
use native.Mathlib.Decide.{dec_lt}
use native.Mathlib.Omega.{arith}
use lib.Dec.{eqb, ltb, lt→ltb, ltb→lt, eqb→eq}
use lib.ListN.{get_or}
use lib.Bits.{bit_and, bit_or}
use borrow.Author.Tests.{eq-eqb, ne_eqb}
use Rattle.sets.specs.Numbers.{Numbers, empty, single, union, only_if, count}
use Rattle.sets.specs.Words.{bits, two_words, set_of}
use Rattle.sets.proofs.Members.{is_true, is_false, ext, same, eqb_in, eqb_not}
use Rattle.sets.proofs.Counts.{count_add, count_cong}
use Rattle.sets.proofs.Words.{bits_first, bits_suc, bits_zero, bits_or}
use Rattle.words.specs.declared.pauses.Kept.{Kept}
use Rattle.words.specs.Words.{KeptWith}
use Rattle.words.proofs.WordLaws.{shifted, test_bit}

pub low_pause : (ws : List ℕ) (n : ℕ) → n < 64 → set_of ws n ≡ bits (get_or ws 0 0) n
unfolding two_words
low_pause ws n h = ap (λ (b : Bool). cond b (bits (get_or ws 0 0) n) (bits (get_or ws 1 0) (n - 64))) (is_true (ltb n 64) (lt→ltb n 64 h))

pub high_pause : (ws : List ℕ) (n : ℕ) → 64 ≤ n → set_of ws n ≡ bits (get_or ws 1 0) (n - 64)
unfolding two_words
high_pause ws n h =
    ap (λ (b : Bool). cond b (bits (get_or ws 0 0) n) (bits (get_or ws 1 0) (n - 64))) (is_false (ltb n 64) (λ t. let l = ltb→lt n 64 t in omega arith))

by_half : {f g : Numbers} → ((n : ℕ) → n < 64 → f n ≡ g n) → ((n : ℕ) → 64 ≤ n → f n ≡ g n) → f ≡ g
by_half {f} {g} low high = ext (λ n. go n (dec_lt n 64))
  where
    go : (n : ℕ) → Dec (n < 64) → f n ≡ g n
    go n (yes l) = low n l
    go n (no l) = high n (omega arith)

pub pauses_eq : (ws : List ℕ) {f : Numbers} → ((n : ℕ) → n < 64 → bits (get_or ws 0 0) n ≡ f n) → ((n : ℕ) → 64 ≤ n → bits (get_or ws 1 0) (n - 64) ≡ f n) → set_of ws ≡ f
pauses_eq ws low high = by_half (λ n h. low_pause ws n h ∙ low n h) (λ n h. high_pause ws n h ∙ high n h)

pub none_kept : set_of (0 ∷ 0 ∷ []) ≡ empty
none_kept = pauses_eq (0 ∷ 0 ∷ []) (λ n h. bits_zero n) (λ n h. bits_zero (n - 64))

pub low_one : (b n : ℕ) → n < 64 → bits b ≡ single n → set_of (b ∷ 0 ∷ []) ≡ single n
low_one b n l e =
    pauses_eq (b ∷ 0 ∷ []) (λ k h. ap (λ (f : Numbers). f k) e) (λ k h. bits_zero (k - 64) ∙ sym (eqb_not k n (λ q. omega arith)))

pub high_one : (b n : ℕ) → 64 ≤ n → bits b ≡ single (n - 64) → set_of (0 ∷ b ∷ []) ≡ single n
high_one b n l e = pauses_eq (0 ∷ b ∷ []) (λ k h. bits_zero k ∙ sym (eqb_not k n (λ q. omega arith))) (λ k h. ap (λ (f : Numbers). f (k - 64)) e ∙ shift k h)
  where
    shift : (k : ℕ) → 64 ≤ k → eqb (k - 64) (n - 64) ≡ eqb k n
    shift k h =
        same (eqb (k - 64) (n - 64)) (eqb k n)
        (λ t. let q = eqb→eq (k - 64) (n - 64) t in eqb_in {m = k} {n = n} (omega arith))
        (λ t. eqb_in (ap (λ (x : ℕ). x - 64) (eqb→eq k n t)))

pub joined_is : (a b : List ℕ) → set_of (bit_or (get_or a 0 0) (get_or b 0 0) ∷ bit_or (get_or a 1 0) (get_or b 1 0) ∷ []) ≡ union (set_of a) (set_of b)
joined_is a b =
    pauses_eq (bit_or (get_or a 0 0) (get_or b 0 0) ∷ bit_or (get_or a 1 0) (get_or b 1 0) ∷ [])
    (λ n h. bits_or (get_or a 0 0) (get_or b 0 0) n ∙ ap₂ (λ (x y : Bool). x || y) (sym (low_pause a n h)) (sym (low_pause b n h)))
    (λ n h. bits_or (get_or a 1 0) (get_or b 1 0) (n - 64) ∙ ap₂ (λ (x y : Bool). x || y) (sym (high_pause a n h)) (sym (high_pause b n h)))

pub low_test : (a : List ℕ) (n : ℕ) → n < 64 → not (eqb (bit_and (get_or a 0 0) ((1 * 2 ^ n) % 2 ^ 64)) 0) ≡ (ltb n 128 && set_of a n)
low_test a n h =
    test_bit (get_or a 0 0) ((1 * 2 ^ n) % 2 ^ 64) n (shifted 64 h) ∙ sym (low_pause a n h)
    ∙ ap (λ (b : Bool). b && set_of a n) (sym (is_true (ltb n 128) (lt→ltb n 128 (omega arith))))

pub high_test : (a : List ℕ) (n : ℕ) → 64 ≤ n → n < 128 → not (eqb (bit_and (get_or a 1 0) ((1 * 2 ^ (n - 64)) % 2 ^ 64)) 0) ≡ (ltb n 128 && set_of a n)
high_test a n h l =
    test_bit (get_or a 1 0) ((1 * 2 ^ (n - 64)) % 2 ^ 64) (n - 64) (shifted 64 (omega arith)) ∙ sym (high_pause a n h)
    ∙ ap (λ (b : Bool). b && set_of a n) (sym (is_true (ltb n 128) (lt→ltb n 128 l)))

pub no_test : (a : List ℕ) (n : ℕ) → 128 ≤ n → false ≡ (ltb n 128 && set_of a n)
no_test a n h = ap (λ (b : Bool). b && set_of a n) (sym (is_false (ltb n 128) (λ t. let l = ltb→lt n 128 t in omega arith)))

second_bit : (c : ℕ) → bits c 1 ≡ eqb (c / 2 % 2) 1
second_bit c = bits_suc c 0 ∙ bits_first (c / 2)

pub kept_one : (c : ℕ) (a : List ℕ) → c / 2 % 2 ≡ 1 → set_of a ≡ only_if (bits c 1) (set_of a)
kept_one c a e = ap (λ (b : Bool). only_if b (set_of a)) (sym (second_bit c ∙ eq-eqb (c / 2 % 2) 1 e))

pub kept_other : (c : ℕ) (a : List ℕ) → (c / 2 % 2 ≡ 1 → ⊥) → set_of (0 ∷ 0 ∷ []) ≡ only_if (bits c 1) (set_of a)
kept_other c a f = none_kept ∙ ap (λ (b : Bool). only_if b (set_of a)) (sym (second_bit c ∙ ne_eqb (c / 2 % 2) 1 f))

pub pauses_counted : (a : List ℕ) → count 64 (bits (get_or a 0 0)) + count 64 (bits (get_or a 1 0)) ≡ count 128 (set_of a)
pauses_counted a =
    ap₂ (λ (x y : ℕ). x + y)
    (count_cong 64 (bits (get_or a 0 0)) (set_of a) (λ k q. sym (low_pause a k q)))
    (count_cong 64 (bits (get_or a 1 0)) (λ k. set_of a (64 + k)) (λ k q. sym (high_pause a (64 + k) (omega arith) ∙ ap (bits (get_or a 1 0)) (omega arith))))
    ∙ sym (count_add 64 64 (set_of a))

-- What is kept, from its parts.
pub kept_of : {r : Kept} {c : ℕ} {C A B : Numbers} → r.codes ≡ c → set_of r.pauses ≡ only_if (bits c 1) B → bits c ≡ C → B ≡ A → KeptWith r C A
kept_of h k f g = record { codes_are = ap bits h ∙ f; pauses_are = k ∙ ap₂ (λ (D X : Numbers). only_if (D 1) X) f g }

pub with_later : (z : Bool) (X Y : Numbers) → z ≡ true → union X Y ≡ union X (only_if z Y)
with_later z X Y e = ap (λ (b : Bool). union X (only_if b Y)) (sym e)

pub without_later : (z : Bool) (X Y : Numbers) → z ≡ false → X ≡ union X (only_if z Y)
without_later z X Y e = ext (λ n. sym (or-false (X n))) ∙ ap (λ (b : Bool). union X (only_if b Y)) (sym e)
