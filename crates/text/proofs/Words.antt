-- Words, names and numbers as bytes: what is written in decimal is a number that is read back, and names made from numbers are names and
-- are kept apart. Assumes nothing.
use mathlib.Core.Path.{◌≡◌, refl, sym, ap, ap₂, ◌∙◌, subst}
use mathlib.Core.Bool.{Bool, true, false, cond, not, ◌&&◌, ◌||◌}
use mathlib.Core.List.{List, [], ◌∷◌}
use mathlib.Core.Option.{Option, none, some}
use Prim.Native.Nat.{ℕ, zero, suc, ◌+◌, ◌-◌, ◌*◌, ◌/◌, ◌%◌, ◌^◌, ◌≤◌, ◌<◌}
use native.Mathlib.Nat.{pow-suc}
use native.Mathlib.Omega.{arith}
use borrow.Author.Tests.{le-leb, ne_eqb, lt-ltb}
use lib.Dec.{T, eqb, eqb→eq, ltb, ltb→lt, leb, leb→le, nltb→le}
use lib.ListN.{length, get_or}
use Rattle.sets.proofs.Members.{or_left, or_right}
use Rattle.text.specs.Tokens.{name, number, no_token, is_digit, is_letter, in_word, keywords}
use Rattle.text.specs.Tokens.{same, keyword_from, all_digits, value_from, is_number, no_keyword, word_or, word_token}
use Rattle.text.specs.Shown.{decimal_in, decimal, letter, signal_word, trap_word}
use Rattle.text.proofs.ShownMeans.{Naming}

and_true : {y z : Bool} → y ≡ true → z ≡ true → (y && z) ≡ true
and_true e f = ap₂ (λ (y z : Bool). y && z) e f

pub both_so : (y z : Bool) → T (y && z) → T y × T z
both_so true z t = (tt, t)
both_so false z t = absurd t

so_true : {z : Bool} → z ≡ true → T z
so_true e = subst T (sym e) tt

pub true_so : (z : Bool) → T z → z ≡ true
true_so true t = refl
true_so false t = absurd t

-- The same bytes.
pub same_bytes : (x y : List ℕ) → T (same x y) → x ≡ y
unfolding same
same_bytes [] [] t = refl
same_bytes [] (b ∷ y) t = absurd t
same_bytes (a ∷ x) [] t = absurd t
same_bytes (a ∷ x) (b ∷ y) t =
    let r = both_so (eqb a b) (same x y) t in ap₂ (λ (c : ℕ) (l : List ℕ). c ∷ l) (eqb→eq a b r.0) (same_bytes x y r.1)

pub other_bytes : (x y : List ℕ) → (x ≡ y → ⊥) → same x y ≡ false
other_bytes x y n = go (same x y) refl
  where
    go : (z : Bool) → same x y ≡ z → same x y ≡ false
    go true e = absurd (n (same_bytes x y (so_true e)))
    go false e = e

-- A word: some letters and digits.
abbrev pub wordy : List ℕ → Bool
wordy [] = true
wordy (b ∷ w) = in_word b && wordy w

-- A digit.
record Digit (b : ℕ) : Type 0 where
  low : 48 ≤ b
  high : b ≤ 57

digit_is : (b : ℕ) → Digit b → is_digit b ≡ true
digit_is b d = and_true (le-leb 48 b d.low) (le-leb b 57 d.high)

digit_word : (b : ℕ) → Digit b → in_word b ≡ true
digit_word b d = true_so (in_word b) (or_right (is_letter b) (is_digit b) (so_true (digit_is b d)))

the_digit : (n : ℕ) → Digit (48 + n % 10)
the_digit n = record { low = omega arith; high = omega arith }

decimal_digits : (f n : ℕ) (r : List ℕ) → T (all_digits r) → T (all_digits (decimal_in f n r))
unfolding decimal_in all_digits
decimal_digits zero n r t = t
decimal_digits (suc f) n r t = go (ltb n 10) (decimal_digits f (n / 10) ((48 + n % 10) ∷ r)) now
  where
    now : T (is_digit (48 + n % 10) && all_digits r)
    now = so_true (and_true (digit_is (48 + n % 10) (the_digit n)) (true_so (all_digits r) t))

    go : (z : Bool) → (T (all_digits ((48 + n % 10) ∷ r)) → T (all_digits (decimal_in f (n / 10) ((48 + n % 10) ∷ r)))) → T (all_digits ((48 + n % 10) ∷ r))
        → T (all_digits (cond z ((48 + n % 10) ∷ r) (decimal_in f (n / 10) ((48 + n % 10) ∷ r))))
    go true ih d = d
    go false ih d = ih d

-- What was written is read back.
decimal_value : (f n : ℕ) (r : List ℕ) → n < f → value_from 0 (decimal_in f n r) ≡ value_from n r
unfolding decimal_in value_from
decimal_value zero n r l = absurd (omega (arith, l))
decimal_value (suc f) n r l = go (ltb n 10) refl (λ z. decimal_value f (n / 10) ((48 + n % 10) ∷ r) (omega (arith, z, l)))
  where
    small : n < 10 → 0 * 10 + (48 + n % 10 - 48) ≡ n
    small h = omega (arith, h)

    large : n / 10 * 10 + (48 + n % 10 - 48) ≡ n
    large = omega arith

    go : (z : Bool) → ltb n 10 ≡ z → (10 ≤ n → value_from 0 (decimal_in f (n / 10) ((48 + n % 10) ∷ r)) ≡ value_from (n / 10) ((48 + n % 10) ∷ r))
        → value_from 0 (cond z ((48 + n % 10) ∷ r) (decimal_in f (n / 10) ((48 + n % 10) ∷ r))) ≡ value_from n r
    go true q ih = ap (λ (v : ℕ). value_from v r) (small (ltb→lt n 10 (so_true q)))
    go false q ih = ih (nltb→le n 10 (so_true (ap not q))) ∙ ap (λ (v : ℕ). value_from v r) large

pub decimal_back : (n : ℕ) → value_from 0 (decimal n) ≡ n
unfolding value_from
decimal_back n = decimal_value (suc n) n [] (omega arith)

-- How many digits there are.
pub decimal_length : (j f n : ℕ) (r : List ℕ) → n < 10 ^ suc j → length (decimal_in f n r) ≤ suc j + length r
unfolding decimal_in
decimal_length j zero n r l = omega arith
decimal_length zero (suc f) n r l =
    ap_le (λ (z : Bool). length (cond z ((48 + n % 10) ∷ r) (decimal_in f (n / 10) ((48 + n % 10) ∷ r)))) (lt-ltb n 10 (omega (arith, l))) (omega arith)
  where
    ap_le : (h : Bool → ℕ) {y z : Bool} {m : ℕ} → y ≡ z → h z ≤ m → h y ≤ m
    ap_le h {m = m} e k = subst (λ (n : ℕ). n ≤ m) (sym (ap h e)) k
decimal_length (suc j) (suc f) n r l = go (ltb n 10) (decimal_length j f (n / 10) ((48 + n % 10) ∷ r) (omega (arith, l, pow-suc 10 (suc j))))
  where
    go : (z : Bool) → length (decimal_in f (n / 10) ((48 + n % 10) ∷ r)) ≤ suc j + suc (length r)
        → length (cond z ((48 + n % 10) ∷ r) (decimal_in f (n / 10) ((48 + n % 10) ∷ r))) ≤ suc (suc j) + length r
    go true ih = omega arith
    go false ih = omega (arith, ih)

-- There is a digit.
pub decimal_some : (f n : ℕ) (r : List ℕ) → decimal_in (suc f) n r ≡ [] → ⊥
unfolding decimal_in
decimal_some zero n r e = go (ltb n 10) e
  where
    go : (z : Bool) → cond z ((48 + n % 10) ∷ r) ((48 + n % 10) ∷ r) ≡ [] → ⊥
    go true e = let z : ◌≡◌ {A = ℕ} 0 1 = cc in omega arith
    go false e = let z : ◌≡◌ {A = ℕ} 0 1 = cc in omega arith
decimal_some (suc f) n r e = go (ltb n 10) (λ h. decimal_some f (n / 10) ((48 + n % 10) ∷ r) h) e
  where
    go : (z : Bool) → (decimal_in (suc f) (n / 10) ((48 + n % 10) ∷ r) ≡ [] → ⊥) → cond z ((48 + n % 10) ∷ r) (decimal_in (suc f) (n / 10) ((48 + n % 10) ∷ r)) ≡ [] → ⊥
    go true ih e = let z : ◌≡◌ {A = ℕ} 0 1 = cc in omega arith
    go false ih e = ih e

pub below_leb : (a c : ℕ) → c < a → leb a c ≡ false
below_leb a c l = go (leb a c) refl
  where
    go : (z : Bool) → leb a c ≡ z → leb a c ≡ false
    go true e = let h = leb→le a c (so_true e) in absurd (omega (arith, h, l))
    go false e = e

-- Digits are a word.
digits_wordy : (w : List ℕ) → T (all_digits w) → T (wordy w)
unfolding all_digits
digits_wordy [] t = tt
digits_wordy (b ∷ w) t =
    let r = both_so (is_digit b) (all_digits w) t in
    so_true (and_true (true_so (in_word b) (or_right (is_letter b) (is_digit b) r.0)) (true_so (wordy w) (digits_wordy w r.1)))

pub decimal_wordy : (n : ℕ) → T (wordy (decimal n))
unfolding all_digits
decimal_wordy n = digits_wordy (decimal n) (decimal_digits (suc n) n [] tt)

-- A word that begins below the small letters is no keyword.
abbrev small_letters : List (List ℕ) → Bool
small_letters [] = true
small_letters (k ∷ ks) = leb 97 (get_or k 0 0) && small_letters ks

not_keyword : (i : ℕ) (ks : List (List ℕ)) (c : ℕ) (w : List ℕ) → T (small_letters ks) → c < 97 → keyword_from i ks (c ∷ w) ≡ none
unfolding keyword_from same
not_keyword i [] c w t l = refl
not_keyword i ([] ∷ ks) c w t l = absurd (both_so (leb 97 0) (small_letters ks) t).0
not_keyword i ((b ∷ k) ∷ ks) c w t l =
    let r = both_so (leb 97 b) (small_letters ks) t in
    let h = leb→le 97 b r.0 in
    ap (λ (z : Bool). cond (z && same k w) (some i) (keyword_from (suc i) ks (c ∷ w))) (ne_eqb b c (λ e. omega (arith, e, h, l))) ∙ not_keyword (suc i) ks c w r.1 l

-- A name is a word, and its token is the name.
pub record Nameable (x : List ℕ) : Type 0 where
  pub its_letter : ℕ
  pub its_rest : List ℕ
  pub is_it : x ≡ its_letter ∷ its_rest
  pub is_word : T (wordy x)
  pub its_token : word_token x ≡ name x

a_name : (c n : ℕ) → c < 97 → T (is_letter c) → n < 100 → Nameable (c ∷ decimal n)
unfolding word_token word_or no_keyword
a_name c n l t h =
    let short : leb (length (c ∷ decimal n)) 16 ≡ true = le-leb (length (c ∷ decimal n)) 16 (omega (arith, decimal_length 1 (suc n) n [] (omega (arith, h)))) in
    record {
      its_letter = c;
      its_rest = decimal n;
      is_it = refl;
      is_word = so_true (and_true (true_so (in_word c) (or_left (is_letter c) (is_digit c) t)) (true_so (wordy (decimal n)) (decimal_wordy n)));
      its_token = ap (λ (o : Option ℕ). word_or (c ∷ decimal n) o) (not_keyword 0 keywords c (decimal n) tt l)
          ∙ ap (λ (z : Bool). cond z (name (c ∷ decimal n)) (cond (is_number (c ∷ decimal n)) (number (value_from 0 (c ∷ decimal n))) no_token)) (and_true (true_so (is_letter c) t) short);
    }

pub signal_nameable : (i o s : ℕ) → s < 64 → Nameable (signal_word i o s)
signal_nameable i o s l = go (ltb s i) (ltb s (i + o))
  where
    go : (y z : Bool) → Nameable (cond y 73 (cond z 79 83) ∷ decimal s)
    go true z = a_name 73 s (omega arith) tt (omega (arith, l))
    go false true = a_name 79 s (omega arith) tt (omega (arith, l))
    go false false = a_name 83 s (omega arith) tt (omega (arith, l))

pub trap_nameable : (j : ℕ) → j < 64 → Nameable (trap_word j)
trap_nameable j l = a_name 84 j (omega arith) tt (omega (arith, l))

-- Different things have different names.
tail_of : List ℕ → List ℕ
tail_of [] = []
tail_of (b ∷ l) = l

numbers_apart : (c d a b : ℕ) → (a ≡ b → ⊥) → same (c ∷ decimal a) (d ∷ decimal b) ≡ false
unfolding tail_of
numbers_apart c d a b n = other_bytes (c ∷ decimal a) (d ∷ decimal b) λ e. n (sym (decimal_back a) ∙ ap (λ (l : List ℕ). value_from 0 (tail_of l)) e ∙ decimal_back b)

pub names_apart : (i o : ℕ) → Naming (signal_word i o) trap_word
unfolding same
names_apart i o = record {
  signals_apart = λ a b n. numbers_apart (letter i o a) (letter i o b) a b n;
  traps_apart = λ a b n. numbers_apart 84 84 a b n;
  signal_trap = λ a b. ap (λ (z : Bool). z && same (decimal a) (decimal b)) (no_t (ltb a i) (ltb a (i + o)));
  trap_signal = λ a b. ap (λ (z : Bool). z && same (decimal a) (decimal b)) (t_no (ltb b i) (ltb b (i + o)));
}
  where
    no_t : (y z : Bool) → eqb (cond y 73 (cond z 79 83)) 84 ≡ false
    no_t true z = refl
    no_t false true = refl
    no_t false false = refl

    t_no : (y z : Bool) → eqb 84 (cond y 73 (cond z 79 83)) ≡ false
    t_no true z = refl
    t_no false true = refl
    t_no false false = refl

-- A version is a number.
pub version_token : (v : ℕ) → v < 65536 → word_token (decimal v) ≡ number v
unfolding word_token word_or no_keyword is_number all_digits
version_token v l = go (decimal v) (decimal_digits (suc v) v [] tt) (decimal_back v) (decimal_length 4 (suc v) v [] (omega (arith, l))) (decimal_some v v [])
  where
    go : (w : List ℕ) → T (all_digits w) → value_from 0 w ≡ v → length w ≤ 5 + 0 → (w ≡ [] → ⊥) → word_or w (keyword_from 0 keywords w) ≡ number v
    go [] t e h n = absurd (n refl)
    go (c ∷ w) t e h n =
        let d = both_so (is_digit c) (all_digits w) t in
        let b = both_so (leb 48 c) (leb c 57) d.0 in
        let high = leb→le c 57 b.1 in
        let no_letter : is_letter c ≡ false =
        ap₂ (λ (y z : Bool). y && leb c 90 || z && leb c 122) (below_leb 65 c (omega (arith, high))) (below_leb 97 c (omega (arith, high))) in
        let fits : leb (value_from 0 (c ∷ w)) 65535 ≡ true = le-leb (value_from 0 (c ∷ w)) 65535 (omega (arith, e, l)) in
        ap (λ (o : Option ℕ). word_or (c ∷ w) o) (not_keyword 0 keywords c w tt (omega (arith, high)))
        ∙ ap (λ (z : Bool). cond (z && leb (length (c ∷ w)) 16) (name (c ∷ w)) (cond (is_number (c ∷ w)) (number (value_from 0 (c ∷ w))) no_token)) no_letter
        ∙ ap (λ (z : Bool). cond z (number (value_from 0 (c ∷ w))) no_token) (and_true (true_so (all_digits (c ∷ w)) t) (and_true (le-leb (length (c ∷ w)) 5 (omega (arith, h))) fits))
        ∙ ap number e
