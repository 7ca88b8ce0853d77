-- Values laid one after the other: what is left of them begins with the next one, and all of them fill the bytes that are lent for them.
-- Assumes nothing.
use mathlib.Core.Path.{◌≡◌, refl, sym, ap, ap₂, ◌∙◌, subst}
use mathlib.Core.Bool.{Bool, cond}
use mathlib.Core.List.{List, [], ◌∷◌, ◌++◌, append-nil}
use Prim.Native.Nat.{ℕ, suc, ◌+◌, ◌*◌, ◌^◌, ◌≤◌, ◌<◌}
use native.Mathlib.Omega.{arith}
use lib.ListN.{length, get_or, drop, length-append, drop_of_length-le}
use lib.Seq.{drop-cons, drop-length, sets}
use borrow.Author.Tests.{eq-eqb, ne_eqb}
use Rattle.records.specs.Numerals.{in_bytes}
use Rattle.records.proofs.Bytes.{length_in_bytes, sets_append, sets_front}
use Rattle.values.proofs.Counts.{Counted}
use Rattle.exports.specs.Layout.{laid, lent, ANSWER, Answers, AnswersOwed, Stays, BLOCK_MOST, lent_both, AnswersBoth}

pub length_laid : (xs : List ℕ) → length (laid xs) ≡ 8 * length xs
unfolding laid
length_laid [] = refl
length_laid (x ∷ xs) =
    let e = length-append (in_bytes 8 x) (laid xs) in
    omega (arith, e, length_in_bytes 8 x, length_laid xs)

-- What is left from the i-th value on.
laid_left : (xs : List ℕ) (i : ℕ) → i < length xs → laid (drop i xs) ≡ in_bytes 8 (get_or xs i 0) ++ laid (drop (i + 1) xs)
unfolding laid
laid_left xs i h =
    let q : suc i ≡ i + 1 = omega arith in
    ap laid (drop-cons xs i 0 h) ∙ ap (λ (k : ℕ). in_bytes 8 (get_or xs i 0) ++ laid (drop k xs)) q

-- One more value stored.
pub one_stored : (xs a : List ℕ) (i : ℕ) {a' : List ℕ} → i < length xs → a' ≡ sets a (8 * i) (in_bytes 8 (get_or xs i 0))
    → sets a' (8 * (i + 1)) (laid (drop (i + 1) xs)) ≡ sets a (8 * i) (laid (drop i xs))
one_stored xs a i {a'} h e =
    let v = in_bytes 8 (get_or xs i 0) in
    let rest = laid (drop (i + 1) xs) in
    let at : 8 * (i + 1) ≡ 8 * i + length v = omega (arith, length_in_bytes 8 (get_or xs i 0)) in
    ap₂ (λ (x : List ℕ) (n : ℕ). sets x n rest) e at
    ∙ sym (sets_append v rest a (8 * i))
    ∙ ap (sets a (8 * i)) (sym (laid_left xs i h))

-- Every value stored.
pub all_stored : (xs a : List ℕ) (i : ℕ) → length xs ≤ i → sets a (8 * i) (laid (drop i xs)) ≡ a
unfolding laid
all_stored xs a i h = ap (λ (l : List ℕ). sets a (8 * i) (laid l)) (drop_of_length-le xs h)

-- All of them fill the bytes that are lent for them.
pub filled : (xs a : List ℕ) → length a ≡ 8 * length xs → sets a 0 (laid xs) ≡ laid xs
filled xs a l =
    let n : length (laid xs) ≡ length a = length_laid xs ∙ sym l in
    sets_front (laid xs) a (omega arith) ∙ ap (λ (k : ℕ). laid xs ++ drop k a) n ∙ ap (λ (r : List ℕ). laid xs ++ r) (drop-length a)
    ∙ append-nil (laid xs)

-- Bytes lent for so many values, and another number of bytes.
pub at_length : {A : Type 0} (count : ℕ) (a : List ℕ) (x y : A) → length a ≡ 8 * count → x ≡ lent count a x y
unfolding lent
at_length count a x y e = sym (ap (λ (t : Bool). cond t x y) (eq-eqb (length a) (8 * count) e))

pub at_another : {A : Type 0} (count : ℕ) (a : List ℕ) (x y : A) → (length a ≡ 8 * count → ⊥) → y ≡ lent count a x y
unfolding lent
at_another count a x y e = sym (ap (λ (t : Bool). cond t x y) (ne_eqb (length a) (8 * count) e))

-- The whole answer, and the answer that is not given.
pub answered : (count : ℕ) (xs a : List ℕ) {vs a' : List ℕ} {r : ℕ} → length xs ≡ count → length a ≡ 8 * count → vs ≡ xs → ((i : ℕ) → get_or vs i 0 < 2 ^ 64)
    → a' ≡ sets a 0 (laid vs) → r ≡ get_or vs 0 0 → Answers count xs a a' r
answered count xs a {vs} {a'} {r} e l v f p n = record {
  number = n ∙ ap (λ (x : List ℕ). get_or x 0 0) v ∙ at_length count a (get_or xs 0 0) ANSWER l;
  answer = p ∙ ap (λ (x : List ℕ). sets a 0 (laid x)) v ∙ filled xs a (l ∙ ap (λ (k : ℕ). 8 * k) (sym e)) ∙ at_length count a (laid xs) a l;
  whole = λ d i. subst (λ (x : List ℕ). get_or x i 0 < 2 ^ 64) v (f i);
}

pub not_answered : (count : ℕ) (xs a : List ℕ) → (length a ≡ 8 * count → ⊥) → Answers count xs a a ANSWER
not_answered count xs a n = record {
  number = at_another count a (get_or xs 0 0) ANSWER n;
  answer = at_another count a (laid xs) a n;
  whole = λ d. absurd (n d);
}

-- The first of an answer's values is a refusal's number.
pub numbered : {count : ℕ} {vs xs : List ℕ} → 0 < count → vs ≡ xs → Counted count xs → (0 < length vs) × (get_or vs 0 0 < 65536)
numbered {count} {vs} {xs} p v k =
    let n : length vs ≡ count = ap length v ∙ k.counted in
    let first : get_or vs 0 0 ≡ get_or xs 0 0 = ap (λ (ys : List ℕ). get_or ys 0 0) v in
    (omega (arith, n, p), omega (arith, first, k.small))

-- An answer of these values is one of the values that are owed.
pub answered_by : (count : ℕ) {vs xs a a' : List ℕ} {r : ℕ} → length xs ≡ count → vs ≡ xs → Answers (length vs) vs a a' r → Answers count xs a a' r
answered_by count {vs} {xs} {a} {a'} {r} e v w =
    subst (λ (n : ℕ). Answers n xs a a' r) e (subst (λ (ys : List ℕ). Answers (length ys) ys a a' r) v w)

-- The same where a relation settles the values; other lent bytes stay where nothing is answered.
module _ (count : ℕ) (Owed : List ℕ → Type 0) (a : List ℕ) where
  pub owed_answered : {xs a' : List ℕ} {r : ℕ} → length a ≡ 8 * count → Owed xs → Answers count xs a a' r → AnswersOwed count Owed a a' r
  owed_answered {xs} l o w = record { values = λ d. (xs, o, w); unwritten = λ n. absurd (n l) }

  pub owed_not_answered : (length a ≡ 8 * count → ⊥) → AnswersOwed count Owed a a ANSWER
  owed_not_answered n = record { values = λ d. absurd (n d); unwritten = λ m. (refl, refl) }

module _ (count : ℕ) (a before : List ℕ) where
  pub stays_written : {after : List ℕ} → length a ≡ 8 * count → Stays count a before after
  stays_written l = record { unchanged = λ n. absurd (n l) }

  pub stays_unwritten : Stays count a before before
  stays_unwritten = record { unchanged = λ n. refl }

-- A block lent beside the answer, and another number of bytes for it.
pub block_at_length : {A : Type 0} (count : ℕ) (b a : List ℕ) (x y : A) → length b ≡ BLOCK_MOST → lent count a x y ≡ lent_both count b a x y
unfolding lent_both
block_at_length count b a x y e = sym (ap (λ (t : Bool). cond t (lent count a x y) y) (eq-eqb (length b) BLOCK_MOST e))

pub block_at_another : {A : Type 0} (count : ℕ) (b a : List ℕ) (x y : A) → (length b ≡ BLOCK_MOST → ⊥) → y ≡ lent_both count b a x y
unfolding lent_both
block_at_another count b a x y e = sym (ap (λ (t : Bool). cond t (lent count a x y) y) (ne_eqb (length b) BLOCK_MOST e))

pub answered_both : (count : ℕ) (b xs a : List ℕ) {a' : List ℕ} {r : ℕ} → length b ≡ BLOCK_MOST → Answers count xs a a' r → AnswersBoth count b xs a a' r
answered_both count b xs a e w = record {
  number = w.number ∙ block_at_length count b a (get_or xs 0 0) ANSWER e;
  answer = w.answer ∙ block_at_length count b a (laid xs) a e;
  whole = λ d. w.whole;
}

pub no_block_lent : (count : ℕ) (b xs a : List ℕ) → (length b ≡ BLOCK_MOST → ⊥) → AnswersBoth count b xs a a ANSWER
no_block_lent count b xs a n = record {
  number = block_at_another count b a (get_or xs 0 0) ANSWER n;
  answer = block_at_another count b a (laid xs) a n;
  whole = λ d. absurd (n d);
}
