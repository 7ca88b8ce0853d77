-- How an answer lies in the bytes that are lent for it: its values one after the other, each a number of 64 bits in 8 bytes, little-endian. What
-- the C header documents. Assumes nothing.
use Rattle.std.specs.Prelude.{◌≡◌, cond, List, [], ◌∷◌, ◌++◌, ℕ, ◌*◌, ◌^◌, ◌<◌, eqb, length, get_or}
use Rattle.records.specs.Numerals.{in_bytes}

unfoldable pub laid : List ℕ → List ℕ
laid [] = []
laid (x ∷ xs) = in_bytes 8 x ++ laid xs

-- The one where as many bytes are lent as so many values have, else the other.
unfoldable pub lent : {A : Type 0} → ℕ → List ℕ → A → A → A
lent count answer x y = cond (eqb (length answer) (8 * count)) x y

-- Given back where another number of bytes is lent for the answer; nothing is then written anywhere.
abbrev pub ANSWER : ℕ
ANSWER = 64

-- So many values are the answer: the number r that is given back is the first of them, and they stand in the answer's bytes, a before the call and
-- a' after it. Nothing of them is cut off: each is a number of 64 bits.
pub record Answers (count : ℕ) (values a a' : List ℕ) (r : ℕ) : Type 0 where
  pub number : r ≡ lent count a (get_or values 0 0) ANSWER
  pub answer : a' ≡ lent count a (laid values) a
  pub whole : length a ≡ 8 * count → (i : ℕ) → get_or values i 0 < 2 ^ 64

-- The same for values that a relation settles: where as many bytes are lent as they have, values that it holds of are the answer; else nothing is written.
pub record AnswersOwed (count : ℕ) (Owed : List ℕ → Type 0) (a a' : List ℕ) (r : ℕ) : Type 0 where
  pub values : length a ≡ 8 * count → (xs : List ℕ) × Owed xs × Answers count xs a a' r
  pub unwritten : (length a ≡ 8 * count → ⊥) → (r ≡ ANSWER) × (a' ≡ a)

-- Other lent bytes stay where another number of bytes is lent for the answer.
pub record Stays (count : ℕ) (a before after : List ℕ) : Type 0 where
  pub unchanged : (length a ≡ 8 * count → ⊥) → after ≡ before

-- How many bytes are lent for a block that is handed back: as many as a block has at most.
abbrev pub BLOCK_MOST : ℕ
BLOCK_MOST = 3086

-- The one where both are lent the bytes that they have, a block that is handed back and the answer; else the other.
unfoldable pub lent_both : {A : Type 0} → ℕ → List ℕ → List ℕ → A → A → A
unfolding lent
lent_both count block answer x y = cond (eqb (length block) BLOCK_MOST) (lent count answer x y) y

-- The same for a call that hands back a block: with another number of bytes lent for it, nothing is written anywhere either.
pub record AnswersBoth (count : ℕ) (block values a a' : List ℕ) (r : ℕ) : Type 0 where
  pub number : r ≡ lent_both count block a (get_or values 0 0) ANSWER
  pub answer : a' ≡ lent_both count block a (laid values) a
  pub whole : length block ≡ BLOCK_MOST → length a ≡ 8 * count → (i : ℕ) → get_or values i 0 < 2 ^ 64
