-- The runs of bytes, as the iterators of the code count them. Assumes nothing.
use mathlib.Core.Path.{◌≡◌, refl, ap, ◌∙◌}
use mathlib.Core.Bool.{Bool, true, false, cond, ◌&&◌}
use mathlib.Core.List.{List, [], ◌∷◌}
use Prim.Native.Nat.{ℕ, suc, ◌+◌, ◌≤◌}
use native.Mathlib.Omega.{arith}
use lib.Dec.{eqb}
use lib.Pointwise.{pointwise}
use lib.ListN.{length, take}
use Rattle.std.specs.List.{prefix_len, take_while}
use Rattle.text.specs.Tokens.{is_space, in_word, spaces_of, word_of, same}

pub spaces_passed : (l : List ℕ) → length (take_while is_space l) ≡ spaces_of l
unfolding spaces_of
spaces_passed [] = refl
spaces_passed (b ∷ l) = go (is_space b) (spaces_passed l)
  where
    go : (z : Bool) → length (take_while is_space l) ≡ spaces_of l → length (take (cond z (1 + prefix_len is_space l) 0) (b ∷ l)) ≡ cond z (suc (spaces_of l)) 0
    go true h = let e : 1 + prefix_len is_space l ≡ suc (prefix_len is_space l) = omega arith in ap (λ (n : ℕ). length (take n (b ∷ l))) e ∙ ap suc h
    go false h = refl

pub word_passed : (l : List ℕ) → length (take_while in_word l) ≡ length (word_of l)
unfolding word_of
word_passed [] = refl
word_passed (b ∷ l) = go (in_word b) (word_passed l)
  where
    go : (z : Bool) → length (take_while in_word l) ≡ length (word_of l) → length (take (cond z (1 + prefix_len in_word l) 0) (b ∷ l)) ≡ length (cond z (b ∷ word_of l) [])
    go true h = let e : 1 + prefix_len in_word l ≡ suc (prefix_len in_word l) = omega arith in ap (λ (n : ℕ). length (take n (b ∷ l))) e ∙ ap suc h
    go false h = refl

-- A word lies within the bytes that it begins.
pub word_within : (l : List ℕ) → length (word_of l) ≤ length l
unfolding word_of
word_within [] = omega arith
word_within (b ∷ l) = go (in_word b) (word_within l)
  where
    go : (z : Bool) → length (word_of l) ≤ length l → length (cond z (b ∷ word_of l) []) ≤ suc (length l)
    go true h = omega (arith, h)
    go false h = omega arith

-- Two words are the same where the code finds the slices equal.
pub same_slices : (x y : List ℕ) → pointwise eqb x y ≡ same x y
unfolding same
same_slices [] [] = refl
same_slices [] (b ∷ y) = refl
same_slices (a ∷ x) [] = refl
same_slices (a ∷ x) (b ∷ y) = ap (λ (z : Bool). eqb a b && z) (same_slices x y)
