-- Entries as lists: what is laid out of two lists, the bytes in use, one's own among them. By induction on the first list.
-- Assumes nothing.
use mathlib.Core.Path.{◌≡◌, refl, sym, ap, ap₂, ◌∙◌}
use mathlib.Core.Bool.{Bool, true, false, cond, ◌&&◌, ◌||◌}
use mathlib.Core.List.{List, [], ◌∷◌, ◌++◌, append_assoc}
use Prim.Native.Nat.{ℕ, ◌+◌, ◌≤◌}
use native.Mathlib.Nat.{zero-add}
use native.Mathlib.Omega.{arith}
use lib.Dec.{eqb}
use lib.ListN.{length, length-append}
use Rattle.records.specs.Numerals.{in_bytes}
use Rattle.shelf.specs.Entries.{Entry, size, entry_bytes, laid_out, in_use, those, taken}

and_turn : (x y : Bool) → (x && y) ≡ (y && x)
and_turn true true = refl
and_turn true false = refl
and_turn false true = refl
and_turn false false = refl

pub those_append : {A : Type 0} (f : A → Bool) (xs ys : List A) → those f (xs ++ ys) ≡ those f xs ++ those f ys
unfolding those
those_append f [] ys = refl
those_append {A} f (x ∷ xs) ys = go (f x) (those_append f xs ys)
  where
    go : (z : Bool) → those f (xs ++ ys) ≡ those f xs ++ those f ys
        → cond z (x ∷ those f (xs ++ ys)) (those f (xs ++ ys)) ≡ cond z (x ∷ those f xs) (those f xs) ++ those f ys
    go true ih = ap (λ (l : List A). x ∷ l) ih
    go false ih = ih

-- One test after another is both of them, so the order of tests does not matter; tests that agree choose the same.
pub those_both : {A : Type 0} (f g : A → Bool) (xs : List A) → those g (those f xs) ≡ those (λ x. f x && g x) xs
unfolding those
those_both f g [] = refl
those_both {A} f g (x ∷ xs) = go (f x) (those_both f g xs)
  where
    go : (z : Bool) → those g (those f xs) ≡ those (λ x. f x && g x) xs
        → those g (cond z (x ∷ those f xs) (those f xs)) ≡ cond (z && g x) (x ∷ those (λ x. f x && g x) xs) (those (λ x. f x && g x) xs)
    go false ih = ih
    go true ih = ap (λ (l : List A). cond (g x) (x ∷ l) l) ih

pub those_same : {A : Type 0} (f g : A → Bool) (xs : List A) → ((x : A) → f x ≡ g x) → those f xs ≡ those g xs
unfolding those
those_same f g [] h = refl
those_same {A} f g (x ∷ xs) h = ap₂ (λ (z : Bool) (l : List A). cond z (x ∷ l) l) (h x) (those_same f g xs h)

pub those_turn : {A : Type 0} (f g : A → Bool) (xs : List A) → those g (those f xs) ≡ those f (those g xs)
those_turn f g xs = those_both f g xs ∙ those_same (λ x. f x && g x) (λ x. g x && f x) xs (λ x. and_turn (f x) (g x)) ∙ sym (those_both g f xs)

pub in_use_append : (a b : List Entry) → in_use (a ++ b) ≡ in_use a + in_use b
unfolding in_use
in_use_append [] b = sym (zero-add (in_use b))
in_use_append (e ∷ a) b = omega (arith, in_use_append a b)

-- Fewer entries use fewer bytes and have fewer names.
pub in_use_fewer : (f : Entry → Bool) (es : List Entry) → in_use (those f es) ≤ in_use es
unfolding in_use those
in_use_fewer f [] = omega arith
in_use_fewer f (e ∷ es) = go (f e) (in_use_fewer f es)
  where
    go : (z : Bool) → in_use (those f es) ≤ in_use es → in_use (cond z (e ∷ those f es) (those f es)) ≤ size e + in_use es
    go true ih = omega arith
    go false ih = omega arith

pub not_taken_fewer : (n : ℕ) (f : Entry → Bool) (es : List Entry) → taken n es ≡ false → taken n (those f es) ≡ false
unfolding taken those
not_taken_fewer n f [] h = refl
not_taken_fewer n f (e ∷ es) h = go (eqb e.name n) (f e) refl h (not_taken_fewer n f es)
  where
    go : (y z : Bool) → eqb e.name n ≡ y → (y || taken n es) ≡ false → (taken n es ≡ false → taken n (those f es) ≡ false)
        → taken n (cond z (e ∷ those f es) (those f es)) ≡ false
    go true z q h ih = let k : ◌≡◌ {A = ℕ} 0 1 = cc in absurd (omega arith)
    go false true q h ih = ap (λ (t : Bool). t || taken n (those f es)) q ∙ ih h
    go false false q h ih = ih h

pub laid_append : (a b : List Entry) → laid_out (a ++ b) ≡ laid_out a ++ laid_out b
unfolding laid_out
laid_append [] b = refl
laid_append (e ∷ a) b = ap (λ (l : List ℕ). entry_bytes e ++ l) (laid_append a b) ∙ sym (append_assoc (entry_bytes e) (laid_out a) (laid_out b))

pub length_entry : (e : Entry) → length (entry_bytes e) ≡ size e
unfolding entry_bytes in_bytes
length_entry e = omega arith

pub length_laid : (es : List Entry) → length (laid_out es) ≡ in_use es
unfolding laid_out in_use
length_laid [] = refl
length_laid (e ∷ es) = length-append (entry_bytes e) (laid_out es) ∙ ap₂ ◌+◌ (length_entry e) (length_laid es)
