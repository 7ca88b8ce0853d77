-- A text has one place at fault: what begins a text begins one by every part of its front, so of two places at fault neither lies behind the other. Assumes nothing.
use mathlib.Core.Path.{◌≡◌, refl, sym, ap, ◌∙◌, subst}
use mathlib.Core.List.{List, [], ◌∷◌, ◌++◌, append_assoc}
use Prim.Native.Nat.{ℕ}
use Rattle.text.specs.Tokens.{Token, Placed, tokens_of}
use Rattle.text.specs.Faults.{Begins, Fault, at_token, too_early}
use Rattle.text.proofs.FaultPlace.{tokens_append}

-- The front of what begins a text begins it.
front : (xs ys : List Token) → Begins (xs ++ ys) → Begins xs
front xs ys b = record { text = b.text; block = b.block; rest = ys ++ b.rest; its_tokens = sym (append_assoc xs ys b.rest) ∙ b.its_tokens; in_order = b.in_order }

-- A place lies behind another: its tokens before it begin with the other's and the token there.
front_of : (xs ys : List Placed) (p : Placed) → Begins (tokens_of (xs ++ (p ∷ ys))) → Begins (tokens_of xs ++ (p.token ∷ []))
unfolding tokens_of
front_of xs ys p b =
    front (tokens_of xs ++ (p.token ∷ [])) (tokens_of ys)
    (subst Begins (tokens_append xs (p ∷ ys) ∙ sym (append_assoc (tokens_of xs) (p.token ∷ []) (tokens_of ys))) b)

-- Two ways to part a list at an element.
data Parted (xs ys : List Placed) (p q : Placed) : Type 0 where
  same : p ≡ q → Parted xs ys p q
  first_before : (zs : List Placed) → ys ≡ xs ++ (p ∷ zs) → Parted xs ys p q
  second_before : (zs : List Placed) → xs ≡ ys ++ (q ∷ zs) → Parted xs ys p q

head_of : Placed → List Placed → Placed
head_of p [] = p
head_of p (x ∷ xs) = x

tail_of : List Placed → List Placed
tail_of [] = []
tail_of (x ∷ xs) = xs

parted : (xs ys : List Placed) (p q : Placed) (us vs : List Placed) → xs ++ (p ∷ us) ≡ ys ++ (q ∷ vs) → Parted xs ys p q
unfolding head_of tail_of
parted [] [] p q us vs e = same (ap (head_of p) e)
parted [] (y ∷ ys) p q us vs e = first_before ys (λ i. ap (head_of p) (sym e) i ∷ ys)
parted (x ∷ xs) [] p q us vs e = second_before xs (λ i. ap (head_of x) e i ∷ xs)
parted (x ∷ xs) (y ∷ ys) p q us vs e = go (ap (head_of x) e) (parted xs ys p q us vs (ap tail_of e))
  where
    go : x ≡ y → Parted xs ys p q → Parted (x ∷ xs) (y ∷ ys) p q
    go h (same f) = same f
    go h (first_before zs f) = first_before zs (λ i. sym h i ∷ f i)
    go h (second_before zs f) = second_before zs (λ i. h i ∷ f i)

-- All tokens begin a text: no token is at fault.
none_within : (before behind : List Placed) (p : Placed) → Begins (tokens_of (before ++ (p ∷ behind))) → (Begins (tokens_of before ++ (p.token ∷ [])) → ⊥) → ⊥
none_within before behind p b n = n (front_of before behind p b)

module _ (end : ℕ) where
  tokens_at : (xs us ys vs : List Placed) (p q : Placed) → xs ++ (p ∷ us) ≡ ys ++ (q ∷ vs) → Begins (tokens_of xs) → (Begins (tokens_of xs ++ (p.token ∷ [])) → ⊥)
      → Begins (tokens_of ys) → (Begins (tokens_of ys ++ (q.token ∷ [])) → ⊥) → p.place ≡ q.place
  tokens_at xs us ys vs p q e b n c m = go (parted xs ys p q us vs e)
    where
      go : Parted xs ys p q → p.place ≡ q.place
      go (same f) = ap (λ (x : Placed). x.place) f
      go (first_before zs f) = absurd (n (front_of xs zs p (subst (λ (l : List Placed). Begins (tokens_of l)) f c)))
      go (second_before zs f) = absurd (m (front_of ys zs q (subst (λ (l : List Placed). Begins (tokens_of l)) f b)))

  pub one_fault : (ps qs : List Placed) (at to : ℕ) → ps ≡ qs → Fault end ps at → Fault end qs to → at ≡ to
  one_fault ps qs at to e (at_token xs p us b n) (at_token ys q vs c m) = tokens_at xs us ys vs p q e b n c m
  one_fault ps qs at to e (at_token xs p us b n) (too_early all c m) = absurd (none_within xs us p (subst (λ (l : List Placed). Begins (tokens_of l)) (sym e) c) n)
  one_fault ps qs at to e (too_early all b n) (at_token ys q vs c m) = absurd (none_within ys vs q (subst (λ (l : List Placed). Begins (tokens_of l)) e b) m)
  one_fault ps qs at to e (too_early all b n) (too_early al c m) = refl
