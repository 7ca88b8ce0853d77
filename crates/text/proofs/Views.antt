-- The token at a place by its kind, and where it lies. Assumes nothing.
use mathlib.Core.Path.{◌≡◌, refl, sym, ap, ◌∙◌, subst}
use mathlib.Core.Bool.{Bool, true, false, cond, ◌&&◌}
use mathlib.Core.List.{List, [], ◌∷◌}
use mathlib.Core.Option.{Option, none, some}
use Prim.Native.Nat.{ℕ, suc, ◌≤◌, ◌<◌}
use native.Mathlib.Omega.{arith}
use lib.Dec.{T, eqb}
use lib.ListN.{length, get_or, drop, length-drop}
use Rattle.text.specs.Tokens.{Token, sign, name, number, no_token, in_word, is_name, is_number, value_from, no_keyword, keywords, keyword_from, word_or, word_token, word_of, is_mark, mark_token, BESIDE}
use Rattle.text.specs.Coded.{kind_of, front, front_size, kind_held, from_kind, FrontAt, past_spaces, tokens_from, fronted}
use Rattle.text.specs.declared.tokens.Token.{Token as CodedToken}
use Rattle.text.proofs.Words.{both_so}
use Rattle.text.proofs.Keys.{word_within}
use Rattle.text.proofs.Fronts.{next_token, one_token, at_end}

-- A token is known by its kind, and a name by its word.
abbrev Coded : Token → List ℕ → Type 0
Coded t w = t ≡ from_kind (kind_of t) w

word_coded : (w : List ℕ) → Coded (word_token w) w
unfolding from_kind kind_of no_keyword word_token word_or
word_coded w = go (keyword_from 0 keywords w)
  where
    go : (o : Option ℕ) → Coded (word_or w o) w
    go (some k) = refl
    go none = others (is_name w) (is_number w)
      where
        others : (x y : Bool) → Coded (cond x (name w) (cond y (number (value_from 0 w)) no_token)) w
        others true y = refl
        others false true = refl
        others false false = refl

mark_coded : (b : ℕ) (bs w : List ℕ) → Coded (mark_token b bs) w
unfolding from_kind kind_of
mark_coded b bs w = go (is_mark b) (eqb b BESIDE && eqb (get_or bs 0 0) BESIDE)
  where
    go : (x y : Bool) → Coded (cond x (sign b) (cond y (sign BESIDE) no_token)) w
    go true y = refl
    go false true = refl
    go false false = refl

front_coded : (bs : List ℕ) (t : Token) → front bs ≡ some t → Coded t (word_of bs)
unfolding front
front_coded [] t e = let z : ◌≡◌ {A = ℕ} 0 1 = cc in absurd (omega arith)
front_coded (b ∷ bs) t e = subst (λ (t : Token). Coded t (word_of (b ∷ bs))) (let h : cond (in_word b) (word_token (word_of (b ∷ bs))) (mark_token b bs) ≡ t = cc in h) (go (in_word b))
  where
    go : (z : Bool) → Coded (cond z (word_token (word_of (b ∷ bs))) (mark_token b bs)) (word_of (b ∷ bs))
    go true = word_coded (word_of (b ∷ bs))
    go false = mark_coded b bs (word_of (b ∷ bs))

-- It has some bytes, and no more than there are.
sized : (b : ℕ) (bs : List ℕ) → (0 < front_size (b ∷ bs)) × (front_size (b ∷ bs) ≤ length (b ∷ bs))
unfolding front_size word_of
sized b bs = go (in_word b) (eqb b BESIDE && eqb (get_or bs 0 0) BESIDE) refl
  where
    second : (bs : List ℕ) → T (eqb (get_or bs 0 0) BESIDE) → 0 < length bs
    second [] t = absurd t
    second (c ∷ bs) t = omega arith

    go : (y z : Bool) → (eqb b BESIDE && eqb (get_or bs 0 0) BESIDE) ≡ z
        → (0 < cond y (length (cond y (b ∷ word_of bs) [])) (cond z 2 1)) × (cond y (length (cond y (b ∷ word_of bs) [])) (cond z 2 1) ≤ suc (length bs))
    go true z e = (omega arith, omega (arith, word_within bs))
    go false true e = (omega arith, omega (arith, second bs (both_so (eqb b BESIDE) (eqb (get_or bs 0 0) BESIDE) (subst T (sym e) tt)).1))
    go false false e = (omega arith, omega arith)

-- The token that the code has found from a place on, and those behind it; or the end.
pub record Here (text : List ℕ) (at : ℕ) (r : CodedToken) : Type 0 where
  pub first_of : tokens_from text at ≡ record { place = r.start; token = from_kind r.kind (word_of (drop r.start text)) } ∷ tokens_from text r.end
  pub later : at ≤ r.start
  pub longer : r.start < r.end
  pub within : r.end ≤ length text

module _ (text : List ℕ) (at : ℕ) {r : CodedToken} (f : FrontAt text (past_spaces text at) r) where
  pub here : r.start < length text → Here text at r
  unfolding front fronted kind_held
  here l = go (drop (past_spaces text at) text) refl (next_token text at) refl
    where
      go : (bs : List ℕ) → drop (past_spaces text at) text ≡ bs → (o : Option Token) → next_token text at ≡ o → Here text at r
      go [] e o h = let n = ap length e in absurd (omega (arith, n, length-drop (past_spaces text at) text, l, f.its_start))
      go (b ∷ bs) e none h = let g = sym h ∙ ap front e in let z : ◌≡◌ {A = ℕ} 0 1 = cc in absurd (omega arith)
      go (b ∷ bs) e (some t) h =
          let s = sized b bs in
          let n = length-drop (past_spaces text at) text in
          let k : front_size (drop (past_spaces text at) text) ≡ front_size (b ∷ bs) = ap front_size e in
          let m = ap length e in
          let w : word_of (drop (past_spaces text at) text) ≡ word_of (drop r.start text) = ap (λ (i : ℕ). word_of (drop i text)) (sym f.its_start) in
          let c : t ≡ from_kind r.kind (word_of (drop r.start text)) =
          front_coded (drop (past_spaces text at) text) t h ∙ (λ i. from_kind ((sym (f.its_kind ∙ ap kind_held h)) i) (w i)) in
          record {
            first_of = one_token text at f ∙ ap (λ (o : Option Token). fronted o r.start (tokens_from text r.end)) (h ∙ ap some c);
            later = omega (arith, f.its_start);
            longer = omega (arith, f.its_start, f.its_end, k, s.0);
            within = omega (arith, f.its_end, k, s.1, n, m, f.its_start, l);
          }

  pub none_here : length text ≤ r.start → tokens_from text at ≡ []
  unfolding fronted
  none_here l = one_token text at f ∙ ap (λ (o : Option Token). fronted o r.start (tokens_from text r.end)) (at_end text (past_spaces text at) (omega (arith, l, f.its_start))).0
