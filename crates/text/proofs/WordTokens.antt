-- What a word is, as the code finds it: a keyword, else a name, else a number, else no token. Assumes nothing.
use mathlib.Core.Path.{◌≡◌, refl, sym, ap, ◌∙◌}
use mathlib.Core.Bool.{Bool, true, false, cond}
use mathlib.Core.List.{List}
use mathlib.Core.Option.{Option, none, some}
use Rattle.std.specs.Prelude.{Some, None}
use Prim.Native.Nat.{ℕ}
use native.Mathlib.Omega.{arith}
use Rattle.text.specs.Tokens.{sign, name, number, no_token, is_name, keywords, keyword_from, value_from, is_number, no_keyword}
use Rattle.text.specs.Tokens.{word_or, word_token}
use Rattle.text.specs.Coded.{returned, keyword_number, number_value}

-- The four ways.
module _ (w : List ℕ) where
  pub a_keyword : {k : ℕ} → keyword_number w ≡ Some k → word_token w ≡ sign k
  unfolding word_token word_or returned
  a_keyword {k} e = go (keyword_from 0 keywords w) e
    where
      go : (o : Option ℕ) → returned o ≡ Some k → word_or w o ≡ sign k
      go none e = let z : ◌≡◌ {A = ℕ} 0 1 = cc in absurd (omega arith)
      go (some j) e = let s : j ≡ k = cc in ap sign s

  pub not_a_keyword : keyword_number w ≡ None → word_token w ≡ no_keyword w
  unfolding word_token word_or returned
  not_a_keyword e = go (keyword_from 0 keywords w) e
    where
      go : (o : Option ℕ) → returned o ≡ None → word_or w o ≡ no_keyword w
      go none e = refl
      go (some j) e = let z : ◌≡◌ {A = ℕ} 0 1 = cc in absurd (omega arith)

  pub named : {x : Bool} → x ≡ is_name w → x ≡ true → no_keyword w ≡ name w
  unfolding no_keyword
  named e h = ap (λ (z : Bool). cond z (name w) (cond (is_number w) (number (value_from 0 w)) no_token)) (sym e ∙ h)

  unnamed : {x : Bool} → x ≡ is_name w → x ≡ false → no_keyword w ≡ cond (is_number w) (number (value_from 0 w)) no_token
  unfolding no_keyword
  unnamed e h = ap (λ (z : Bool). cond z (name w) (cond (is_number w) (number (value_from 0 w)) no_token)) (sym e ∙ h)

  pub numbered : {x : Bool} {v : ℕ} → x ≡ is_name w → x ≡ false → number_value w ≡ Some v → no_keyword w ≡ number v
  numbered {x} {v} e h f = unnamed e h ∙ go (is_number w) f
    where
      go : (z : Bool) → cond z (Some (value_from 0 w)) None ≡ Some v → cond z (number (value_from 0 w)) no_token ≡ number v
      go true f = let s : value_from 0 w ≡ v = cc in ap number s
      go false f = let z : ◌≡◌ {A = ℕ} 0 1 = cc in absurd (omega arith)

  pub neither_one : {x : Bool} → x ≡ is_name w → x ≡ false → number_value w ≡ None → no_keyword w ≡ no_token
  neither_one {x} e h f = unnamed e h ∙ go (is_number w) f
    where
      go : (z : Bool) → cond z (Some (value_from 0 w)) None ≡ None → cond z (number (value_from 0 w)) no_token ≡ no_token
      go true f = let z : ◌≡◌ {A = ℕ} 0 1 = cc in absurd (omega arith)
      go false f = refl
