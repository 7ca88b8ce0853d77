-- The names of a part of the header: the first behind its word, then a comma before each of the others. Assumes nothing.
use mathlib.Core.Path.{◌≡◌, refl, sym, ap, ◌∙◌}
use mathlib.Core.List.{List, [], ◌∷◌, ◌++◌, map}
use Prim.Native.Nat.{ℕ, zero, suc, ◌+◌, ◌-◌, ◌*◌, ◌≤◌, ◌<◌}
use native.Mathlib.Omega.{arith}
use Rattle.rules.specs.Statements.{from}
use Rattle.text.specs.Tokens.{COMMA, SEMICOLON}
use Rattle.text.specs.Shown.{blank, names_text}
use Rattle.write_text.specs.Pieces.{Left, Puts, names_part}
use Rattle.write_text.proofs.Putting.{none_put, and_then, before, told_as, left_as}

-- What follows a name.
unfoldable pub more_names : List (List ℕ) → List ℕ → List ℕ
more_names [] r = SEMICOLON ∷ r
more_names (y ∷ ys) r = COMMA ∷ blank (y ++ more_names ys r)

names_more : (ys : List (List ℕ)) (x r : List ℕ) → names_text x ys r ≡ x ++ more_names ys r
unfolding names_text more_names
names_more [] x r = refl
names_more (y ∷ ys) x r = ap (λ (l : List ℕ). x ++ (COMMA ∷ blank l)) (names_more ys y r)

-- The names from s on are left to put.
pub record NamesLeft (f : ℕ → List ℕ) (end at₀ s₀ : ℕ) (out₀ out : List ℕ) (at s : ℕ) : Type 0 where
  pub low : s₀ ≤ s
  pub high : s ≤ end
  pub near : at ≤ at₀ + 16 * (s - s₀)
  pub rest : Left out₀ out at₀ at (more_names (map f (from s₀ (end - s₀)))) (more_names (map f (from s (end - s))))

module _ (f : ℕ → List ℕ) where
  pub names_begun : {end at s : ℕ} {out : List ℕ} → s ≤ end → NamesLeft f end at s out out at s
  names_begun l = record { low = omega arith; high = l; near = omega arith; rest = none_put }

  names_step : (end s : ℕ) → s < end → (r : List ℕ) → more_names (map f (from s (end - s))) r ≡ (COMMA ∷ blank []) ++ (f s ++ more_names (map f (from (s + 1) (end - (s + 1)))) r)
  unfolding more_names from
  names_step end s l r =
      let one : end - s ≡ suc (end - (s + 1)) = omega (arith, l) in
      let next : suc s ≡ s + 1 = omega arith in
      ap (λ (m : ℕ). more_names (map f (from s m)) r) one ∙ ap (λ (n : ℕ). COMMA ∷ blank (f s ++ more_names (map f (from n (end - (s + 1)))) r)) next

  pub names_on : {end at₀ s₀ at s m n : ℕ} {out₀ out b : List ℕ} → NamesLeft f end at₀ s₀ out₀ out at s → s < end → Puts out b at m (λ x. (COMMA ∷ blank []) ++ (f s ++ x)) → m ≤ at + 16
      → n ≡ s + 1 → NamesLeft f end at₀ s₀ out₀ b m n
  names_on {end} {at₀} {s₀} {at} {s} {m} {n} {out₀} {out} {b} w l p h e = record {
    low = omega (arith, e, w.low);
    high = omega (arith, e, l);
    near = omega (arith, w.near, w.low, h, e);
    rest = and_then w.rest (told_as (λ r. sym (names_step end s l r ∙ ap (λ (k : ℕ). (COMMA ∷ blank []) ++ (f s ++ more_names (map f (from k (end - k))) r)) (sym e)))
        (before (more_names (map f (from n (end - n)))) p));
  }

  names_end : (end s : ℕ) → end ≤ s → (r : List ℕ) → more_names (map f (from s (end - s))) r ≡ (SEMICOLON ∷ []) ++ r
  unfolding more_names from
  names_end end s l r = let none : end - s ≡ 0 = omega (arith, l) in ap (λ (m : ℕ). more_names (map f (from s m)) r) none

  whole_part : (w : List ℕ) (start count : ℕ) → (count ≡ 0 → ⊥) → (r : List ℕ)
      → w ++ (f start ++ more_names (map f (from (start + 1) (start + count - (start + 1)))) r) ≡ names_part w (map f (from start count)) r
  unfolding names_part from
  whole_part w start zero n r = absurd (n refl)
  whole_part w start (suc m) n r =
      let left : start + suc m - (start + 1) ≡ m = omega arith in
      let next : start + 1 ≡ suc start = omega arith in
      ap (λ (k : ℕ). w ++ (f start ++ more_names (map f (from (start + 1) k)) r)) left ∙ ap (λ (k : ℕ). w ++ (f start ++ more_names (map f (from k m)) r)) next
      ∙ sym (ap (λ (l : List ℕ). w ++ l) (names_more (map f (from (suc start) m)) (f start) r))

  pub names_put : (w : List ℕ) (start count : ℕ) {to m at e s : ℕ} {a b c d : List ℕ} → (count ≡ 0 → ⊥) → Puts a b to m (λ x. w ++ (f start ++ x))
      → NamesLeft f (start + count) m (start + 1) b c at s → start + count ≤ s → Puts c d at e (λ x. (SEMICOLON ∷ []) ++ x) → Puts a d to e (names_part w (map f (from start count)))
  names_put w start count {s = s} n p q l z =
      told_as (whole_part w start count n) (and_then (before (more_names (map f (from (start + 1) (start + count - (start + 1))))) p)
      (and_then (left_as (names_end (start + count) s l) q.rest) z))

  pub no_names : (w : List ℕ) (start count : ℕ) {a : List ℕ} {to : ℕ} → count ≡ 0 → Puts a a to to (names_part w (map f (from start count)))
  unfolding names_part from
  no_names w start count e = told_as (λ r. sym (ap (λ (k : ℕ). names_part w (map f (from start k)) r) e)) none_put
