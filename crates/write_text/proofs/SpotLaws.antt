-- The leaves of the walk: where brackets are needed, what stands between children, and a child's spot, each by its tests. Assumes nothing.
use mathlib.Core.Path.{◌≡◌, refl, sym, ap, ap₂, ◌∙◌}
use mathlib.Core.Bool.{Bool, true, false, cond, not, ◌||◌}
use mathlib.Core.List.{List, [], ◌∷◌}
use Prim.Native.Nat.{ℕ, suc, ◌+◌, ◌≤◌, ◌<◌}
use native.Mathlib.Omega.{arith}
use borrow.Author.Tests.{ne_eqb}
use lib.Dec.{eqb}
use mir.Val.{bool_byte}
use Rattle.text.specs.Tokens.{ELSE, SEMICOLON, BESIDE}
use Rattle.text.specs.Shown.{word}
use Rattle.write_text.specs.Pieces.{Puts, row_text}
use Rattle.write_text.specs.declared.statements.Level.{Level}
use Rattle.write_text.specs.declared.statements.Level.TheVariants.{Basic, Sequence, Whole}
use Rattle.write_text.specs.Spots.{bare, between_text, inside}
use Rattle.write_text.specs.declared.statements.Spot.{Spot}
use Rattle.write_text.proofs.Putting.{none_put, told_as}

-- A piece that is left out where no brackets are needed.
pub left_out : {z : Bool} {a : List ℕ} {t : ℕ} (F : List ℕ → List ℕ) → z ≡ true → Puts a a t t (λ r. cond z r (F r))
left_out F e = told_as (λ r. sym (ap (λ (z : Bool). cond z r (F r)) e)) none_put

pub put_in : {z : Bool} {a b : List ℕ} {t m : ℕ} (F : List ℕ → List ℕ) → z ≡ false → Puts a b t m F → Puts a b t m (λ r. cond z r (F r))
put_in F e p = told_as (λ r. sym (ap (λ (z : Bool). cond z r (F r)) e)) p

-- A row put, in other words.
pub row_told : {a b : List ℕ} {t m : ℕ} (d : ℕ) {first first' name name' last last' : List ℕ} → Puts a b t m (row_text d first name last) → first ≡ first' → name ≡ name' → last ≡ last'
    → Puts a b t m (row_text d first' name' last')
row_told d {first} {first'} {name} {name'} {last} {last'} p e f g = told_as (λ r i. row_text d (e i) (f i) (g i) r) p

-- One more, where it is so.
pub one_more : (n : ℕ) {x : ℕ} (b : Bool) → x ≡ bool_byte b → n + x ≡ cond b (suc n) n
one_more n true e = omega (arith, e)
one_more n false e = omega (arith, e)

-- Only these two kinds are ever bare.
pub never_bare : (k : ℕ) (l : Level) → eqb k 21 ≡ false → eqb k 23 ≡ false → bare k l ≡ false
unfolding bare
never_bare k Basic e f = refl
never_bare k Sequence e f = e
never_bare k Whole e f = ap₂ (λ (y z : Bool). y || z) e f

pub between_else : (k d n : ℕ) (r : List ℕ) → k ≡ 19 → row_text d (word ELSE []) [] [] r ≡ between_text k d n r
unfolding between_text
between_else k d n r e = sym (ap (λ (k : ℕ). between_text k d n r) e)

pub between_bars : (k d n : ℕ) (r : List ℕ) → k ≡ 23 → row_text n (BESIDE ∷ BESIDE ∷ []) [] [] r ≡ between_text k d n r
unfolding between_text
between_bars k d n r e = sym (ap (λ (k : ℕ). between_text k d n r) e)

pub between_semicolon : (k d n : ℕ) (r : List ℕ) → (k ≡ 19 → ⊥) → (k ≡ 23 → ⊥) → SEMICOLON ∷ r ≡ between_text k d n r
unfolding between_text
between_semicolon k d n r e f =
    sym (ap₂ (λ (y z : Bool). cond y (row_text d (word ELSE []) [] [] r) (cond z (row_text n (BESIDE ∷ BESIDE ∷ []) [] [] r) (SEMICOLON ∷ r))) (ne_eqb k 19 e) (ne_eqb k 23 f))

pub is_inside : (s : Spot) (k : ℕ) (l : Level) (to : ℕ) {indent traps : ℕ} {b : Bool} → b ≡ bare k s.level → indent ≡ cond (not b) (suc s.indent) s.indent
    → traps ≡ cond (eqb k 24) (suc s.traps) s.traps
    → ◌≡◌ {A = Spot} (record { to = to; level = l; indent = indent; traps = traps; inputs = s.inputs; outputs = s.outputs }) (inside s k l to)
unfolding inside
is_inside s k l to e f g =
    let h = f ∙ ap (λ (z : Bool). cond (not z) (suc s.indent) s.indent) e in
    λ i. record { to = to; level = l; indent = h i; traps = g i; inputs = s.inputs; outputs = s.outputs }

pub same_level : (s : Spot) (k to : ℕ) {l m : Level} {u : Spot} → u ≡ inside s k l to → l ≡ m → u ≡ inside s k m to
same_level s k to e f = e ∙ ap (λ (l : Level). inside s k l to) f

-- At most one construct and one trap more.
pub inside_few : (s : Spot) (k : ℕ) (l : Level) (to n m : ℕ) → s.indent ≤ n → s.traps ≤ n → n < m → ((inside s k l to).indent ≤ m) × ((inside s k l to).traps ≤ m)
unfolding inside
inside_few s k l to n m a b h = (go (bare k s.level), on (eqb k 24))
  where
    go : (z : Bool) → cond (not z) (suc s.indent) s.indent ≤ m
    go true = omega (arith, a, h)
    go false = omega (arith, a, h)

    on : (z : Bool) → cond z (suc s.traps) s.traps ≤ m
    on true = omega (arith, b, h)
    on false = omega (arith, b, h)
