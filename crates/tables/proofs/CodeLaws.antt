-- The codes of the kinds that no test names, and that an exit's code fits a word. Assumes nothing.
use mathlib.Core.Path.{◌≡◌, sym}
use mathlib.Core.Logic.{◌⊎◌, inl, inr}
use Prim.Native.Nat.{ℕ, ◌<◌}
use native.Mathlib.Omega.{arith}
use borrow.Author.Tests.{ne_eqb}
use Rattle.sets.specs.Numbers.{Numbers, single}
use Rattle.rules.specs.Statements.{depth, code}
use Rattle.tables.specs.Codes.{codes_for}

pub small_code : (c d : ℕ) → d < 16 → c ≡ code (depth d) → c < 32
unfolding code
small_code c d h e = omega (arith, h, e)

pub code_zero : (k x : ℕ) (P Q : Numbers) → (k ≡ 17 → ⊥) → (k ≡ 19 → ⊥) → ((k ≡ 20) ⊎ (k ≡ 26) → ⊥) → (k ≡ 21 → ⊥) → (k ≡ 22 → ⊥) → (k ≡ 23 → ⊥) → (k ≡ 24 → ⊥) → (k ≡ 25 → ⊥)
    → single 0 ≡ codes_for k x P Q
unfolding codes_for
code_zero k x P Q a b c d e f g h =
    sym (simp (ne_eqb k 17 a, ne_eqb k 19 b, ne_eqb k 20 (λ z. c (inl z)), ne_eqb k 26 (λ z. c (inr z)), ne_eqb k 21 d, ne_eqb k 22 e, ne_eqb k 23 f, ne_eqb k 24 g, ne_eqb k 25 h))
