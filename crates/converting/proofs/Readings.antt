-- A reading by its records: what holds of a record that stands, where it holds of what was read below it, holds of every tree that was read. One induction on the room.
-- Assumes nothing.
use mathlib.Core.Path.{◌≡◌, refl, subst₂}
use mathlib.Core.List.{List}
use Prim.Native.Nat.{ℕ, zero, suc}
use native.Mathlib.Omega.{arith}
use Rattle.block.specs.Format.{LIMIT, Header, Sofar, Around as Surroundings}
use Rattle.everyday.specs.Statements.{Alone, Around, Between, Everyday, alone, around, between}
use Rattle.converting.specs.Format.{of_none, of_one, of_two, Due, at_fault, stands, due, past₂, inside₂, Got₂, got₂, refused₂, and_then₂, with_children₂, read₂}

not_got : {P : Type 0} {n at : ℕ} {p : Everyday} {r : Sofar} → refused₂ n at ≡ got₂ p r → P
not_got e = let z : ◌≡◌ {A = ℕ} 0 1 = cc in absurd (omega arith)

module _ (b : List ℕ) (h : Header) (P : Surroundings → Sofar → Everyday → Sofar → Type 0)
    (leaf : (room : ℕ) (a : Surroundings) (r : Sofar) (l : Alone) → due room b h a r ≡ stands (of_none l) → P a r (alone l) (past₂ (of_none l) r))
    (above : (room : ℕ) (a : Surroundings) (r : Sofar) (f : Around) (p : Everyday) (r₁ : Sofar) → due room b h a r ≡ stands (of_one f) → P (inside₂ f a) (past₂ (of_one f) r) p r₁
    → P a r (around f p) r₁)
    (both : (room : ℕ) (a : Surroundings) (r : Sofar) (o : Between) (p : Everyday) (r₁ : Sofar) (q : Everyday) (r₂ : Sofar) → due room b h a r ≡ stands (of_two o)
    → P a (past₂ (of_two o) r) p r₁ → P a r₁ q r₂ → P a r (between o p q) r₂) where
  -- One statement, those below it being read by `child`.
  statement_by : (room : ℕ) (child : Surroundings → Sofar → Got₂) (a : Surroundings) (r : Sofar) (d : Due) (p : Everyday) (r₁ : Sofar) → due room b h a r ≡ d
      → ((a : Surroundings) (r : Sofar) (p : Everyday) (r₁ : Sofar) → child a r ≡ got₂ p r₁ → P a r p r₁) → with_children₂ child a r d ≡ got₂ p r₁ → P a r p r₁
  statement_by room child a r (at_fault n) p r₁ g f e = not_got e
  statement_by room child a r (stands (of_none l)) p r₁ g f e =
      let x : alone l ≡ p = cc in
      let y : past₂ (of_none l) r ≡ r₁ = cc in
      subst₂ (P a r) x y (leaf room a r l g)
  statement_by room child a r (stands (of_one k)) p r₁ g f e = go (child (inside₂ k a) (past₂ (of_one k) r)) refl e
    where
      go : (x : Got₂) → child (inside₂ k a) (past₂ (of_one k) r) ≡ x → and_then₂ x (λ q r₂. got₂ (around k q) r₂) ≡ got₂ p r₁ → P a r p r₁
      go (refused₂ n at) c e = not_got e
      go (got₂ q r₂) c e =
          let x : around k q ≡ p = cc in
          let y : r₂ ≡ r₁ = cc in
          subst₂ (P a r) x y (above room a r k q r₂ g (f (inside₂ k a) (past₂ (of_one k) r) q r₂ c))
  statement_by room child a r (stands (of_two o)) p r₁ g f e = go (child a (past₂ (of_two o) r)) refl e
    where
      go : (x : Got₂) → child a (past₂ (of_two o) r) ≡ x → and_then₂ x (λ q r₂. and_then₂ (child a r₂) λ q' r₃. got₂ (between o q q') r₃) ≡ got₂ p r₁ → P a r p r₁
      go (refused₂ n at) c e = not_got e
      go (got₂ q r₂) c e = more (child a r₂) refl e
        where
          more : (x : Got₂) → child a r₂ ≡ x → and_then₂ x (λ q' r₃. got₂ (between o q q') r₃) ≡ got₂ p r₁ → P a r p r₁
          more (refused₂ n at) c' e = not_got e
          more (got₂ q' r₃) c' e =
              let x : between o q q' ≡ p = cc in
              let y : r₃ ≡ r₁ = cc in
              subst₂ (P a r) x y (both room a r o q r₂ q' r₃ g (f a (past₂ (of_two o) r) q r₂ c) (f a r₂ q' r₃ c'))

  pub read_by : (room : ℕ) (a : Surroundings) (r : Sofar) (p : Everyday) (r₁ : Sofar) → read₂ room b h a r ≡ got₂ p r₁ → P a r p r₁
  unfolding read₂
  read_by zero a r p r₁ e = statement_by zero (λ a r. refused₂ LIMIT r.place) a r (due zero b h a r) p r₁ refl (λ a r p r₁ e. not_got e) e
  read_by (suc room) a r p r₁ e = statement_by (suc room) (read₂ room b h) a r (due (suc room) b h a r) p r₁ refl (read_by room) e
