-- More things than places: by induction over the places, where the last thing's place is given to whoever has the last place. Assumes nothing.
use mathlib.Core.Path.{◌≡◌, refl, sym, ◌∙◌, subst}
use mathlib.Core.Bool.{Bool, true, false, cond}
use Prim.Native.Nat.{ℕ, zero, suc, ◌≤◌, ◌<◌}
use native.Mathlib.Omega.{arith}
use native.Mathlib.Decide.{dec_le}
use lib.Dec.{eqb}
use borrow.Author.Tests.{eqb-true, eqb-false}

-- A place for each thing, with the last place given away.
abbrev moved : (ℕ → ℕ) → ℕ → ℕ → ℕ
moved f n i = cond (eqb (f i) n) (f (suc n)) (f i)

-- what is known of a thing's new place
data Moved (f : ℕ → ℕ) (n i : ℕ) : Type 0 where
  was_last : f i ≡ n → moved f n i ≡ f (suc n) → Moved f n i
  stayed : (f i ≡ n → ⊥) → moved f n i ≡ f i → Moved f n i

how : (f : ℕ → ℕ) (n i : ℕ) → Moved f n i
how f n i = go (eqb (f i) n) refl
  where
    go : (b : Bool) → eqb (f i) n ≡ b → Moved f n i
    go true e = was_last (eqb-true (f i) n e) (rw e)
    go false e = stayed (eqb-false (f i) n e) (rw e)

-- No more things than places can each have a place of its own.
pub pigeons : (n : ℕ) (f : ℕ → ℕ) → ((i : ℕ) → i ≤ n → f i < n) → ((i j : ℕ) → i < j → j ≤ n → f i ≡ f j → ⊥) → ⊥
pigeons zero f placed apart = let h : f 0 < 0 = placed 0 (omega arith) in omega arith
pigeons (suc n) f placed apart = pigeons n (moved f n) (λ i l. fits i l (how f n i)) (λ i j l k. parted i j l k (how f n i) (how f n j))
  where
    last : f (suc n) < suc n
    last = placed (suc n) (omega arith)

    fits : (i : ℕ) → i ≤ n → Moved f n i → moved f n i < n
    fits i l (was_last e m) =
        let d : f i ≡ f (suc n) → ⊥ = apart i (suc n) (omega arith) (omega arith) in
        let k : f (suc n) ≡ n → ⊥ = λ z. d (e ∙ sym z) in
        subst (λ (x : ℕ). x < n) (sym m) (omega (arith, last))
    fits i l (stayed d m) = let h : f i < suc n = placed i (omega arith) in subst (λ (x : ℕ). x < n) (sym m) (omega arith)

    parted : (i j : ℕ) → i < j → j ≤ n → Moved f n i → Moved f n j → moved f n i ≡ moved f n j → ⊥
    parted i j l k (was_last e m) (was_last d o) z = apart i j l (omega arith) (e ∙ sym d)
    parted i j l k (was_last e m) (stayed d o) z = apart j (suc n) (omega arith) (omega arith) (sym o ∙ sym z ∙ m)
    parted i j l k (stayed e m) (was_last d o) z = apart i (suc n) (omega arith) (omega arith) (sym m ∙ z ∙ o)
    parted i j l k (stayed e m) (stayed d o) z = apart i j l (omega arith) (sym m ∙ z ∙ o)

-- The same where each thing is found a place, and no two things share one.
module _ (n : ℕ) (P : ℕ → ℕ → Type 0) (placed : (i : ℕ) → i ≤ n → (k : ℕ) × (k < n) × P i k) where
  pick : (i : ℕ) → Dec (i ≤ n) → ℕ
  pick i (yes h) = (placed i h).0
  pick i (no h) = 0

  picked : (i : ℕ) → i ≤ n → (d : Dec (i ≤ n)) → (pick i d < n) × P i (pick i d)
  unfolding pick
  picked i l (yes h) = ((placed i h).1, (placed i h).2)
  picked i l (no h) = absurd (h l)

  pub no_places : ((i j k : ℕ) → i < j → j ≤ n → P i k → P j k → ⊥) → ⊥
  no_places apart =
      pigeons n (λ i. pick i (dec_le i n)) (λ i l. (picked i l (dec_le i n)).0)
      (λ i j l h e. apart i j _ l h (picked i (omega arith) (dec_le i n)).1 (subst (P j) (sym e) (picked j h (dec_le j n)).1))
