-- What was read is recorded: the records of the tree stand from where it began to where it ended. By the records. Assumes nothing.
use mathlib.Core.Path.{◌≡◌, refl, ap, subst}
use mathlib.Core.Bool.{not}
use mathlib.Core.List.{List}
use mathlib.Core.Option.{Option, none, some}
use Prim.Native.Nat.{ℕ, ◌+◌}
use native.Mathlib.Omega.{arith}
use lib.Dec.{eqb, leb}
use lib.ListN.{length}
use Rattle.block.specs.Format.{length_at, is_broken, Header, Sofar, Around as Surroundings}
use Rattle.everyday.specs.Statements.{Everyday, alone, around, between}
use Rattle.converting.specs.Format.{Sort, of_none, of_one, of_two, record_length, over_limit₂, wrong_signal₂, wrong_exit₂, stands, sorted, due, past₂}
use Rattle.converting.specs.Format.{got₂, read₂, bytes₂}
use Rattle.converting.proofs.Readings.{read_by}
use Rattle.converting.proofs.Sound.{not_a_fault, next_test}
use Rattle.convert.specs.Walk.{sort_at, Recorded}

sorted_sort : (room : ℕ) (h : Header) (a : Surroundings) (r : Sofar) (len : ℕ) (o : Option Sort) (s : Sort) → sorted room h a r len o ≡ stands s → o ≡ some s
sorted_sort room h a r len none s e = not_a_fault e
sorted_sort room h a r len (some t) s e =
    let e₁ = next_test (not (eqb (record_length t) len)) _ _ e in
    let e₂ = next_test (over_limit₂ room a r t) _ _ e₁.1 in
    let e₃ = next_test (wrong_signal₂ h a r t) _ _ e₂.1 in
    let e₄ = next_test (wrong_exit₂ a t) _ _ e₃.1 in
    let q : t ≡ s = cc in
    ap some q

due_sort : (room : ℕ) (b : List ℕ) (h : Header) (a : Surroundings) (r : Sofar) (s : Sort) → due room b h a r ≡ stands s → sort_at b r.place ≡ some s
unfolding due
due_sort room b h a r s e =
    let e₁ = next_test (leb (length b) r.place) _ _ e in
    let e₂ = next_test (is_broken b r.place) _ _ e₁.1 in
    sorted_sort room h a r (length_at b r.place) (sort_at b r.place) s e₂.1

pub record ReadAs (b : List ℕ) (r : Sofar) (p : Everyday) (r₁ : Sofar) : Type 0 where
  pub recorded : Recorded b r.place p
  pub ends : r₁.place ≡ r.place + bytes₂ p

module _ (b : List ℕ) (h : Header) where
  alone_read : (r : Sofar) (l : _) → sort_at b r.place ≡ some (of_none l) → ReadAs b r (alone l) (past₂ (of_none l) r)
  unfolding Recorded bytes₂
  alone_read r l e = record { recorded = e; ends = refl }

  around_read : (r r₁ : Sofar) (f : _) (p : Everyday) → sort_at b r.place ≡ some (of_one f) → ReadAs b (past₂ (of_one f) r) p r₁ → ReadAs b r (around f p) r₁
  unfolding Recorded bytes₂
  around_read r r₁ f p e g = record { recorded = (e, g.recorded); ends = omega (arith, g.ends) }

  between_read : (r r₁ r₂ : Sofar) (o : _) (p q : Everyday) → sort_at b r.place ≡ some (of_two o) → ReadAs b (past₂ (of_two o) r) p r₁ → ReadAs b r₁ q r₂
      → ReadAs b r (between o p q) r₂
  unfolding Recorded bytes₂
  between_read r r₁ r₂ o p q e g d = record {
    recorded = (e, g.recorded, subst (λ (k : ℕ). Recorded b k q) g.ends d.recorded);
    ends = omega (arith, g.ends, d.ends);
  }

  pub read_as : (room : ℕ) (a : Surroundings) (r : Sofar) (p : Everyday) (r₁ : Sofar) → read₂ room b h a r ≡ got₂ p r₁ → ReadAs b r p r₁
  read_as =
      read_by b h (λ a r p r₁. ReadAs b r p r₁) (λ room a r l e. alone_read r l (due_sort room b h a r (of_none l) e))
      (λ room a r f p r₁ e g. around_read r r₁ f p (due_sort room b h a r (of_one f) e) g)
      (λ room a r o p r₁ q r₂ e g d. between_read r r₁ r₂ o p q (due_sort room b h a r (of_two o) e) g d)
