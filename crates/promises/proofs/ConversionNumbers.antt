-- The refusals of a block of edition 2 have the numbers 1 to 8, and so each has its name: that none is 0 goes as that none is above 8. Assumes nothing.
use mathlib.Core.Path.{◌≡◌, refl, subst}
use mathlib.Core.Bool.{Bool, true, false, not, cond, ◌&&◌}
use mathlib.Core.List.{List}
use mathlib.Core.Option.{Option, none, some}
use Prim.Native.Nat.{ℕ, zero, suc, ◌≤◌}
use native.Mathlib.Omega.{arith}
use lib.Dec.{lit≤, eqb, ltb, leb}
use lib.ListN.{length}
use borrow.Author.Tests.{eqb-false}
use Rattle.refusals.specs.Refusals.{number, why_of}
use Rattle.refusals.proofs.Laws.{number_back, of_a_block}
use Rattle.block.specs.Format.{length_at, kind_at, operand_at, is_broken, Header, header, Sofar, Around as Surroundings, outermost, begun}
use Rattle.everyday.specs.Statements.{Everyday, around, between}
use Rattle.converting.specs.Format.{Sort, of_none, of_one, of_two, sort_of, record_length, over_limit₂, wrong_signal₂, wrong_exit₂, Due, at_fault, stands, sorted, due, past₂, inside₂}
use Rattle.converting.specs.Format.{Got₂, got₂, refused₂, and_then₂, with_children₂, read₂, lowest_endless₂, Reading₂, good₂, turned_down₂, loops_checked₂, ended₂, header_fault₂, reading₂}
use Rattle.converting.proofs.Numbers.{SmallReading, reading_small}

unfoldable Some : Due → Type 0
Some (at_fault n) = 1 ≤ n
Some (stands s) = Unit {0}

unfoldable SomeGot : Got₂ → Type 0
SomeGot (got₂ p r) = Unit {0}
SomeGot (refused₂ n at) = 1 ≤ n

unfoldable SomeReading : Reading₂ → Type 0
SomeReading (good₂ h p) = Unit {0}
SomeReading (turned_down₂ n at) = 1 ≤ n

sorted_some : (room : ℕ) (h : Header) (a : Surroundings) (r : Sofar) (len : ℕ) (o : Option Sort) → Some (sorted room h a r len o)
unfolding Some
sorted_some room h a r len none = lit≤ tt
sorted_some room h a r len (some s) = go (not (eqb (record_length s) len)) (over_limit₂ room a r s) (wrong_signal₂ h a r s) (wrong_exit₂ a s)
  where
    go : (t u v w : Bool) → Some (cond t (at_fault 2) (cond u (at_fault 4) (cond v (at_fault 5) (cond w (at_fault 6) (stands s)))))
    go true u v w = lit≤ tt
    go false true v w = lit≤ tt
    go false false true w = lit≤ tt
    go false false false true = lit≤ tt
    go false false false false = tt

due_some : (room : ℕ) (b : List ℕ) (h : Header) (a : Surroundings) (r : Sofar) → Some (due room b h a r)
unfolding Some due
due_some room b h a r = go (leb (length b) r.place) (is_broken b r.place)
  where
    record_there : Due
    record_there = sorted room h a r (length_at b r.place) (sort_of (kind_at b r.place) (operand_at b r.place))

    go : (t u : Bool) → Some (cond t (at_fault 7) (cond u (at_fault 1) record_there))
    go true u = lit≤ tt
    go false true = lit≤ tt
    go false false = sorted_some room h a r (length_at b r.place) (sort_of (kind_at b r.place) (operand_at b r.place))

module _ (child : Surroundings → Sofar → Got₂) (c : (a : Surroundings) (r : Sofar) → SomeGot (child a r)) where
  one : (g : Got₂) → SomeGot g → (f : Everyday → Sofar → Got₂) → ((p : Everyday) (r : Sofar) → SomeGot (f p r)) → SomeGot (and_then₂ g f)
  one (got₂ p r) l f k = k p r
  one (refused₂ n at) l f k = l

  children_some : (a : Surroundings) (r : Sofar) (d : Due) → Some d → SomeGot (with_children₂ child a r d)
  unfolding Some SomeGot
  children_some a r (at_fault n) l = l
  children_some a r (stands (of_none x)) l = tt
  children_some a r (stands (of_one f)) l =
      one (child (inside₂ f a) (past₂ (of_one f) r)) (c (inside₂ f a) (past₂ (of_one f) r)) (λ p r₁. got₂ (around f p) r₁) λ p r₁. tt
  children_some a r (stands (of_two o)) l =
      one (child a (past₂ (of_two o) r)) (c a (past₂ (of_two o) r)) (λ p r₁. and_then₂ (child a r₁) λ q r₂. got₂ (between o p q) r₂)
      λ p r₁. one (child a r₁) (c a r₁) (λ q r₂. got₂ (between o p q) r₂) λ q r₂. tt

read_some : (room : ℕ) (b : List ℕ) (h : Header) (a : Surroundings) (r : Sofar) → SomeGot (read₂ room b h a r)
unfolding read₂ SomeGot
read_some zero b h a r = children_some (λ a r. refused₂ 4 r.place) (λ a r. lit≤ tt) a r (due zero b h a r) (due_some zero b h a r)
read_some (suc room) b h a r = children_some (read₂ room b h) (read_some room b h) a r (due (suc room) b h a r) (due_some (suc room) b h a r)

ended_some : (b : List ℕ) (h : Header) (g : Got₂) → SomeGot g → SomeReading (ended₂ b h g)
unfolding SomeGot SomeReading
ended_some b h (refused₂ n at) l = l
ended_some b h (got₂ p r) l = go (eqb r.place (length b) && eqb r.locals h.locals) (lowest_endless₂ 14 p)
  where
    go : (t : Bool) (o : Option ℕ) → SomeReading (cond t (loops_checked₂ h p o) (turned_down₂ 7 r.place))
    go true none = tt
    go true (some at) = lit≤ tt
    go false o = lit≤ tt

reading_some : (b : List ℕ) → SomeReading (reading₂ b)
unfolding reading₂ SomeReading
reading_some b = go (ltb 3086 (length b)) (eqb (header_fault₂ b) 0) refl
  where
    above_0 : (n : ℕ) → (n ≡ 0 → ⊥) → 1 ≤ n
    above_0 zero f = absurd (f refl)
    above_0 (suc n) f = omega arith

    go : (s t : Bool) → eqb (header_fault₂ b) 0 ≡ t
        → SomeReading (cond s (turned_down₂ 4 0) (cond t (ended₂ b (header b) (read₂ 64 b (header b) outermost begun)) (turned_down₂ (header_fault₂ b) 0)))
    go true t e = lit≤ tt
    go false true e = ended_some b (header b) _ (read_some 64 b (header b) outermost begun)
    go false false e = above_0 (header_fault₂ b) (eqb-false (header_fault₂ b) 0 e)

pub numbers₂ : (b : List ℕ) (n at : ℕ) → reading₂ b ≡ turned_down₂ n at → (1 ≤ n) × (n ≤ 8)
unfolding SomeReading SmallReading
numbers₂ b n at e = (subst SomeReading e (reading_some b), subst SmallReading e (reading_small b))

pub named₂ : (b : List ℕ) (n at : ℕ) → reading₂ b ≡ turned_down₂ n at → number (why_of n) ≡ n
named₂ b n at e = let r = numbers₂ b n at e in number_back n (of_a_block n r.0 r.1)
