-- The refusals of a block of edition 2 have the numbers up to 8: each test names one, and reading hands on the first. Assumes nothing.
use mathlib.Core.Path.{◌≡◌, refl}
use mathlib.Core.Bool.{Bool, true, false, not, cond, ◌&&◌}
use mathlib.Core.List.{List}
use mathlib.Core.Option.{Option, none, some}
use Prim.Native.Nat.{ℕ, zero, suc, ◌+◌, ◌≤◌}
use lib.Dec.{lit≤, eqb, ltb, leb}
use lib.ListN.{length}
use Rattle.block.specs.Format.{two_bytes, length_at, kind_at, operand_at, is_broken, Header, header, Sofar, Around as Surroundings, outermost, begun}
use Rattle.everyday.specs.Statements.{Everyday, around, between}
use Rattle.converting.specs.Format.{Sort, of_none, of_one, of_two, sort_of, record_length, over_limit₂, wrong_signal₂, wrong_exit₂, Due, at_fault, stands, sorted, due, past₂, inside₂}
use Rattle.converting.specs.Format.{Got₂, got₂, refused₂, and_then₂, with_children₂, read₂, lowest_endless₂, Reading₂, good₂, turned_down₂, loops_checked₂, ended₂, header_fault₂, reading₂}

unfoldable Small : Due → Type 0
Small (at_fault n) = n ≤ 8
Small (stands s) = Unit {0}

unfoldable SmallGot : Got₂ → Type 0
SmallGot (got₂ p r) = Unit {0}
SmallGot (refused₂ n at) = n ≤ 8

unfoldable pub SmallReading : Reading₂ → Type 0
SmallReading (good₂ h p) = Unit {0}
SmallReading (turned_down₂ n at) = n ≤ 8

sorted_small : (room : ℕ) (h : Header) (a : Surroundings) (r : Sofar) (len : ℕ) (o : Option Sort) → Small (sorted room h a r len o)
unfolding Small
sorted_small room h a r len none = lit≤ tt
sorted_small room h a r len (some s) = go (not (eqb (record_length s) len)) (over_limit₂ room a r s) (wrong_signal₂ h a r s) (wrong_exit₂ a s)
  where
    go : (t u v w : Bool) → Small (cond t (at_fault 2) (cond u (at_fault 4) (cond v (at_fault 5) (cond w (at_fault 6) (stands s)))))
    go true u v w = lit≤ tt
    go false true v w = lit≤ tt
    go false false true w = lit≤ tt
    go false false false true = lit≤ tt
    go false false false false = tt

due_small : (room : ℕ) (b : List ℕ) (h : Header) (a : Surroundings) (r : Sofar) → Small (due room b h a r)
unfolding Small due
due_small room b h a r = go (leb (length b) r.place) (is_broken b r.place)
  where
    record_there : Due
    record_there = sorted room h a r (length_at b r.place) (sort_of (kind_at b r.place) (operand_at b r.place))

    go : (t u : Bool) → Small (cond t (at_fault 7) (cond u (at_fault 1) record_there))
    go true u = lit≤ tt
    go false true = lit≤ tt
    go false false = sorted_small room h a r (length_at b r.place) (sort_of (kind_at b r.place) (operand_at b r.place))

module _ (child : Surroundings → Sofar → Got₂) (c : (a : Surroundings) (r : Sofar) → SmallGot (child a r)) where
  one : (g : Got₂) → SmallGot g → (f : Everyday → Sofar → Got₂) → ((p : Everyday) (r : Sofar) → SmallGot (f p r)) → SmallGot (and_then₂ g f)
  one (got₂ p r) l f k = k p r
  one (refused₂ n at) l f k = l

  children_small : (a : Surroundings) (r : Sofar) (d : Due) → Small d → SmallGot (with_children₂ child a r d)
  unfolding Small SmallGot
  children_small a r (at_fault n) l = l
  children_small a r (stands (of_none x)) l = tt
  children_small a r (stands (of_one f)) l =
      one (child (inside₂ f a) (past₂ (of_one f) r)) (c (inside₂ f a) (past₂ (of_one f) r)) (λ p r₁. got₂ (around f p) r₁) λ p r₁. tt
  children_small a r (stands (of_two o)) l =
      one (child a (past₂ (of_two o) r)) (c a (past₂ (of_two o) r)) (λ p r₁. and_then₂ (child a r₁) λ q r₂. got₂ (between o p q) r₂)
      λ p r₁. one (child a r₁) (c a r₁) (λ q r₂. got₂ (between o p q) r₂) λ q r₂. tt

read_small : (room : ℕ) (b : List ℕ) (h : Header) (a : Surroundings) (r : Sofar) → SmallGot (read₂ room b h a r)
unfolding read₂ SmallGot
read_small zero b h a r = children_small (λ a r. refused₂ 4 r.place) (λ a r. lit≤ tt) a r (due zero b h a r) (due_small zero b h a r)
read_small (suc room) b h a r = children_small (read₂ room b h) (read_small room b h) a r (due (suc room) b h a r) (due_small (suc room) b h a r)

ended_small : (b : List ℕ) (h : Header) (g : Got₂) → SmallGot g → SmallReading (ended₂ b h g)
unfolding SmallGot SmallReading
ended_small b h (refused₂ n at) l = l
ended_small b h (got₂ p r) l = go (eqb r.place (length b) && eqb r.locals h.locals) (lowest_endless₂ 14 p)
  where
    go : (t : Bool) (o : Option ℕ) → SmallReading (cond t (loops_checked₂ h p o) (turned_down₂ 7 r.place))
    go true none = tt
    go true (some at) = lit≤ tt
    go false o = lit≤ tt

header_small : (b : List ℕ) → header_fault₂ b ≤ 8
unfolding header_fault₂
header_small b =
    go (is_broken b 0) (not (eqb (kind_at b 0) 1 && eqb (length_at b 0) 14)) (not (eqb (two_bytes b 4) 2))
    (ltb 64 ((header b).inputs + (header b).outputs + (header b).locals))
  where
    go : (s t u v : Bool) → cond s 1 (cond t 2 (cond u 3 (cond v 4 0))) ≤ 8
    go true t u v = lit≤ tt
    go false true u v = lit≤ tt
    go false false true v = lit≤ tt
    go false false false true = lit≤ tt
    go false false false false = lit≤ tt

pub reading_small : (b : List ℕ) → SmallReading (reading₂ b)
unfolding reading₂ SmallReading
reading_small b = go (ltb 3086 (length b)) (eqb (header_fault₂ b) 0)
  where
    go : (s t : Bool) → SmallReading (cond s (turned_down₂ 4 0) (cond t (ended₂ b (header b) (read₂ 64 b (header b) outermost begun)) (turned_down₂ (header_fault₂ b) 0)))
    go true t = lit≤ tt
    go false true = ended_small b (header b) _ (read_small 64 b (header b) outermost begun)
    go false false = header_small b
