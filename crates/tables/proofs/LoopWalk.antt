-- The walk over the table from the last statement to the first: what is known from statement i on, and one step of it.
use mathlib.Core.Path.{◌≡◌, refl, sym, ◌∙◌, ap, ap₂, subst}
use mathlib.Core.Bool.{Bool, true, false, cond, ◌&&◌}
use mathlib.Core.List.{List}
use mathlib.Core.Option.{Option, none, some}
use Rattle.std.specs.Prelude.{Option as Maybe, Some, None, IfSome, unwrap_or}
use Prim.Native.Nat.{ℕ, ◌+◌, ◌≤◌, ◌<◌}
use native.Mathlib.Nat.{zero-add}
use native.Mathlib.Decide.{dec_lt, ℕ_discrete}
use native.Mathlib.Omega.{arith}
use lib.Dec.{T, eqb}
use lib.ListN.{length, get_or, set, length-set, get_or-eq_default}
use lib.Seq.{get_or-set_same, get_or-set_other}
use Rattle.sets.specs.Words.{bits}
use Rattle.sets.specs.Numbers.{lowest}
use Rattle.sets.proofs.Members.{of_true, of_false}
use Rattle.sets.proofs.Counts.{lowest_in, lowest_empty, lowest_some}
use Rattle.rules.specs.Statements.{Stmt}
use Rattle.rules.specs.Loops.{codes_of}
use Rattle.tables.specs.Table.{Has, kind_of, operand_of, statements}
use Rattle.tables.specs.declared.Table.{Table}
use Rattle.rules.specs.Statements.{numbered}
use Rattle.tables.specs.Codes.{endless, lowest_endless}
use Rattle.tables.specs.Codes.{codes_for, Fed, Tabled, found, number_or}
use Rattle.tables.proofs.Places.{At, at_number, has_row, fed, codes_right, endless_right, exit_small}

pub record Walked (tab : Table) (count : ℕ) (codes : List ℕ) (found i : ℕ) : Type 0 where
  pub in_count : i ≤ count
  pub wide : length codes ≡ 512
  pub known : (t : Stmt) → Tabled tab count t → (j : ℕ) → i ≤ j → j < count → bits (get_or codes j 0) ≡ codes_of (numbered t j)
  pub found_in : found ≤ count
  pub none_before : (t : Stmt) → Tabled tab count t → (j : ℕ) → i ≤ j → j < found → T (endless (numbered t j)) → ⊥
  pub found_there : (t : Stmt) → Tabled tab count t → found < count → (i ≤ found) × T (endless (numbered t found))

pub walk_start : (tab : Table) (count : ℕ) (codes : List ℕ) → length codes ≡ 512 → Walked tab count codes count count
walk_start tab count codes e = record {
  in_count = omega arith;
  wide = e;
  known = λ t h j l m. absurd (omega arith);
  found_in = omega arith;
  none_before = λ t h j l m. absurd (omega arith);
  found_there = λ t h l. absurd (omega arith);
}

-- What the code reads before it stores statement i.
pub record Step (tab : Table) (codes : List ℕ) (found i v w k x r f : ℕ) : Type 0 where
  pub first : v ≡ get_or codes (i + 1) 0
  pub second : w ≡ get_or codes (i + 1 + get_or tab.sizes (i + 1) 0) 0
  pub kind : k ≡ get_or tab.kinds i 0
  pub operand : x ≡ get_or tab.operands i 0
  pub its_codes : (k ≡ 25 → x < 16) → bits r ≡ codes_for k x (bits v) (bits w)
  pub now_found : f ≡ cond (eqb k 22 && bits v 0) i found

-- Past the table's end every word is 0, so the second child's word is the one at its number there too.
pub second_word : (codes ns : List ℕ) (i s w : ℕ) → length codes ≡ 512 → (i + 1 < 512 → s ≡ i + 1 + get_or ns (i + 1) 0) → (512 ≤ i + 1 → s ≡ i + 1) → w ≡ get_or codes s 0
    → w ≡ get_or codes (i + 1 + get_or ns (i + 1) 0) 0
second_word codes ns i s w e near far h = go (dec_lt (i + 1) 512)
  where
    go : Dec (i + 1 < 512) → w ≡ get_or codes (i + 1 + get_or ns (i + 1) 0) 0
    go (yes l) = h ∙ ap (λ (j : ℕ). get_or codes j 0) (near l)
    go (no l) =
        h ∙ get_or-eq_default codes 0 {n = s} (omega (arith, e, far (omega arith)))
        ∙ sym (get_or-eq_default codes 0 {n = i + 1 + get_or ns (i + 1) 0} (omega (arith, e)))

-- One statement, for a tree that the table has.
module _ {tab : Table} {count : ℕ} {codes : List ℕ} {found i v w k x r f : ℕ} (at : Walked tab count codes found (i + 1)) (s : Step tab codes found i v w k x r f)
    (few : count ≤ 512) (t : Stmt) (h : Tabled tab count t) where
  here : At tab 0 t i
  here = at_number 0 t h.has h.small i (omega (arith, h.counted, at.in_count))

  p : Stmt
  p = numbered t i

  has_p : Has tab i (numbered t i)
  has_p = subst (λ (j : ℕ). Has tab j (numbered t i)) (zero-add i) here.has

  fed_p : Fed (numbered t i) v w
  fed_p =
      let d = fed tab i (λ j. get_or codes j 0) (numbered t i) has_p
      (λ m l n. at.known t h (i + m) (omega arith) (omega (arith, here.within, h.counted)) ∙ ap codes_of (here.below m n)) in
      subst (λ (a : ℕ). Fed (numbered t i) a w) (sym s.first) (subst (Fed (numbered t i) (get_or codes (i + 1) 0)) (sym s.second) d)

  kind_p : k ≡ kind_of (numbered t i)
  kind_p = s.kind ∙ (has_row (numbered t i) has_p).its_kind

  operand_p : x ≡ operand_of (numbered t i)
  operand_p = s.operand ∙ (has_row (numbered t i) has_p).its_operand

  codes_p : bits r ≡ codes_of (numbered t i)
  codes_p =
      s.its_codes (λ e. subst (λ (y : ℕ). y < 16) (sym operand_p) (exit_small (numbered t i) here.small (sym kind_p ∙ e)))
      ∙ ap₂ (λ (a b : ℕ). codes_for a b (bits v) (bits w)) kind_p operand_p ∙ codes_right (numbered t i) v w fed_p

  endless_p : (eqb k 22 && bits v 0) ≡ endless (numbered t i)
  endless_p = ap (λ (a : ℕ). eqb a 22 && bits v 0) kind_p ∙ endless_right (numbered t i) v w fed_p

pub walk_step : {tab : Table} {count : ℕ} {codes : List ℕ} {found i v w k x r f : ℕ} → Walked tab count codes found (i + 1) → Step tab codes found i v w k x r f → count ≤ 512
    → Walked tab count (set codes i r) f i
walk_step {tab} {count} {codes} {found} {i} {v} {w} {k} {x} {r} {f} at s few = record {
  in_count = omega (arith, at.in_count);
  wide = length-set codes i r ∙ at.wide;
  known = λ t h j l m. known t h j l m (ℕ_discrete j i);
  found_in = subst (λ (n : ℕ). n ≤ count) (sym s.now_found) (in_count (eqb k 22 && bits v 0));
  none_before = λ t h j l m. none_before t h j l (eqb k 22 && bits v 0) (endless_p at s few t h) (subst (λ (n : ℕ). j < n) s.now_found m) (ℕ_discrete j i);
  found_there = λ t h m. subst (λ (n : ℕ). (i ≤ n) × T (endless (numbered t n))) (sym s.now_found)
      (found_there t h (eqb k 22 && bits v 0) (endless_p at s few t h) (subst (λ (n : ℕ). n < count) s.now_found m));
}
  where
    known : (t : Stmt) → Tabled tab count t → (j : ℕ) → i ≤ j → j < count → Dec (j ≡ i) → bits (get_or (set codes i r) j 0) ≡ codes_of (numbered t j)
    known t h j l m (yes e) =
        subst (λ (n : ℕ). bits (get_or (set codes i r) n 0) ≡ codes_of (numbered t n)) (sym e)
        (ap bits (get_or-set_same codes i r 0 (omega (arith, at.wide, at.in_count, few))) ∙ codes_p at s few t h)
    known t h j l m (no n) = ap bits (get_or-set_other codes i j r 0 n) ∙ at.known t h j (omega arith) m

    in_count : (z : Bool) → cond z i found ≤ count
    in_count true = omega (arith, at.in_count)
    in_count false = at.found_in

    none_before : (t : Stmt) → Tabled tab count t → (j : ℕ) → i ≤ j → (z : Bool) → z ≡ endless (numbered t i) → j < cond z i found → Dec (j ≡ i) → T (endless (numbered t j)) → ⊥
    none_before t h j l true e m d q = absurd (omega arith)
    none_before t h j l false e m (yes y) q = of_false (sym e) (subst (λ (n : ℕ). T (endless (numbered t n))) y q)
    none_before t h j l false e m (no n) q = at.none_before t h j (omega arith) m q

    found_there : (t : Stmt) → Tabled tab count t → (z : Bool) → z ≡ endless (numbered t i) → cond z i found < count → (i ≤ cond z i found) × T (endless (numbered t (cond z i found)))
    found_there t h true e m = (omega arith, of_true (sym e))
    found_there t h false e m = let g = at.found_there t h m in (omega (arith, g.0), g.1)

walk_end : {tab : Table} {count : ℕ} {codes : List ℕ} {found i : ℕ} → Walked tab count codes found i → i ≤ 0 → (t : Stmt) → Tabled tab count t → found ≡ number_or count (lowest_endless t)
unfolding lowest_endless
walk_end {tab} {count} {codes} {found} {i} at z t h = go (dec_lt found count)
  where
    go : Dec (found < count) → found ≡ number_or count (lowest (statements t) (λ n. endless (numbered t n)))
    go (yes l) =
        ap (number_or count) (sym (lowest_in (statements t) (λ n. endless (numbered t n)) {k = found} (omega (arith, h.counted)) (at.found_there t h l).1
        (λ j m. at.none_before t h j (omega arith) m)))
    go (no l) =
        (let e : found ≡ count = omega (arith, at.found_in) in e)
        ∙ ap (number_or count) (sym (lowest_empty (statements t) (λ n. endless (numbered t n)) (λ j m. at.none_before t h j (omega arith) (omega (arith, h.counted, at.found_in)))))

-- The code keeps what it found as an option; by its number the walk goes on and ends as above.
pub found_step : (b : Bool) (i count : ℕ) (f : Maybe ℕ) → unwrap_or (cond b (Some i) f) count ≡ cond b i (unwrap_or f count)
found_step true i count f = refl
found_step false i count f = refl

pub within_step : (b : Bool) {i count : ℕ} (f : Maybe ℕ) → i < count → IfSome f (λ n. n < count) → IfSome (cond b (Some i) f) (λ n. n < count)
within_step true f l w = l
within_step false f l w = w

same_found : (count : ℕ) (f : Maybe ℕ) (o : Option ℕ) → IfSome f (λ n. n < count) → ((k : ℕ) → o ≡ some k → k < count) → unwrap_or f count ≡ number_or count o → f ≡ found o
same_found count None none w v e = refl
same_found count None (some k) w v e = absurd (omega (arith, v k refl))
same_found count (Some n) none w v e = absurd (omega arith)
same_found count (Some n) (some k) w v e = ap Some e

pub walk_found : {tab : Table} {count : ℕ} {codes : List ℕ} {f : Maybe ℕ} {i : ℕ} → Walked tab count codes (unwrap_or f count) i → IfSome f (λ n. n < count) → i ≤ 0
    → (t : Stmt) → Tabled tab count t → f ≡ found (lowest_endless t)
unfolding lowest_endless
walk_found {count = count} {f = f} at w z t h =
    same_found count f (lowest (statements t) (λ n. endless (numbered t n))) w
    (λ k e. omega (arith, h.counted, (lowest_some (statements t) (λ n. endless (numbered t n)) e).0)) (walk_end at z t h)
