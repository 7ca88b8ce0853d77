-- The flags of the rows, from the last to the first: a statement's flag and the compatibility of its active pauses come from its parts, by its shape. Two of them are parted
-- by a statement that has both parts flagged, so where only parallels have no two clash. Assumes nothing.
use mathlib.Core.Path.{◌≡◌, sym, ap, ◌∙◌, subst, subst⁻¹}
use mathlib.Core.Bool.{Bool, true, false, cond}
use mathlib.Core.List.{List}
use mathlib.Core.Option.{none}
use Prim.Native.Nat.{ℕ, ◌+◌, ◌-◌, ◌≤◌, ◌<◌}
use native.Mathlib.Decide.{dec_lt, ℕ_discrete}
use native.Mathlib.Omega.{arith}
use lib.Dec.{T, eqb}
use lib.ListN.{length, get_or, set}
use lib.Seq.{get_or-set_same, get_or-set_other}
use borrow.Author.Tests.{eq-eqb, ne_eqb}
use Rattle.sets.specs.Words.{set_of}
use Rattle.rules.specs.Statements.{Stmt, pauses}
use Rattle.rules.specs.States.{compatible}
use Rattle.tables.specs.Table.{kind_of, statements}
use Rattle.tables.proofs.Rows.{some_statement}
use Rattle.records.specs.StateRecord.{first_clash}
use Rattle.records.specs.Clashing.{before, two_parts, Searchable, Filled, Standing, Holds, Flagged, Agreed, Quiet}
use Rattle.records.proofs.Walk.{One, Two, Shape, leaf, one, two}
use Rattle.records.proofs.Standing.{tab, here, kind_here, size_here, its_shape, only_next, only_all, only_stands}
use Rattle.records.proofs.Standing.{first_next, first_size, split_at, both, first_stands, second_stands, by_first, by_second, by_itself}
use Rattle.records.proofs.Steps.{true_false}
use Rattle.records.proofs.Pairs.{root_stands, none_found, clash_first, clash_second, clash_lower, clash_apart}

-- An active pause of a statement is one of its parts'.
module _ {kinds sizes active : List ℕ} {count i k : ℕ} {p : Stmt} (S : Standing kinds sizes count i p) (H : Holds kinds active i p k) where
  in_only : {q : Stmt} → One (tab S) i p q → Holds kinds active (i + 1) q k
  in_only o = record { member = H.member; low = omega (arith, H.low, only_next S o); high = omega (arith, H.high, only_next S o, only_all S o) }

  module _ {q r : Stmt} (o : Two (tab S) i p q r) where
    in_first : k < before kinds i + length (pauses q) → Holds kinds active (i + 1) q k
    in_first h = record { member = H.member; low = omega (arith, H.low, first_next S o); high = omega (arith, first_next S o) }

    in_second : before kinds i + length (pauses q) ≤ k → Holds kinds active (i + 1 + statements q) r k
    in_second h = record { member = H.member; low = omega (arith, split_at S o); high = omega (arith, H.high, split_at S o, both S o) }

  -- A statement that is no pause and has no part holds none.
  in_leaf : (get_or kinds i 0 ≡ 17 → ⊥) → cond {A = ℕ} (eqb (kind_of p) 17) 1 0 ≡ length (pauses p) → ⊥
  in_leaf f e =
      let w : eqb (kind_of p) 17 ≡ false = ne_eqb (kind_of p) 17 (λ z. f (kind_here S ∙ z)) in
      let z : ◌≡◌ {A = ℕ} 0 (length (pauses p)) = sym (ap (λ (b : Bool). cond {A = ℕ} b 1 0) w) ∙ e in
      absurd (omega (arith, H.low, H.high, z))

-- A pause's flag.
pub pause_flag : {kinds sizes firsts active : List ℕ} {count i : ℕ} {b : Bool} → Filled kinds count firsts → get_or kinds i 0 ≡ 17 → b ≡ set_of active (get_or firsts i 0)
    → Flagged kinds sizes count active i b
pause_flag {kinds} {sizes} {firsts} {active} {count} {i} {b} f e s = record { set = λ p S k H. go p S k H (its_shape S) }
  where
    go : (p : Stmt) (S : Standing kinds sizes count i p) (k : ℕ) → Holds kinds active i p k → Shape (tab S) i p → T b
    go p S k H (leaf l z c) =
        let w : k ≡ get_or firsts i 0 = let u : get_or firsts i 0 ≡ before kinds i = f.first i (omega (arith, S.ends, z)) in omega (arith, H.low, H.high, l, u) in
        subst T (ap (set_of active) w ∙ sym s) H.member
    go p S k H (one q o) = absurd (true_false (eq-eqb (kind_of p) 17 (sym (kind_here S) ∙ e)) o.no_pause)
    go p S k H (two q r o) = absurd (true_false (eq-eqb (kind_of p) 17 (sym (kind_here S) ∙ e)) o.no_pause)

module _ {kinds sizes active : List ℕ} {live : List Bool} {count i : ℕ} (Q : Quiet kinds sizes count active live (i + 1)) where
  -- The flag of the second part, which stands behind the first.
  second_flag : {p q r : Stmt} {k : ℕ} (S : Standing kinds sizes count i p) (o : Two (tab S) i p q r) → Holds kinds active (i + 1 + statements q) r k
      → T (get_or live (i + 1 + get_or sizes (i + 1) 0) false)
  second_flag {p} {q} {r} {k} S o H =
      let e : i + 1 + statements q ≡ i + 1 + get_or sizes (i + 1) 0 = omega (arith, first_size S o) in
      subst (λ (x : ℕ). T (get_or live x false)) e ((Q.flagged (i + 1 + statements q) (omega arith)).set r (second_stands S o) k H)

  second_in : {p q r : Stmt} (S : Standing kinds sizes count i p) (o : Two (tab S) i p q r) → i + 1 + get_or sizes (i + 1) 0 < 512
  second_in S o = omega (arith, here (second_stands S o), first_size S o)

  -- A statement that is no pause has its flag where a part of it has one.
  pub part_flag : {b : Bool} → (get_or kinds i 0 ≡ 17 → ⊥)
      → (2 ≤ get_or sizes i 0 → i + 1 < 512 → T (get_or live (i + 1) false) → T b)
      → (2 ≤ get_or sizes i 0 → i + 1 < 512 → two_parts (get_or kinds i 0) ≡ true → i + 1 + get_or sizes (i + 1) 0 < 512 → T (get_or live (i + 1 + get_or sizes (i + 1) 0) false) → T b)
      → Flagged kinds sizes count active i b
  part_flag {b} other f g = record { set = λ p S k H. go p S k H (its_shape S) }
    where
      go : (p : Stmt) (S : Standing kinds sizes count i p) (k : ℕ) → Holds kinds active i p k → Shape (tab S) i p → T b
      go p S k H (leaf l z c) = absurd (in_leaf S H other c)
      go p S k H (one q o) =
          f (omega (arith, size_here S, o.its_size, some_statement q)) (here (only_stands S o)) ((Q.flagged (i + 1) (omega arith)).set q (only_stands S o) k (in_only S H o))
      go p S k H (two q r o) = by (dec_lt k (before kinds i + length (pauses q)))
        where
          wide : 2 ≤ get_or sizes i 0
          wide = omega (arith, size_here S, o.its_size, some_statement q)

          by : Dec (k < before kinds i + length (pauses q)) → T b
          by (yes h) = f wide (here (first_stands S o)) ((Q.flagged (i + 1) (omega arith)).set q (first_stands S o) k (in_first S H o h))
          by (no h) =
              g wide (here (first_stands S o)) (ap two_parts (kind_here S) ∙ o.is_two) (second_in S o) (second_flag S o (in_second S H o (omega arith)))

  -- Two active pauses that a statement parts are in both its parts.
  pub part_agree : (two_parts (get_or kinds i 0) ≡ true → i + 1 < 512 → T (get_or live (i + 1) false) → i + 1 + get_or sizes (i + 1) 0 < 512
      → T (get_or live (i + 1 + get_or sizes (i + 1) 0) false) → T (eqb (get_or kinds i 0) 23))
      → Agreed kinds sizes count active i
  part_agree f = record { agree = λ p S m n l H K. go p S m n l H K (its_shape S) }
    where
      go : (p : Stmt) (S : Standing kinds sizes count i p) (m n : ℕ) → m < n → Holds kinds active i p m → Holds kinds active i p n → Shape (tab S) i p → T (compatible p m n)
      go p S m n l H K (leaf s z c) = absurd (omega (arith, H.low, K.high))
      go p S m n l H K (one q o) =
          subst T (sym (o.above m n)) ((Q.agreed (i + 1) (omega arith)).agree q (only_stands S o) m n l (in_only S H o) (in_only S K o))
      go p S m n l H K (two q r o) = by (dec_lt n (before kinds i + length (pauses q))) (dec_lt m (before kinds i + length (pauses q)))
        where
          by : Dec (n < before kinds i + length (pauses q)) → Dec (m < before kinds i + length (pauses q)) → T (compatible p m n)
          by (yes h) d =
              subst T (by_first S o m n l H.low h)
              ((Q.agreed (i + 1) (omega arith)).agree q (first_stands S o) m n l (in_first S H o (omega arith)) (in_first S K o h))
          by (no h) (yes g) =
              subst T (by_itself S o m n g (omega arith))
              (f (ap two_parts (kind_here S) ∙ o.is_two) (here (first_stands S o)) ((Q.flagged (i + 1) (omega arith)).set q (first_stands S o) m (in_first S H o g)) (second_in S o)
              (second_flag S o (in_second S K o (omega arith))))
          by (no h) (no g) =
              subst T (by_second S o m n l (omega arith) K.high)
              ((Q.agreed (i + 1 + statements q) (omega arith)).agree r (second_stands S o) m n l (in_second S H o (omega arith)) (in_second S K o (omega arith)))

-- What a read of a flag tells.
pub told_flag : (live : List Bool) {x y : ℕ} {b : Bool} → x ≡ y → (x < 512 → b ≡ get_or live x false) → y < 512 → T (get_or live y false) → T b
told_flag live e f l t = subst⁻¹ T (f (subst⁻¹ (λ (z : ℕ). z < 512) e l)) (subst⁻¹ (λ (z : ℕ). T (get_or live z false)) e t)

-- The pass: nothing stands behind the last row, one row more, and what is known at the first.
pub quiet_behind : {kinds sizes active : List ℕ} {live : List Bool} {count : ℕ} → Quiet kinds sizes count active live count
quiet_behind {kinds} {sizes} {active} {live} {count} = record {
  flagged = λ j h. record { set = λ p S k H. absurd (omega (arith, S.ends, some_statement p)) };
  agreed = λ j h. record { agree = λ p S m n l H K. absurd (omega (arith, S.ends, some_statement p)) };
}

pub quiet_more : {kinds sizes active : List ℕ} {live : List Bool} {count : ℕ} (i : ℕ) (b : Bool) → i < length live → Quiet kinds sizes count active live (i + 1)
    → Flagged kinds sizes count active i b → Agreed kinds sizes count active i → Quiet kinds sizes count active (set live i b) i
quiet_more {kinds} {sizes} {active} {live} {count} i b l Q F A = record { flagged = λ j h. flag j h (ℕ_discrete j i); agreed = λ j h. agree j h (ℕ_discrete j i) }
  where
    flag : (j : ℕ) → i ≤ j → Dec (j ≡ i) → Flagged kinds sizes count active j (get_or (set live i b) j false)
    flag j h (yes e) =
        subst (λ (x : ℕ). Flagged kinds sizes count active x (get_or (set live i b) x false)) (sym e)
        (subst (Flagged kinds sizes count active i) (sym (get_or-set_same live i b false l)) F)
    flag j h (no e) = subst (Flagged kinds sizes count active j) (sym (get_or-set_other live i j b false e)) (Q.flagged j (omega arith))

    agree : (j : ℕ) → i ≤ j → Dec (j ≡ i) → Agreed kinds sizes count active j
    agree j h (yes e) = subst (Agreed kinds sizes count active) (sym e) A
    agree j h (no e) = Q.agreed j (omega arith)

-- One turn: the row before i.
pub quiet_step : {kinds sizes active : List ℕ} {live : List Bool} {count : ℕ} (i : ℕ) (b : Bool) → 0 < i → i ≤ 512 → length live ≡ 512 → Quiet kinds sizes count active live i
    → (Quiet kinds sizes count active live (i - 1 + 1) → Flagged kinds sizes count active (i - 1) b)
    → (Quiet kinds sizes count active live (i - 1 + 1) → Agreed kinds sizes count active (i - 1)) → Quiet kinds sizes count active (set live (i - 1) b) (i - 1)
quiet_step {kinds} {sizes} {active} {live} {count} i b h l e Q F A =
    let back : Quiet kinds sizes count active live (i - 1 + 1) = subst (Quiet kinds sizes count active live) (omega arith) Q in
    quiet_more (i - 1) b (omega arith) back (F back) (A back)

pub quiet_all : {kinds sizes active : List ℕ} {live : List Bool} {count i : ℕ} → i ≤ 0 → Quiet kinds sizes count active live i → (t : Stmt)
    → Searchable kinds sizes count active t → none ≡ first_clash t (set_of active)
unfolding before
quiet_all {kinds} {sizes} {active} {live} {count} {i} z Q t S =
    none_found t (set_of active) 128 (omega arith) (record {
      none_below = λ m n h l c. clash_apart t (set_of active) m n c
          ((Q.agreed 0 z).agree t (root_stands S) m n (clash_lower t (set_of active) m n c) (held m (clash_first t (set_of active) m n c)) (held n (clash_second t (set_of active) m n c)));
    })
  where
    held : (k : ℕ) → T (set_of active k) → Holds kinds active 0 t k
    held k h = record { member = h; low = omega arith; high = let w : k < length (pauses t) = S.in_block k h in omega arith }
