-- Pairs of pauses: what one test says, and what the search over all pairs has shown. Assumes nothing.
use mathlib.Core.Path.{◌≡◌, refl, sym, ap, ◌∙◌, subst}
use mathlib.Core.Bool.{Bool, true, false, not, ◌&&◌}
use mathlib.Core.List.{List}
use mathlib.Core.Option.{none, some}
use Prim.Native.Nat.{ℕ, ◌+◌, ◌≤◌, ◌<◌}
use native.Mathlib.Omega.{arith}
use lib.Dec.{T, eqb, ltb, ltb→lt, T_not}
use lib.ListN.{length}
use native.Mathlib.Decide.{dec_lt, ℕ_discrete}
use borrow.Author.Tests.{lt-ltb, eqb-true, eqb-false, not-true}
use Rattle.sets.specs.Numbers.{Numbers, some_to}
use Rattle.sets.specs.Words.{set_of}
use Rattle.sets.proofs.Members.{is_true, is_false, of_false, and_left, and_right}
use Rattle.sets.proofs.Maxima.{some_to_in, some_to_out}
use Rattle.sets.proofs.Counts.{lowest_in, lowest_empty}
use Rattle.rules.specs.Statements.{Stmt, pauses}
use Rattle.rules.specs.States.{compatible}
use Rattle.records.specs.StateRecord.{clashes, first_clash, with_second, paired, beyond}
use Rattle.records.specs.Clashing.{Searchable, before, Filled, Standing, Place}
use Rattle.records.proofs.TwoWords.{beyond_in}

-- The tree stands at the root.
pub root_stands : {kinds sizes active : List ℕ} {count : ℕ} {t : Stmt} → Searchable kinds sizes count active t → Standing kinds sizes count 0 t
unfolding before
root_stands S = record { operands = S.operands; has = S.has; numbered = S.numbered; ends = omega (arith, S.counted); few = S.few }

-- Two active pauses are in the tree, so that the walk may start at its root.
pub root_place : (kinds sizes firsts active : List ℕ) (count m n : ℕ) (t : Stmt) → Searchable kinds sizes count active t → Filled kinds count firsts
    → m < n → T (set_of active n) → Place kinds sizes firsts m n 0 t
unfolding before
root_place kinds sizes firsts active count m n t S f l h = record {
  count = count;
  stands = root_stands S;
  filled = f;
  lower = l;
  low = omega arith;
  high = let w : n < length (pauses t) = S.in_block n h in omega arith;
}

-- One test.
module _ (t : Stmt) (A : Numbers) (m n : ℕ) where
  pub clash_tested : {b : Bool} → T (A m) → A n ≡ true → m < n → b ≡ compatible t m n → not b ≡ clashes t A m n
  unfolding clashes
  clash_tested h k l e =
      ap not e
      ∙ sym (ap (λ (x : Bool). x && A n && ltb m n && not (compatible t m n)) (is_true (A m) h)
      ∙ ap (λ (x : Bool). true && x && ltb m n && not (compatible t m n)) k ∙ ap (λ (x : Bool). true && true && x && not (compatible t m n)) (lt-ltb m n l))

  pub clash_first : T (clashes t A m n) → T (A m)
  unfolding clashes
  clash_first h = and_left (A m) (A n) (and_left (A m && A n) (ltb m n) (and_left (A m && A n && ltb m n) (not (compatible t m n)) h))

  pub clash_second : T (clashes t A m n) → T (A n)
  unfolding clashes
  clash_second h = and_right (A m) (A n) (and_left (A m && A n) (ltb m n) (and_left (A m && A n && ltb m n) (not (compatible t m n)) h))

  pub clash_lower : T (clashes t A m n) → m < n
  unfolding clashes
  clash_lower h = ltb→lt m n (and_right (A m && A n) (ltb m n) (and_left (A m && A n && ltb m n) (not (compatible t m n)) h))

  pub clash_apart : T (clashes t A m n) → T (compatible t m n) → ⊥
  unfolding clashes
  clash_apart h = T_not (compatible t m n) (and_right (A m && A n && ltb m n) (not (compatible t m n)) h)

  pub clash_inactive : A n ≡ false → false ≡ clashes t A m n
  clash_inactive e = sym (is_false (clashes t A m n) (λ h. of_false e (clash_second h)))

-- No clash has a first pause below m; none of m has a second below n.
pub record ClearFirst (t : Stmt) (A : Numbers) (m : ℕ) : Type 0 where
  pub none_below : (i j : ℕ) → i < m → j < 128 → T (clashes t A i j) → ⊥

pub record ClearSecond (t : Stmt) (A : Numbers) (m n : ℕ) : Type 0 where
  pub none_before : (j : ℕ) → j < n → T (clashes t A m j) → ⊥

module _ (t : Stmt) (A : Numbers) where
  pub first_begin : ClearFirst t A 0
  first_begin = record { none_below = λ i j h. absurd (omega arith) }

  pub second_begin : (m : ℕ) → ClearSecond t A m (m + 1)
  second_begin m = record { none_before = λ j h c. let l : m < j = clash_lower t A m j c in omega arith }

  pub second_more : (m n : ℕ) {b : Bool} → ClearSecond t A m n → b ≡ clashes t A m n → b ≡ false → ClearSecond t A m (n + 1)
  second_more m n {b} C e f = record { none_before = λ j h. go j h (eqb j n) refl }
    where
      go : (j : ℕ) → j < n + 1 → (x : Bool) → eqb j n ≡ x → T (clashes t A m j) → ⊥
      go j h true q c = of_false (sym e ∙ f) (subst (λ (k : ℕ). T (clashes t A m k)) (eqb-true j n q) c)
      go j h false q c = let k : j ≡ n → ⊥ = eqb-false j n q in C.none_before j (omega arith) c

  pub first_more : (m : ℕ) → ClearFirst t A m → ((j : ℕ) → j < 128 → T (clashes t A m j) → ⊥) → ClearFirst t A (m + 1)
  first_more m C f = record { none_below = λ i j h l. go i j h l (eqb i m) refl }
    where
      go : (i j : ℕ) → i < m + 1 → j < 128 → (x : Bool) → eqb i m ≡ x → T (clashes t A i j) → ⊥
      go i j h l true q c = f j l (subst (λ (k : ℕ). T (clashes t A k j)) (eqb-true i m q) c)
      go i j h l false q c = let k : i ≡ m → ⊥ = eqb-false i m q in C.none_below i j (omega arith) l c

  pub first_tested : (m n : ℕ) {k : ℕ} → ClearFirst t A m → ClearSecond t A m n → ((j : ℕ) → T (A j) → j < k) → k ≤ n → ClearFirst t A (m + 1)
  first_tested m n C D f h = first_more m C (λ j l c. D.none_before j (let b = f j (clash_second t A m j c) in omega arith) c)

  pub first_passed : (m : ℕ) {b : Bool} → ClearFirst t A m → b ≡ A m → b ≡ false → ClearFirst t A (m + 1)
  first_passed m C e f = first_more m C (λ j l c. of_false (sym e ∙ f) (clash_first t A m j c))

  -- What the definition says of either end of the search.
  some_second : (m : ℕ) → T (some_to (clashes t A m) 127) → (n : ℕ) × (n < 128) × T (clashes t A m n)
  some_second m h = let r = some_to_out (clashes t A m) 127 h in (r.0, omega (arith, r.1), r.2)

  pub none_found : (m : ℕ) → 128 ≤ m → ClearFirst t A m → none ≡ first_clash t A
  unfolding first_clash
  none_found k l C =
      sym (ap (with_second t A) (lowest_empty 128 (λ m. some_to (clashes t A m) 127)
      (λ m h c. let r = some_second m c in C.none_below m r.0 (omega arith) r.1 r.2)))

  pub no_pair : ((m n : ℕ) → m < n → T (A m) → T (A n) → ⊥) → none ≡ first_clash t A
  no_pair f = none_found 128 (omega arith) (record { none_below = λ m n h l c. f m n (clash_lower t A m n c) (clash_first t A m n c) (clash_second t A m n c) })

  -- No pause from the bound on is active.
  pub bound_passed : (m : ℕ) {k : ℕ} → ((j : ℕ) → T (A j) → j < k) → k ≤ m → ClearFirst t A m → none ≡ first_clash t A
  bound_passed m f l C =
      none_found 128 (omega arith) (record { none_below = λ i j h g c. C.none_below i j (let b = f i (clash_first t A i j c) in omega arith) g c })

  pub pair_found : (m n : ℕ) → m < 128 → n < 128 → ClearFirst t A m → ClearSecond t A m n → T (clashes t A m n)
      → some (record { first = m; second = n }) ≡ first_clash t A
  unfolding first_clash
  pair_found m n h l C D c =
      sym (ap (with_second t A)
      (lowest_in 128 (λ i. some_to (clashes t A i) 127) h (some_to_in (clashes t A m) 127 (omega arith) c)
      (λ i k s. let r = some_second i s in C.none_below i r.0 k r.1 r.2))
      ∙ ap (paired m) (lowest_in 128 (clashes t A m) l c D.none_before))

-- No two pauses are active: none is below m, and none behind it.
pub none_and_one : (A : Numbers) (m : ℕ) {b : Bool} → ((k : ℕ) → k < m → T (A k) → ⊥) → ((k : ℕ) → T (A k) → k < 128) → b ≡ beyond (m + 1) A → not b ≡ true
    → (i j : ℕ) → i < j → T (A i) → T (A j) → ⊥
none_and_one A m {b} f w e h i j l s t = go (dec_lt i m)
  where
    go : Dec (i < m) → ⊥
    go (yes k) = f i k s
    go (no k) = of_false (sym e ∙ not-true b h) (beyond_in (m + 1) A (w j t) (omega arith) t)

pub none_more : (A : Numbers) (m : ℕ) {b : Bool} → ((k : ℕ) → k < m → T (A k) → ⊥) → b ≡ A m → b ≡ false → (k : ℕ) → k < m + 1 → T (A k) → ⊥
none_more A m f e h k l t = go (ℕ_discrete k m)
  where
    go : Dec (k ≡ m) → ⊥
    go (yes q) = of_false (sym e ∙ h) (subst (λ (x : ℕ). T (A x)) q t)
    go (no q) = f k (omega arith) t
