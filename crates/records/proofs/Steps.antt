-- The step down: each way through `toward` has one law, from the tests on the way to where the search goes. Assumes nothing.
use mathlib.Core.Path.{◌≡◌, refl, sym, ap, ap₂, ◌∙◌, subst}
use mathlib.Core.Logic.{◌⊎◌, inl, inr}
use mathlib.Core.Bool.{Bool, true, false, cond, ◌||◌}
use mathlib.Core.List.{List, [], ◌∷◌}
use Rattle.std.specs.Prelude.{None}
use Prim.Native.Nat.{ℕ, ◌+◌, ◌≤◌, ◌<◌}
use native.Mathlib.Omega.{arith}
use lib.Dec.{eqb}
use lib.ListN.{length, get_or, set}
use lib.Seq.{get_or-set_same, get_or-set_other}
use native.Mathlib.Nat.{zero-add}
use borrow.Author.Tests.{ne_eqb, eqb-true, eqb-false}
use Rattle.rules.specs.Statements.{Stmt, pauses}
use Rattle.rules.specs.States.{compatible}
use Rattle.tables.specs.Table.{statements}
use Rattle.sets.specs.Numbers.{listed}
use Rattle.tables.specs.Kinds.{short, long, of_shape}
use Rattle.records.specs.Clashing.{before, two_parts, Standing, Place, Goes}
use Rattle.tables.proofs.Rows.{some_statement}
use Rattle.records.proofs.Walk.{One, Two, Shape, leaf, one, two, before_step}
use Rattle.records.proofs.Standing.{tab, here, kind_here, its_shape, only_next, only_all, only_stands}
use Rattle.records.proofs.Standing.{first_next, first_size, split_at, both, first_stands, second_stands, by_first, by_second, by_itself}

-- Two Booleans at once.
pub true_false : {b : Bool} → b ≡ true → b ≡ false → ⊥
true_false t f = let z : ◌≡◌ {A = ℕ} 0 1 = ap (λ (b : Bool). cond b 0 1) (sym t ∙ f) in absurd (omega arith)

module _ (kinds sizes firsts : List ℕ) (m n i : ℕ) (p : Stmt) (P : Place kinds sizes firsts m n i p) where
  abbrev S : Standing kinds sizes P.count i p
  S = P.stands

  two_of : two_parts (get_or kinds i 0) ≡ true → (q : Stmt) × (r : Stmt) × Two (tab S) i p q r
  two_of t = go (its_shape S)
    where
      go : Shape (tab S) i p → (q : Stmt) × (r : Stmt) × Two (tab S) i p q r
      go (leaf l s k) = absurd (omega (arith, P.lower, P.low, P.high))
      go (one q o) = absurd (true_false (sym (ap two_parts (kind_here S)) ∙ t) o.not_two)
      go (two q r o) = (q, r, o)

  one_of : two_parts (get_or kinds i 0) ≡ false → (q : Stmt) × One (tab S) i p q
  one_of t = go (its_shape S)
    where
      go : Shape (tab S) i p → (q : Stmt) × One (tab S) i p q
      go (leaf l s k) = absurd (omega (arith, P.lower, P.low, P.high))
      go (one q o) = (q, o)
      go (two q r o) = absurd (true_false o.is_two (sym (ap two_parts (kind_here S)) ∙ t))

  -- One part: it holds both.
  pub goes_only : two_parts (get_or kinds i 0) ≡ false → Goes kinds sizes firsts m n i (i + 1) p
  unfolding Goes
  goes_only t =
      let o : One (tab S) i p (one_of t).0 = (one_of t).1 in
      inr (
        (one_of t).0,
        omega arith,
        record {
          count = P.count;
          stands = only_stands S o;
          filled = P.filled;
          lower = P.lower;
          low = omega (arith, P.low, only_next S o);
          high = omega (arith, P.high, only_next S o, only_all S o);
        },
        sym (o.above m n),
      )

  -- Two parts: the second begins at a split of the pauses.
  module _ (t : two_parts (get_or kinds i 0) ≡ true) where
    abbrev q : Stmt
    q = (two_of t).0

    abbrev r : Stmt
    r = (two_of t).1

    abbrev o : Two (tab S) i p q r
    o = (two_of t).2

    pub next_in : i + 1 < 512
    next_in = here (first_stands S o)

    second_at : i + 1 + statements q ≡ i + 1 + get_or sizes (i + 1) 0
    second_at = omega (arith, first_size S o)

    pub second_below : i + 1 + get_or sizes (i + 1) 0 < 512
    second_below = omega (arith, here (second_stands S o), second_at)

    split_is : get_or firsts (i + 1 + get_or sizes (i + 1) 0) 0 ≡ before kinds i + length (pauses q)
    split_is =
        P.filled.first (i + 1 + get_or sizes (i + 1) 0) (omega (arith, second_at, (second_stands S o).ends, some_statement r))
        ∙ ap (before kinds) (sym second_at) ∙ split_at S o

    pub goes_first : n < get_or firsts (i + 1 + get_or sizes (i + 1) 0) 0 → Goes kinds sizes firsts m n i (i + 1) p
    unfolding Goes
    goes_first h =
        let w : n < before kinds i + length (pauses q) = omega (arith, split_is) in
        inr (
          q,
          omega arith,
          record {
            count = P.count;
            stands = first_stands S o;
            filled = P.filled;
            lower = P.lower;
            low = omega (arith, P.low, first_next S o);
            high = omega (arith, first_next S o);
          },
          by_first S o m n P.lower P.low w,
        )

    pub stays : m < get_or firsts (i + 1 + get_or sizes (i + 1) 0) 0 → get_or firsts (i + 1 + get_or sizes (i + 1) 0) 0 ≤ n → Goes kinds sizes firsts m n i i p
    unfolding Goes
    stays h l = inl (refl, by_itself S o m n (omega (arith, split_is)) (omega (arith, split_is)))

    pub goes_second : get_or firsts (i + 1 + get_or sizes (i + 1) 0) 0 ≤ m → Goes kinds sizes firsts m n i (i + 1 + get_or sizes (i + 1) 0) p
    unfolding Goes
    goes_second h =
        let w : before kinds i + length (pauses q) ≤ m = omega (arith, split_is) in
        let place : Place kinds sizes firsts m n (i + 1 + statements q) r = record {
          count = P.count;
          stands = second_stands S o;
          filled = P.filled;
          lower = P.lower;
          low = omega (arith, split_at S o);
          high = omega (arith, split_at S o, P.high, both S o);
        } in
        inr (r, omega arith, subst (λ (k : ℕ). Place kinds sizes firsts m n k r) second_at place, by_second S o m n P.lower w P.high)

-- Two parts, by the shape of the kind: the three kinds have two children, and any other has none or one.
pub two_yes : (k : ℕ) → (k ≡ 19) ⊎ ((k ≡ 21) ⊎ (k ≡ 23)) → true ≡ two_parts k
unfolding two_parts listed
two_yes k (inl e) = sym (ap two_parts e)
two_yes k (inr (inl e)) = sym (ap two_parts e)
two_yes k (inr (inr e)) = sym (ap two_parts e)

none_two : (a b d e : Bool)
    → eqb (of_shape (λ s. s.children) (cond a (short 0) (cond b (short 1) (cond false (short 2) (cond d (long 0) (cond e (long 1) (cond false (long 2) None))))))) 2 ≡ false
none_two true b d e = refl
none_two false true d e = refl
none_two false false true e = refl
none_two false false false true = refl
none_two false false false false = refl

pub two_no : (k : ℕ) → ((k ≡ 19) ⊎ ((k ≡ 21) ⊎ (k ≡ 23)) → ⊥) → false ≡ two_parts k
unfolding two_parts listed
two_no k f =
    let plain : listed (21 ∷ 23 ∷ []) k ≡ false = ap₂ (λ (x y : Bool). x || (y || false)) (ne_eqb k 21 (λ e. f (inr (inl e)))) (ne_eqb k 23 (λ e. f (inr (inr e)))) in
    let test : listed (19 ∷ []) k ≡ false = ap (λ (x : Bool). x || false) (ne_eqb k 19 (λ e. f (inl e))) in
    sym (ap₂ (λ (x y : Bool). eqb (of_shape (λ s. s.children)
    (cond (listed (16 ∷ 17 ∷ []) k) (short 0) (cond (listed (22 ∷ 24 ∷ []) k) (short 1) (cond x (short 2)
    (cond (listed (18 ∷ 25 ∷ []) k) (long 0) (cond (listed (20 ∷ 26 ∷ []) k) (long 1) (cond y (long 2) None))))))) 2) plain test
    ∙ none_two (listed (16 ∷ 17 ∷ []) k) (listed (22 ∷ 24 ∷ []) k) (listed (18 ∷ 25 ∷ []) k) (listed (20 ∷ 26 ∷ []) k))

-- The pass that counts the pauses before each statement.
pub count_more : (kinds : List ℕ) (i : ℕ) {n : ℕ} → n ≡ before kinds i → get_or kinds i 0 ≡ 17 → n + 1 ≡ before kinds (i + 1)
count_more kinds i e k = omega (arith, before_step kinds i k)

pub count_same : (kinds : List ℕ) (i : ℕ) {n : ℕ} → n ≡ before kinds i → (get_or kinds i 0 ≡ 17 → ⊥) → n ≡ before kinds (i + 1)
count_same kinds i e f =
    e ∙ sym (before_step kinds i refl ∙ ap (λ (b : Bool). cond b 1 0 + before kinds i) (ne_eqb (get_or kinds i 0) 17 f) ∙ zero-add (before kinds i))

pub filled_more : (kinds firsts : List ℕ) (i n : ℕ) → i < length firsts → n ≡ before kinds i
    → ((j : ℕ) → j < i → get_or firsts j 0 ≡ before kinds j) → (j : ℕ) → j < i + 1 → get_or (set firsts i n) j 0 ≡ before kinds j
filled_more kinds firsts i n h e f j l = go (eqb j i) refl
  where
    go : (b : Bool) → eqb j i ≡ b → get_or (set firsts i n) j 0 ≡ before kinds j
    go true q =
        let k : j ≡ i = eqb-true j i q in
        ap (λ (x : ℕ). get_or (set firsts i n) x 0) k ∙ get_or-set_same firsts i n 0 h ∙ e ∙ ap (before kinds) (sym k)
    go false q = let k : j ≡ i → ⊥ = eqb-false j i q in get_or-set_other firsts i j n 0 k ∙ f j (omega arith)

-- The walk: it has come to a part that holds both, with the same lowest statement above them.
pub record Reaches (kinds sizes firsts : List ℕ) (m n : ℕ) (t : Stmt) (at : ℕ) : Type 0 where
  pub part : Stmt
  pub place : Place kinds sizes firsts m n at part
  pub same : compatible part m n ≡ compatible t m n

pub reach_root : (kinds sizes firsts : List ℕ) (m n : ℕ) (t : Stmt) → Place kinds sizes firsts m n 0 t → Reaches kinds sizes firsts m n t 0
reach_root kinds sizes firsts m n t P = record { part = t; place = P; same = refl }

module _ (kinds sizes firsts : List ℕ) (m n : ℕ) (t : Stmt) (at r : ℕ) (R : Reaches kinds sizes firsts m n t at)
    (f : (p : Stmt) → Place kinds sizes firsts m n at p → Goes kinds sizes firsts m n at r p) where
  pub reach_in : at < 512
  reach_in = here R.place.stands

  pub reach_next : (r ≡ at → ⊥) → (at < r) × Reaches kinds sizes firsts m n t r
  unfolding Goes
  reach_next h = go (f R.part R.place)
    where
      go : Goes kinds sizes firsts m n at r R.part → (at < r) × Reaches kinds sizes firsts m n t r
      go (inl w) = absurd (h w.0)
      go (inr w) = (w.1, record { part = w.0; place = w.2; same = w.3 ∙ R.same })

  pub reach_here : r ≡ at → eqb (get_or kinds at 0) 23 ≡ compatible t m n
  unfolding Goes
  reach_here h = go (f R.part R.place)
    where
      go : Goes kinds sizes firsts m n at r R.part → eqb (get_or kinds at 0) 23 ≡ compatible t m n
      go (inl w) = w.1 ∙ R.same
      go (inr w) = absurd (omega (arith, w.1))
