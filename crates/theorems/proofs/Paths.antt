-- What is executed is closed along a path: where a statement is, so is each that has it below. By induction over the statement, started and resumed: the
-- statement itself always is, and a number of one child is on no path of the other's, whose numbers all lie elsewhere. Assumes nothing.
use mathlib.Core.Path.{◌≡◌, refl, sym, subst}
use mathlib.Core.Logic.{◌⊎◌, inl, inr}
use mathlib.Core.Bool.{Bool, true, false, cond}
use mathlib.Core.List.{◌∷◌, ◌++◌}
use Prim.Native.Nat.{ℕ, zero, suc, ◌+◌, ◌-◌, ◌<◌, ◌≤◌}
use native.Mathlib.Decide.{dec_lt}
use native.Mathlib.Numerals.{one-add}
use native.Mathlib.Omega.{arith}
use lib.Dec.{T, leb, ltb, leb→le, ltb→lt}
use Rattle.sets.specs.Numbers.{Numbers, empty, single, union, only_if}
use Rattle.sets.proofs.Members.{and_left, and_right, union_left, union_right, union_out, only_if_in, only_if_test, only_if_member, single_in, single_out}
use Rattle.rules.specs.Statements.{Stmt, nothing, pause, emit, present?◌then◌else◌, suspend◌on◌, ◌⨾◌, loop, ◌parallel◌, trap, exit, local, statements, preorder, numbered}
use Rattle.rules.specs.Events.{Status, present, absent, unknown, Event, giving}
use Rattle.rules.specs.Instant.{active, started, resumed}
use Rattle.rules.specs.MustCan.{must, gives}
use Rattle.rules.specs.States.{State, fresh, running, finished, executed_as, kept_by}
use Rattle.rules.specs.Taken.{every, itself_if, taken_started, taken_resumed, taken}
use Rattle.rules.specs.Reasons.{on_path}
use Rattle.rules.proofs.Preorder.{first_is, only_child, first_child, second_child}
use Rattle.theorems.proofs.Named.{AllAmong, started_among, resumed_among}

-- All that is below statement m of p lies in p.
ends_first : (t : Stmt) → 0 + statements (numbered t 0) ≤ statements t
ends_first t = subst (λ (q : Stmt). 0 + statements q ≤ statements t) (sym (first_is t)) (omega arith)

ends_leaf : (t : Stmt) → statements t ≡ 1 → (m : ℕ) → m < statements t → m + statements (numbered t m) ≤ statements t
ends_leaf t n zero h = ends_first t
ends_leaf t n (suc m) h = absurd (omega (arith, n))

ends_later : (t p : Stmt) (d m : ℕ) → d + statements p ≤ statements t → numbered t (d + m) ≡ numbered p m → m + statements (numbered p m) ≤ statements p
    → d + m + statements (numbered t (d + m)) ≤ statements t
ends_later t p d m fits e h = subst (λ (q : Stmt). d + m + statements q ≤ statements t) (sym e) (omega (arith, h))

ends_one : (t p : Stmt) → preorder t ≡ t ∷ preorder p → statements t ≡ 1 + statements p → ((m : ℕ) → m < statements p → m + statements (numbered p m) ≤ statements p)
    → (m : ℕ) → m < statements t → m + statements (numbered t m) ≤ statements t
ends_one t p e n f zero h = ends_first t
ends_one t p e n f (suc m) h =
    subst (λ (j : ℕ). j + statements (numbered t j) ≤ statements t) (one-add m) (ends_later t p 1 m (omega (arith, n)) (only_child t p e m) (f m (omega (arith, n))))

ends_two : (t p q : Stmt) → preorder t ≡ t ∷ preorder p ++ preorder q → statements t ≡ 1 + statements p + statements q
    → ((m : ℕ) → m < statements p → m + statements (numbered p m) ≤ statements p) → ((m : ℕ) → m < statements q → m + statements (numbered q m) ≤ statements q)
    → (m : ℕ) → m < statements t → m + statements (numbered t m) ≤ statements t
ends_two t p q e n f g zero h = ends_first t
ends_two t p q e n f g (suc m) h = go (dec_lt m (statements p))
  where
    go : Dec (m < statements p) → suc m + statements (numbered t (suc m)) ≤ statements t
    go (yes l) = subst (λ (j : ℕ). j + statements (numbered t j) ≤ statements t) (one-add m) (ends_later t p 1 m (omega (arith, n)) (first_child t p q e m l) (f m l))
    go (no l) =
        let d : ℕ = m - statements p in
        subst (λ (j : ℕ). j + statements (numbered t j) ≤ statements t) (omega arith)
        (ends_later t q (1 + statements p) d (omega (arith, n)) (second_child t p q e d) (g d (omega (arith, n))))

ends_within : (p : Stmt) (m : ℕ) → m < statements p → m + statements (numbered p m) ≤ statements p
unfolding statements preorder
ends_within nothing = ends_leaf nothing refl
ends_within (pause n) = ends_leaf (pause n) refl
ends_within (emit s) = ends_leaf (emit s) refl
ends_within (present? s then p else q) = ends_two (present? s then p else q) p q refl refl (ends_within p) (ends_within q)
ends_within (suspend p on s) = ends_one (suspend p on s) p refl refl (ends_within p)
ends_within (p ⨾ q) = ends_two (p ⨾ q) p q refl refl (ends_within p) (ends_within q)
ends_within (loop p) = ends_one (loop p) p refl refl (ends_within p)
ends_within (p parallel q) = ends_two (p parallel q) p q refl refl (ends_within p) (ends_within q)
ends_within (trap p) = ends_one (trap p) p refl refl (ends_within p)
ends_within (exit d) = ends_leaf (exit d) refl
ends_within (local s p) = ends_one (local s p) p refl refl (ends_within p)

-- With a statement below it in X, statement m of t is in X too: for every m, and for every m but t itself. The latter goes with unions and choices.
pub record Closed (i : ℕ) (t : Stmt) (X : Numbers) : Type 0 where
  pub up : (m n : ℕ) → i + m ≤ n → n < i + m + statements (numbered t m) → T (X n) → T (X (i + m))

record ClosedBelow (i : ℕ) (t : Stmt) (X : Numbers) : Type 0 where
  pub up : (m n : ℕ) → i + suc m ≤ n → n < i + suc m + statements (numbered t (suc m)) → T (X n) → T (X (i + suc m))

module _ {i : ℕ} {t : Stmt} where
  none_closed : ClosedBelow i t empty
  none_closed = record { up = λ m n l h u. absurd u }

  union_closed : {X Y : Numbers} → ClosedBelow i t X → ClosedBelow i t Y → ClosedBelow i t (union X Y)
  union_closed {X} {Y} f g = record { up = λ m n l h u. pick m n l h (union_out X Y n u) }
    where
      pick : (m n : ℕ) → i + suc m ≤ n → n < i + suc m + statements (numbered t (suc m)) → T (X n) ⊎ T (Y n) → T (union X Y (i + suc m))
      pick m n l h (inl u) = union_left X Y (i + suc m) (f.up m n l h u)
      pick m n l h (inr u) = union_right X Y (i + suc m) (g.up m n l h u)

  only_closed : (b : Bool) {X : Numbers} → ClosedBelow i t X → ClosedBelow i t (only_if b X)
  only_closed b {X} f = record { up = λ m n l h u. only_if_in b X (i + suc m) (only_if_test b X n u) (f.up m n l h (only_if_member b X n u)) }

  status_closed : (v : Status) {X Y : Numbers} → ClosedBelow i t X → ClosedBelow i t Y → ClosedBelow i t (kept_by v X Y)
  status_closed present f g = f
  status_closed absent f g = g
  status_closed unknown f g = none_closed

  active_closed : (b : Bool) {X Y : Numbers} → ClosedBelow i t X → ClosedBelow i t Y → ClosedBelow i t (cond b X Y)
  active_closed true f g = f
  active_closed false f g = g

module _ (i : ℕ) (t : Stmt) where
  itself_closed : Closed i t (itself_if true i)
  itself_closed = record { up = λ m n l h u. let e = single_out i n u in subst (λ (k : ℕ). T (single i k)) (omega (arith, e)) (single_in i) }

  -- The statement itself is in it.
  with_itself : {X : Numbers} → ClosedBelow i t X → Closed i t (union (itself_if true i) X)
  with_itself {X} f = record { up = go }
    where
      go : (m n : ℕ) → i + m ≤ n → n < i + m + statements (numbered t m) → T (union (single i) X n) → T (union (single i) X (i + m))
      go zero n l h u = union_left (single i) X (i + 0) (subst (λ (k : ℕ). T (single i k)) (omega arith) (single_in i))
      go (suc m) n l h u = union_right (single i) X (i + suc m) (below (union_out (single i) X n u))
        where
          below : T (single i n) ⊎ T (X n) → T (X (i + suc m))
          below (inl v) = let e = single_out i n v in absurd (omega (arith, e))
          below (inr v) = f.up m n l h v

  in_only : (p : Stmt) {X : Numbers} → preorder t ≡ t ∷ preorder p → Closed (i + 1) p X → ClosedBelow i t X
  in_only p {X} e f = record {
    up = λ m n l h u.
        let same : numbered t (suc m) ≡ numbered p m = subst (λ (j : ℕ). numbered t j ≡ numbered p m) (one-add m) (only_child t p e m) in
        let h₁ : n < i + suc m + statements (numbered p m) = subst (λ (q : Stmt). n < i + suc m + statements q) same h in
        subst (λ (k : ℕ). T (X k)) (omega arith) (f.up m n (omega arith) (omega arith) u);
  }

  module _ (p q : Stmt) (e : preorder t ≡ t ∷ preorder p ++ preorder q) where
    in_first : {X : Numbers} → AllAmong every (i + 1) p X → Closed (i + 1) p X → ClosedBelow i t X
    in_first {X} a f = record {
      up = λ m n l h u.
          let r = a.each n u in
          let k : m < statements p = omega (arith, r.place, r.below) in
          let same : numbered t (suc m) ≡ numbered p m = subst (λ (j : ℕ). numbered t j ≡ numbered p m) (one-add m) (first_child t p q e m k) in
          let h₁ : n < i + suc m + statements (numbered p m) = subst (λ (q : Stmt). n < i + suc m + statements q) same h in
          subst (λ (k : ℕ). T (X k)) (omega arith) (f.up m n (omega arith) (omega arith) u);
    }

    in_second : {X : Numbers} → AllAmong every (i + 1 + statements p) q X → Closed (i + 1 + statements p) q X → ClosedBelow i t X
    in_second {X} a f = record { up = λ m n l h u. go m n l h u (dec_lt m (statements p)) }
      where
        go : (m n : ℕ) → i + suc m ≤ n → n < i + suc m + statements (numbered t (suc m)) → T (X n) → Dec (m < statements p) → T (X (i + suc m))
        go m n l h u (yes k) =
            let r = a.each n u in
            let same : numbered t (suc m) ≡ numbered p m = subst (λ (j : ℕ). numbered t j ≡ numbered p m) (one-add m) (first_child t p q e m k) in
            let h₁ : n < i + suc m + statements (numbered p m) = subst (λ (q : Stmt). n < i + suc m + statements q) same h in
            absurd (omega (arith, r.place, ends_within p m k))
        go m n l h u (no k) =
            let d : ℕ = m - statements p in
            let same : numbered t (suc m) ≡ numbered q d = subst (λ (j : ℕ). numbered t j ≡ numbered q d) (omega arith) (second_child t p q e d) in
            let h₁ : n < i + suc m + statements (numbered q d) = subst (λ (q : Stmt). n < i + suc m + statements q) same h in
            subst (λ (k : ℕ). T (X k)) (omega arith) (f.up d n (omega arith) (omega arith) u)

started_closed : (p : Stmt) (i : ℕ) (E : Event) → Closed i p (taken_started every i p E)
unfolding taken_started preorder statements
started_closed nothing i E = itself_closed i nothing
started_closed (pause n) i E = itself_closed i (pause n)
started_closed (emit s) i E = itself_closed i (emit s)
started_closed (present? s then p else q) i E =
    let t : Stmt = present? s then p else q in
    with_itself i t (status_closed (E s) (in_first i t p q refl (started_among every p (i + 1) E) (started_closed p (i + 1) E))
    (in_second i t p q refl (started_among every q (i + 1 + statements p) E) (started_closed q (i + 1 + statements p) E)))
started_closed (suspend p on s) i E = with_itself i (suspend p on s) (in_only i (suspend p on s) p refl (started_closed p (i + 1) E))
started_closed (p ⨾ q) i E =
    with_itself i (p ⨾ q) (union_closed (in_first i (p ⨾ q) p q refl (started_among every p (i + 1) E) (started_closed p (i + 1) E))
    (only_closed ((gives must (started p) E).codes 0)
    (in_second i (p ⨾ q) p q refl (started_among every q (i + 1 + statements p) E) (started_closed q (i + 1 + statements p) E))))
started_closed (loop p) i E = with_itself i (loop p) (in_only i (loop p) p refl (started_closed p (i + 1) E))
started_closed (p parallel q) i E =
    with_itself i (p parallel q) (union_closed (in_first i (p parallel q) p q refl (started_among every p (i + 1) E) (started_closed p (i + 1) E))
    (in_second i (p parallel q) p q refl (started_among every q (i + 1 + statements p) E) (started_closed q (i + 1 + statements p) E)))
started_closed (trap p) i E = with_itself i (trap p) (in_only i (trap p) p refl (started_closed p (i + 1) E))
started_closed (exit d) i E = itself_closed i (exit d)
started_closed (local s p) i E =
    with_itself i (local s p) (in_only i (local s p) p refl (started_closed p (i + 1) (giving E s (executed_as s (started p) E))))

resumed_closed : (A : Numbers) (p : Stmt) (i : ℕ) (E : Event) → Closed i p (taken_resumed every A i p E)
unfolding taken_resumed preorder statements
resumed_closed A nothing i E = itself_closed i nothing
resumed_closed A (pause n) i E = itself_closed i (pause n)
resumed_closed A (emit s) i E = itself_closed i (emit s)
resumed_closed A (present? s then p else q) i E =
    let t : Stmt = present? s then p else q in
    with_itself i t (active_closed (active A p) (in_first i t p q refl (resumed_among every A p (i + 1) E) (resumed_closed A p (i + 1) E))
    (in_second i t p q refl (resumed_among every A q (i + 1 + statements p) E) (resumed_closed A q (i + 1 + statements p) E)))
resumed_closed A (suspend p on s) i E =
    with_itself i (suspend p on s) (status_closed (E s) none_closed (in_only i (suspend p on s) p refl (resumed_closed A p (i + 1) E)))
resumed_closed A (p ⨾ q) i E =
    with_itself i (p ⨾ q) (active_closed (active A p)
    (union_closed (in_first i (p ⨾ q) p q refl (resumed_among every A p (i + 1) E) (resumed_closed A p (i + 1) E))
    (only_closed ((gives must (resumed A p) E).codes 0)
    (in_second i (p ⨾ q) p q refl (started_among every q (i + 1 + statements p) E) (started_closed q (i + 1 + statements p) E))))
    (in_second i (p ⨾ q) p q refl (resumed_among every A q (i + 1 + statements p) E) (resumed_closed A q (i + 1 + statements p) E)))
resumed_closed A (loop p) i E =
    with_itself i (loop p) (union_closed (in_only i (loop p) p refl (resumed_closed A p (i + 1) E))
    (only_closed ((gives must (resumed A p) E).codes 0) (in_only i (loop p) p refl (started_closed p (i + 1) E))))
resumed_closed A (p parallel q) i E =
    let t : Stmt = p parallel q in
    with_itself i t (union_closed (only_closed (active A p) (in_first i t p q refl (resumed_among every A p (i + 1) E) (resumed_closed A p (i + 1) E)))
    (only_closed (active A q) (in_second i t p q refl (resumed_among every A q (i + 1 + statements p) E) (resumed_closed A q (i + 1 + statements p) E))))
resumed_closed A (trap p) i E = with_itself i (trap p) (in_only i (trap p) p refl (resumed_closed A p (i + 1) E))
resumed_closed A (exit d) i E = itself_closed i (exit d)
resumed_closed A (local s p) i E =
    with_itself i (local s p) (in_only i (local s p) p refl (resumed_closed A p (i + 1) (giving E s (executed_as s (resumed A p) E))))

taken_closed : (p : Stmt) (st : State) (E : Event) → Closed 0 p (taken every p st E)
unfolding taken
taken_closed p fresh E = started_closed p 0 E
taken_closed p (running A) E = resumed_closed A p 0 E
taken_closed p finished E = record { up = λ m n l h u. absurd u }

-- Where a statement is executed, each on its path is.
pub executed_above : (p : Stmt) (st : State) (E : Event) (n k : ℕ) → T (on_path p n k) → T (taken every p st E n) → T (taken every p st E k)
unfolding on_path
executed_above p st E n k h t =
    let l = leb→le k n (and_left (leb k n) (ltb n (k + statements (numbered p k))) h) in
    let u = ltb→lt n (k + statements (numbered p k)) (and_right (leb k n) (ltb n (k + statements (numbered p k))) h) in
    subst (λ (j : ℕ). T (taken every p st E j)) (omega arith) ((taken_closed p st E).up k n (omega (arith, l)) (omega (arith, u)) t)
