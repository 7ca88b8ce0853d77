-- Which statements hold an active pause, and the pauses of a run of rows. Assumes nothing.
use mathlib.Core.Path.{◌≡◌, refl, sym, ap, ap₂, ◌∙◌, subst}
use mathlib.Core.Bool.{Bool, true, false, cond, ◌&&◌, ◌||◌, or-false, or_assoc, and-true, and-false, and-or_distrib_left}
use mathlib.Core.Logic.{◌⊎◌, inl, inr}
use mathlib.Core.List.{List, [], ◌∷◌, ◌++◌, append-nil, append_assoc}
use Prim.Native.Nat.{ℕ, zero, suc, ◌+◌, ◌-◌, ◌≤◌, ◌<◌}
use native.Mathlib.Nat.{add-zero, add-suc, add_assoc}
use native.Mathlib.Numerals.{add-one}
use native.Mathlib.Decide.{ℕ_discrete}
use native.Mathlib.Omega.{arith}
use lib.Dec.{T, eqb, ltb, lt→ltb, ltb→lt}
use lib.ListN.{length, get_or, set, replicate, get_or-replicate}
use lib.Seq.{get_or-set_same, get_or-set_other}
use borrow.Author.Tests.{eq-eqb, ne_eqb}
use Rattle.sets.specs.Numbers.{Numbers, empty, single, union, listed}
use Rattle.sets.proofs.Members.{is_true, is_false, of_true, ext, same, and_right, or_out, and_in, and_left}
use Rattle.sets.proofs.Counts.{listed_append}
use Rattle.rules.specs.Statements.{depth, Stmt, nothing, pause, emit, present?◌then◌else◌, suspend◌on◌, ◌⨾◌, loop, ◌parallel◌, trap, exit, local, pauses}
use Rattle.rules.specs.Instant.{any, active, held}
use Rattle.tables.specs.Table.{kind_of, operand_of, statements, Row, Has, Small}
use Rattle.tables.specs.declared.Table.{Table}
use Rattle.forms.specs.Forms.{At, Live, LiveFrom, NoPauseFrom, row_pauses, pauses_in, among}
use Rattle.tables.proofs.Rows.{has_row, some_statement}
use Rattle.forms.proofs.FormLaws.{in_table, Second, second_at, Kid, Kids, kids, Flags}

-- Active pauses, part by part.
any_append : (A : Numbers) (xs ys : List ℕ) → any A (xs ++ ys) ≡ (any A xs || any A ys)
unfolding any
any_append A [] ys = refl
any_append A (x ∷ xs) ys = ap (λ (b : Bool). A x || b) (any_append A xs ys) ∙ sym (or_assoc (A x) (any A xs) (any A ys))

-- A statement's flag from those of its children; how many there are is told by its size and the place after the first child.
abbrev sized_flag : ℕ → ℕ → ℕ → Bool → Bool → Bool
sized_flag z i n lp lq = cond (ltb z 2) false (cond (ltb n (i + z)) (lp || lq) lp)

one_flag : (i n m : ℕ) (lp lq : Bool) → 1 ≤ m → n ≡ i + 1 + m → sized_flag (1 + m) i n lp lq ≡ lp
one_flag i n m lp lq h e =
    let small = is_false (ltb (1 + m) 2) (λ t. let l = ltb→lt (1 + m) 2 t in omega arith) in
    let last = is_false (ltb n (i + (1 + m))) (λ t. let l = ltb→lt n (i + (1 + m)) t in omega arith) in
    rw (small, last)

two_flag : (i n m r : ℕ) (lp lq : Bool) → 1 ≤ m → 1 ≤ r → n ≡ i + 1 + m → sized_flag (1 + m + r) i n lp lq ≡ (lp || lq)
two_flag i n m r lp lq h k e =
    let small = is_false (ltb (1 + m + r) 2) (λ t. let l = ltb→lt (1 + m + r) 2 t in omega arith) in
    let more = is_true (ltb n (i + (1 + m + r))) (lt→ltb n (i + (1 + m + r)) (omega arith)) in
    rw (small, more)

abbrev active_flag : ℕ → ℕ → ℕ → ℕ → Bool → Bool → Bool → Bool
active_flag k z i n a lp lq = cond (eqb k 17) a (sized_flag z i n lp lq)

module _ {tab : Table} {A : Numbers} {i n : ℕ} {lp lq : Bool} (s : Second tab i n) (f : Flags tab A i n lp lq) where
  with_one : (p : Stmt) → Kid tab i (i + 1) p → sized_flag (1 + statements p) i n lp lq ≡ active A p
  with_one p k = one_flag i n (statements p) lp lq (some_statement p) (second_at i s p k.there) ∙ f.on_first p k.there

  with_two : (p q : Stmt) → Kid tab i (i + 1) p → Kid tab i n q → sized_flag (1 + statements p + statements q) i n lp lq ≡ any A (pauses p ++ pauses q)
  unfolding active
  with_two p q k l =
      two_flag i n (statements p) (statements q) lp lq (some_statement p) (some_statement q) (second_at i s p k.there)
      ∙ ap₂ (λ (x y : Bool). x || y) (f.on_first p k.there) (f.on_next q l.after l.there) ∙ sym (any_append A (pauses p) (pauses q))

  flag_is : (t : Stmt) → Kids tab i n t → active_flag (kind_of t) (statements t) i n (ltb (operand_of t) 128 && A (operand_of t)) lp lq ≡ active A t
  unfolding Kids kind_of operand_of statements active any pauses
  flag_is nothing k = refl
  flag_is (pause m) k = ap (λ (b : Bool). b && A m) (is_true (ltb m 128) (lt→ltb m 128 k)) ∙ sym (or-false (A m))
  flag_is (emit s) k = refl
  flag_is (present? s then p else q) k = with_two p q k.1 k.2
  flag_is (suspend p on s) k = with_one p k.1
  flag_is (p ⨾ q) k = with_two p q k.0 k.1
  flag_is (loop p) k = with_one p k
  flag_is (p parallel q) k = with_two p q k.0 k.1
  flag_is (trap p) k = with_one p k
  flag_is (exit (depth d)) k = refl
  flag_is (local s p) k = with_one p k.1

-- A row's flag, from those of the rows behind it.
module _ {tab : Table} {A : Numbers} {live : List Bool} {i : ℕ} (l : LiveFrom tab A live (i + 1)) (t : Stmt) (a : At tab i t) where
  abbrev k : ℕ
  k = get_or tab.kinds i 0

  abbrev o : ℕ
  o = get_or tab.operands i 0

  abbrev z : ℕ
  z = get_or tab.sizes i 0

  abbrev behind_first : ℕ
  behind_first = i + 1 + get_or tab.sizes (i + 1) 0

  flagged : {n : ℕ} {lp lq : Bool} → Second tab i n → (i + 1 < 512 → lp ≡ get_or live (i + 1) false) → (n < 512 → lq ≡ get_or live n false)
      → active_flag k z i n (ltb o 128 && A o) lp lq ≡ active A t
  flagged {n} {lp} {lq} s g h = rw (r.its_kind, r.its_operand, r.its_size) (flag_is s flags t (kids s t a))
    where
      r : Row tab i t
      r = has_row t a.has

      flags : Flags tab A i n lp lq
      flags = record {
        on_first = λ p b. g (in_table (record { tree = p; there = b })) ∙ l.says (i + 1) p (omega arith) b;
        on_next = λ q c b. h (in_table (record { tree = q; there = b })) ∙ l.says n q (omega arith) b;
      }

  pub pause_active : k ≡ 17 → (ltb o 128 && A o) ≡ active A t
  pause_active e = rw (eq-eqb k 17 e) at (flagged {n = behind_first} {lp = get_or live (i + 1) false} {lq = get_or live behind_first false} (λ h. refl) (λ h. refl) (λ h. refl))

  module _ (no : k ≡ 17 → ⊥) where
    pub none_active : z < 2 → false ≡ active A t
    none_active e =
        rw (ne_eqb k 17 no, is_true (ltb z 2) (lt→ltb z 2 e))
        at (flagged {n = behind_first} {lp = get_or live (i + 1) false} {lq = get_or live behind_first false} (λ h. refl) (λ h. refl) (λ h. refl))

    module _ (e : 2 ≤ z) {n : ℕ} (s : Second tab i n) {lp : Bool} (g : i + 1 < 512 → lp ≡ get_or live (i + 1) false) where
      more : ltb z 2 ≡ false
      more = is_false (ltb z 2) (λ b. let c = ltb→lt z 2 b in omega arith)

      pub one_active : i + z ≤ n → lp ≡ active A t
      one_active j =
          rw (ne_eqb k 17 no, more, is_false (ltb n (i + z)) (λ b. let c = ltb→lt n (i + z) b in omega arith))
          at (flagged {lq = get_or live n false} s g (λ h. refl))

      pub two_active : {lq : Bool} → n < i + z → (n < 512 → lq ≡ get_or live n false) → (lp || lq) ≡ active A t
      two_active j h = rw (ne_eqb k 17 no, more, is_true (ltb n (i + z)) (lt→ltb n (i + z) j)) at (flagged s g h)

pub live_more : {tab : Table} {A : Numbers} (live : List Bool) (i : ℕ) (b : Bool) → i < length live → LiveFrom tab A live (i + 1) → ((t : Stmt) → At tab i t → b ≡ active A t)
    → LiveFrom tab A (set live i b) i
live_more {tab} {A} live i b l f g = record { says = λ j t h a. go j t h a (ℕ_discrete j i) }
  where
    go : (j : ℕ) (t : Stmt) → i ≤ j → At tab j t → Dec (j ≡ i) → get_or (set live i b) j false ≡ active A t
    go j t h a (yes e) =
        ap (λ (x : ℕ). get_or (set live i b) x false) e ∙ get_or-set_same live i b false l ∙ g t (subst (λ (x : ℕ). At tab x t) e a)
    go j t h a (no e) = get_or-set_other live i j b false e ∙ f.says j t (omega arith) a

pub live_all : {tab : Table} {A : Numbers} {live : List Bool} {i : ℕ} → i ≡ 0 → LiveFrom tab A live i → Live tab A live
live_all e f = record { says = λ i t a. f.says i t (omega arith) a }

-- The rows of a statement have its pauses.
pauses_add : (tab : Table) (i m n : ℕ) → pauses_in tab i (m + n) ≡ pauses_in tab i m ++ pauses_in tab (i + m) n
unfolding pauses_in
pauses_add tab i m zero = ap (pauses_in tab i) (add-zero m) ∙ sym (append-nil (pauses_in tab i m))
pauses_add tab i m (suc n) =
    ap (pauses_in tab i) (add-suc m n)
    ∙ ap₂ (λ (x : List ℕ) (y : ℕ). x ++ row_pauses tab y) (pauses_add tab i m n) (sym (add_assoc i m n))
    ∙ append_assoc (pauses_in tab i m) (pauses_in tab (i + m) n) (row_pauses tab (i + m + n))

row_first : (tab : Table) (i : ℕ) → pauses_in tab i 1 ≡ row_pauses tab i
unfolding pauses_in
row_first tab i = ap (row_pauses tab) (add-zero i)

row_other : (tab : Table) (i : ℕ) (k : ℕ) → get_or tab.kinds i 0 ≡ k → eqb k 17 ≡ false → row_pauses tab i ≡ []
unfolding row_pauses
row_other tab i k e f = ap (λ (b : Bool). cond b (get_or tab.operands i 0 ∷ []) []) (ap (λ (x : ℕ). eqb x 17) e ∙ f)

own_pause : (tab : Table) (i n : ℕ) → get_or tab.kinds i 0 ≡ 17 → get_or tab.operands i 0 ≡ operand_of (pause n) → row_pauses tab i ≡ n ∷ []
unfolding row_pauses operand_of
own_pause tab i n e o = ap₂ (λ (k m : ℕ). cond (eqb k 17) (m ∷ []) []) e o

one_child : (tab : Table) (i : ℕ) (p : Stmt) (k : ℕ) → get_or tab.kinds i 0 ≡ k → eqb k 17 ≡ false → pauses_in tab (i + 1) (statements p) ≡ pauses p → pauses_in tab i (1 + statements p) ≡ pauses p
one_child tab i p k e f h =
    pauses_add tab i 1 (statements p) ∙ ap₂ (λ (x y : List ℕ). x ++ y) (row_first tab i ∙ row_other tab i k e f) h

two_children : (tab : Table) (i : ℕ) (p q : Stmt) (k : ℕ) → get_or tab.kinds i 0 ≡ k → eqb k 17 ≡ false → pauses_in tab (i + 1) (statements p) ≡ pauses p
    → pauses_in tab (i + 1 + statements p) (statements q) ≡ pauses q → pauses_in tab i (1 + statements p + statements q) ≡ pauses p ++ pauses q
two_children tab i p q k e f g h =
    pauses_add tab i (1 + statements p) (statements q)
    ∙ ap₂ (λ (x y : List ℕ). x ++ y) (one_child tab i p k e f g) (ap (λ (x : ℕ). pauses_in tab x (statements q)) (sym (add_assoc i 1 (statements p))) ∙ h)

pub pauses_found : (tab : Table) (i : ℕ) (t : Stmt) → Has tab i t → pauses_in tab i (statements t) ≡ pauses t
unfolding Has statements pauses kind_of
pauses_found tab i nothing h = row_first tab i ∙ row_other tab i 16 h.its_kind refl
pauses_found tab i (pause n) h = row_first tab i ∙ own_pause tab i n h.its_kind h.its_operand
pauses_found tab i (emit s) h = row_first tab i ∙ row_other tab i 18 h.its_kind refl
pauses_found tab i (present? s then p else q) h = two_children tab i p q 19 h.0.its_kind refl (pauses_found tab (i + 1) p h.1) (pauses_found tab (i + 1 + statements p) q h.2)
pauses_found tab i (suspend p on s) h = one_child tab i p 20 h.0.its_kind refl (pauses_found tab (i + 1) p h.1)
pauses_found tab i (p ⨾ q) h = two_children tab i p q 21 h.0.its_kind refl (pauses_found tab (i + 1) p h.1) (pauses_found tab (i + 1 + statements p) q h.2)
pauses_found tab i (loop p) h = one_child tab i p 22 h.0.its_kind refl (pauses_found tab (i + 1) p h.1)
pauses_found tab i (p parallel q) h = two_children tab i p q 23 h.0.its_kind refl (pauses_found tab (i + 1) p h.1) (pauses_found tab (i + 1 + statements p) q h.2)
pauses_found tab i (trap p) h = one_child tab i p 24 h.0.its_kind refl (pauses_found tab (i + 1) p h.1)
pauses_found tab i (exit d) h = row_first tab i ∙ row_other tab i 25 h.its_kind refl
pauses_found tab i (local s p) h = one_child tab i p 26 h.0.its_kind refl (pauses_found tab (i + 1) p h.1)

-- Rows without a pause: a statement there holds none, so that it is not active whatever the set.
pub none_more : (kinds : List ℕ) (from i : ℕ) → ((j : ℕ) → from ≤ j → j < i → get_or kinds j 0 ≡ 17 → ⊥) → (get_or kinds i 0 ≡ 17 → ⊥)
    → (j : ℕ) → from ≤ j → j < i + 1 → get_or kinds j 0 ≡ 17 → ⊥
none_more kinds from i f g j h k w = go (ℕ_discrete j i)
  where
    go : Dec (j ≡ i) → ⊥
    go (yes d) = g (subst (λ (x : ℕ). get_or kinds x 0 ≡ 17) d w)
    go (no d) = f j h (omega arith) w

no_pauses_in : (tab : Table) (i n : ℕ) → ((k : ℕ) → i ≤ k → k < i + n → get_or tab.kinds k 0 ≡ 17 → ⊥) → pauses_in tab i n ≡ []
unfolding pauses_in
no_pauses_in tab i zero f = refl
no_pauses_in tab i (suc n) f =
    ap₂ (λ (x y : List ℕ). x ++ y) (no_pauses_in tab i n (λ k h l. f k h (omega arith)))
    (row_other tab (i + n) (get_or tab.kinds (i + n) 0) refl (ne_eqb (get_or tab.kinds (i + n) 0) 17 (f (i + n) (omega arith) (omega arith))))

not_active : {tab : Table} (A : Numbers) {j : ℕ} (i : ℕ) (t : Stmt) → NoPauseFrom tab.kinds j → j ≤ i → At tab i t → active A t ≡ false
unfolding active any
not_active {tab} A i t f h a =
    ap (any A) (sym (pauses_found tab i t a.has) ∙ no_pauses_in tab i (statements t) (λ k m l. f.none k (omega arith) (omega (arith, a.room))))

pub live_behind : {tab : Table} {A : Numbers} {j : ℕ} → NoPauseFrom tab.kinds j → LiveFrom tab A (replicate 512 false) j
live_behind {A = A} f = record { says = λ i t h a. get_or-replicate 512 i false false (in_table (record { tree = t; there = a })) ∙ sym (not_active A i t f h a) }

-- Active pauses among them.
in_either : (xs ys : List ℕ) (m : ℕ) → (T (listed xs m) → m < 128) → (T (listed ys m) → m < 128) → T (listed (xs ++ ys) m) → m < 128
in_either xs ys m f g h = pick (or_out (listed xs m) (listed ys m) (subst T (listed_append xs ys m) h))
  where
    pick : T (listed xs m) ⊎ T (listed ys m) → m < 128
    pick (inl t) = f t
    pick (inr t) = g t

small_listed : (t : Stmt) → Small t → (m : ℕ) → T (listed (pauses t) m) → m < 128
unfolding Small pauses listed
small_listed nothing s m h = absurd h
small_listed (pause n) s m h = let e = lib.Dec.eqb→eq m n (subst T (or-false (eqb m n)) h) in omega arith
small_listed (emit x) s m h = absurd h
small_listed (present? x then p else q) s m h = in_either (pauses p) (pauses q) m (small_listed p s.1 m) (small_listed q s.2 m) h
small_listed (suspend p on x) s m h = small_listed p s.1 m h
small_listed (p ⨾ q) s m h = in_either (pauses p) (pauses q) m (small_listed p s.0 m) (small_listed q s.1 m) h
small_listed (loop p) s m h = small_listed p s m h
small_listed (p parallel q) s m h = in_either (pauses p) (pauses q) m (small_listed p s.0 m) (small_listed q s.1 m) h
small_listed (trap p) s m h = small_listed p s m h
small_listed (exit d) s m h = absurd h
small_listed (local x p) s m h = small_listed p s.1 m h

pub among_none : (A : Numbers) → among A [] ≡ empty
unfolding listed
among_none A = ext (λ m. ap (λ (b : Bool). ltb m 128 && b) (and-false (A m)) ∙ and-false (ltb m 128))

pub among_more : (A : Numbers) (xs ys : List ℕ) → union (among A xs) (among A ys) ≡ among A (xs ++ ys)
among_more A xs ys =
    ext (λ m. sym (
    ap (λ (b : Bool). ltb m 128 && (A m && b)) (listed_append xs ys m)
    ∙ ap (λ (b : Bool). ltb m 128 && b) (and-or_distrib_left (A m) (listed xs m) (listed ys m))
    ∙ and-or_distrib_left (ltb m 128) (A m && listed xs m) (A m && listed ys m)
    ))

pub among_held : (A : Numbers) (t : Stmt) → Small t → among A (pauses t) ≡ held A t
unfolding held
among_held A t s = ext (λ m. same (ltb m 128 && (A m && listed (pauses t) m)) (A m && listed (pauses t) m) (and_right (ltb m 128) (A m && listed (pauses t) m))
    (λ h. and_in (ltb m 128) (A m && listed (pauses t) m) (lt→ltb m 128 (small_listed t s m (and_right (A m) (listed (pauses t) m) h))) h))

among_one : (A : Numbers) (o m : ℕ) → among A (o ∷ []) m ≡ (eqb m o && (ltb o 128 && A o))
unfolding listed
among_one A o m = go (ℕ_discrete m o)
  where
    go : Dec (m ≡ o) → (ltb m 128 && (A m && (eqb m o || false))) ≡ (eqb m o && (ltb o 128 && A o))
    go (yes e) =
        ap (λ (b : Bool). ltb m 128 && (A m && (b || false))) (eq-eqb m o e) ∙ ap (λ (b : Bool). ltb m 128 && b) (and-true (A m))
        ∙ ap (λ (x : ℕ). ltb x 128 && A x) e ∙ ap (λ (b : Bool). b && (ltb o 128 && A o)) (sym (eq-eqb m o e))
    go (no f) =
        ap (λ (b : Bool). ltb m 128 && (A m && (b || false))) (ne_eqb m o f) ∙ ap (λ (b : Bool). ltb m 128 && b) (and-false (A m)) ∙ and-false (ltb m 128)
        ∙ ap (λ (b : Bool). b && (ltb o 128 && A o)) (sym (ne_eqb m o f))

pub one_held : (A : Numbers) (o : ℕ) {w : Numbers} → (ltb o 128 && A o) ≡ true → (o < 128 → w ≡ single o) → w ≡ among A (o ∷ [])
one_held A o h f =
    f (ltb→lt o 128 (and_left (ltb o 128) (A o) (of_true h))) ∙ ext (λ m. sym (and-true (eqb m o)) ∙ ap (λ (b : Bool). eqb m o && b) (sym h) ∙ sym (among_one A o m))

pub one_idle : (A : Numbers) (o : ℕ) → (ltb o 128 && A o) ≡ false → empty ≡ among A (o ∷ [])
one_idle A o h = ext (λ m. sym (and-false (eqb m o)) ∙ ap (λ (b : Bool). eqb m o && b) (sym h) ∙ sym (among_one A o m))

-- A row, by its kind.
module _ (tab : Table) (i : ℕ) (A : Numbers) where
  pub row_own : get_or tab.kinds i 0 ≡ 17 → among A (get_or tab.operands i 0 ∷ []) ≡ among A (row_pauses tab i)
  unfolding row_pauses
  row_own e = ap (λ (b : Bool). among A (cond b (get_or tab.operands i 0 ∷ []) [])) (sym (eq-eqb (get_or tab.kinds i 0) 17 e))

  pub row_none : (get_or tab.kinds i 0 ≡ 17 → ⊥) → empty ≡ among A (row_pauses tab i)
  unfolding row_pauses
  row_none f = sym (ap (λ (b : Bool). among A (cond b (get_or tab.operands i 0 ∷ []) [])) (ne_eqb (get_or tab.kinds i 0) 17 f) ∙ among_none A)

-- One row more of a statement.
pub rows_none : (tab : Table) (i : ℕ) (A : Numbers) → empty ≡ among A (pauses_in tab i 0)
unfolding pauses_in
rows_none tab i A = sym (among_none A)

pub rows_more : (tab : Table) (i n : ℕ) (A : Numbers) → union (among A (pauses_in tab i n)) (among A (row_pauses tab (i + n))) ≡ among A (pauses_in tab i (n + 1))
unfolding pauses_in
rows_more tab i n A = among_more A (pauses_in tab i n) (row_pauses tab (i + n)) ∙ ap (λ (x : ℕ). among A (pauses_in tab i x)) (sym (add-one n))

pub rows_all : (tab : Table) (i n : ℕ) (A : Numbers) (t : Stmt) → At tab i t → n ≡ get_or tab.sizes i 0 → among A (pauses_in tab i n) ≡ held A t
rows_all tab i n A t a e =
    ap (λ (x : ℕ). among A (pauses_in tab i x)) (e ∙ (has_row t a.has).its_size) ∙ ap (among A) (pauses_found tab i t a.has) ∙ among_held A t a.small

-- One turn of the pass: the row before i.
pub live_step : {tab : Table} {A : Numbers} (live : List Bool) (i : ℕ) (b : Bool) → 0 < i → i ≤ 512 → length live ≡ 512 → LiveFrom tab A live i
    → (LiveFrom tab A live (i - 1 + 1) → (t : Stmt) → At tab (i - 1) t → b ≡ active A t) → LiveFrom tab A (set live (i - 1) b) (i - 1)
live_step {tab} {A} live i b h l e f g =
    let back : LiveFrom tab A live (i - 1 + 1) = subst (LiveFrom tab A live) (omega arith) f in
    live_more live (i - 1) b (omega arith) back (g back)

-- Numbers of a loop that has reached its end.
pub none_left : (i : ℕ) → i ≤ 0 → i ≡ 0
none_left i h = omega arith

pub both_ways : {m n : ℕ} → m ≤ n → n ≤ m → m ≡ n
both_ways h l = omega arith
