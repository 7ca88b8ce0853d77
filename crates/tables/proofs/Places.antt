-- The statements of a tree in preorder: which stands where, that the table has each of them at its number, and where its children are.
use mathlib.Core.Path.{◌≡◌, refl, sym, ◌∙◌, ap, subst}
use mathlib.Core.Bool.{◌&&◌}
use mathlib.Core.List.{List, ◌∷◌, ◌++◌}
use Prim.Native.Nat.{ℕ, zero, suc, ◌+◌, ◌-◌, ◌≤◌, ◌<◌}
use native.Mathlib.Nat.{add-zero, zero-add, add_assoc}
use native.Mathlib.Numerals.{one-add}
use native.Mathlib.Decide.{dec_lt}
use native.Mathlib.Omega.{arith}
use lib.Dec.{eqb}
use lib.ListN.{length, get_or, get_or-append}
use lib.Seq.{get_or-append-add}
use Rattle.sets.specs.Numbers.{Numbers, union, without, only_if, maxima, downs}
use Rattle.sets.specs.Words.{bits}
use Rattle.rules.specs.Statements.{depth, code, Stmt, nothing, pause, emit, present?◌then◌else◌, suspend◌on◌, ◌⨾◌, loop, ◌parallel◌, trap, exit, local}
use Rattle.rules.specs.Loops.{codes_of}
use Rattle.rules.proofs.Preorder.{only_child, first_child, second_child}
-- Known from the rules and from the rows, and handed on.
pub use Rattle.rules.proofs.Preorder.{first_is, all_counted, some_statement}
pub use Rattle.tables.proofs.Rows.{has_row}
use Rattle.tables.specs.Table.{Has, kind_of, operand_of, statements, Small}
use Rattle.tables.specs.declared.Table.{Table}
use Rattle.rules.specs.Statements.{preorder, numbered}
use Rattle.tables.specs.Codes.{endless}
use Rattle.tables.specs.Codes.{codes_for, Fed}

-- Statement i of the tree, with the table's base at the tree's own number: it ends within the tree, the table has it, it is small,
-- and the statements below it come directly after it.
pub record At (tab : Table) (base : ℕ) (t : Stmt) (i : ℕ) : Type 0 where
  pub within : i + statements (numbered t i) ≤ statements t
  pub has : Has tab (base + i) (numbered t i)
  pub small : Small (numbered t i)
  pub below : (m : ℕ) → m < statements (numbered t i) → numbered t (i + m) ≡ numbered (numbered t i) m

module _ {tab : Table} where
  at_first : {base : ℕ} (t : Stmt) → Has tab base t → Small t → At tab base t 0
  at_first {base} t h s = record {
    within = subst (λ (p : Stmt). 0 + statements p ≤ statements t) (sym (first_is t)) (omega arith);
    has = subst (λ (i : ℕ). Has tab i (numbered t 0)) (sym (add-zero base)) (subst (Has tab base) (sym (first_is t)) h);
    small = subst Small (sym (first_is t)) s;
    below = λ m l. ap (λ (i : ℕ). numbered t i) (zero-add m) ∙ ap (λ (p : Stmt). numbered p m) (sym (first_is t));
  }

  -- A child's statements are the tree's, so much later.
  at_later : {base : ℕ} (t p : Stmt) (d i : ℕ) → d + statements p ≤ statements t → ((m : ℕ) → m < statements p → numbered t (d + m) ≡ numbered p m)
      → i < statements p → At tab (base + d) p i → At tab base t (d + i)
  at_later {base} t p d i fits same h a =
      let e = same i h in
      record {
        within = subst (λ (q : Stmt). d + i + statements q ≤ statements t) (sym e) (omega (arith, a.within));
        has = subst (Has tab (base + (d + i))) (sym e) (subst (λ (j : ℕ). Has tab j (numbered p i)) (add_assoc base d i) a.has);
        small = subst Small (sym e) a.small;
        below = λ m l.
            let l₁ : m < statements (numbered p i) = subst (λ (q : Stmt). m < statements q) e l in
            ap (λ (j : ℕ). numbered t j) (add_assoc d i m) ∙ same (i + m) (omega (arith, a.within)) ∙ a.below m l₁ ∙ ap (λ (q : Stmt). numbered q m) (sym e);
      }

  -- A statement with one child, and with two.
  at_one : {base : ℕ} (t p : Stmt) → preorder t ≡ t ∷ preorder p → statements t ≡ 1 + statements p → Has tab base t → Small t
      → ((i : ℕ) → i < statements p → At tab (base + 1) p i) → (i : ℕ) → i < statements t → At tab base t i
  at_one t p e n h s rest zero l = at_first t h s
  at_one {base} t p e n h s rest (suc i) l =
      let l₁ : i < statements p = omega (arith, n) in
      subst (At tab base t) (one-add i)
      (at_later t p 1 i (omega (arith, n)) (λ m k. only_child t p e m) l₁ (rest i l₁))

  at_two : {base : ℕ} (t p q : Stmt) → preorder t ≡ t ∷ preorder p ++ preorder q → statements t ≡ 1 + statements p + statements q → Has tab base t → Small t
      → ((i : ℕ) → i < statements p → At tab (base + 1) p i) → ((i : ℕ) → i < statements q → At tab (base + 1 + statements p) q i) → (i : ℕ) → i < statements t → At tab base t i
  at_two t p q e n h s one two zero l = at_first t h s
  at_two {base} t p q e n h s one two (suc i) l = go (dec_lt i (statements p))
    where
      go : Dec (i < statements p) → At tab base t (suc i)
      go (yes k) = subst (At tab base t) (one-add i) (at_later t p 1 i (omega (arith, n)) (first_child t p q e) k (one i k))
      go (no k) =
          let d : ℕ = i - statements p in
          let k₁ : d < statements q = omega (arith, n) in
          subst (At tab base t) (omega arith)
          (at_later t q (1 + statements p) d (omega (arith, n)) (λ m l. second_child t p q e m) k₁ (subst (λ (j : ℕ). At tab j q d) (add_assoc base 1 (statements p)) (two d k₁)))

  at_leaf : {base : ℕ} (t : Stmt) → statements t ≡ 1 → Has tab base t → Small t → (i : ℕ) → i < statements t → At tab base t i
  at_leaf t n h s zero l = at_first t h s
  at_leaf t n h s (suc i) l = absurd (omega (arith, n))

  pub at_number : (base : ℕ) (t : Stmt) → Has tab base t → Small t → (i : ℕ) → i < statements t → At tab base t i
  unfolding Has Small statements preorder
  at_number base nothing h s = at_leaf nothing refl h s
  at_number base (pause n) h s = at_leaf (pause n) refl h s
  at_number base (emit n) h s = at_leaf (emit n) refl h s
  at_number base (present? n then p else q) h s =
      at_two (present? n then p else q) p q refl refl h s (at_number (base + 1) p h.1 s.1) (at_number (base + 1 + statements p) q h.2 s.2)
  at_number base (suspend p on n) h s = at_one (suspend p on n) p refl refl h s (at_number (base + 1) p h.1 s.1)
  at_number base (p ⨾ q) h s =
      at_two (p ⨾ q) p q refl refl h s (at_number (base + 1) p h.1 s.0) (at_number (base + 1 + statements p) q h.2 s.1)
  at_number base (loop p) h s = at_one (loop p) p refl refl h s (at_number (base + 1) p h.1 s)
  at_number base (p parallel q) h s =
      at_two (p parallel q) p q refl refl h s (at_number (base + 1) p h.1 s.0) (at_number (base + 1 + statements p) q h.2 s.1)
  at_number base (trap p) h s = at_one (trap p) p refl refl h s (at_number (base + 1) p h.1 s)
  at_number base (exit d) h s = at_leaf (exit d) refl h s
  at_number base (local n p) h s = at_one (local n p) p refl refl h s (at_number (base + 1) p h.1 s.1)

-- Words by statement number give each statement the codes of its children, which stand directly after it.
abbrev pub Below : (ℕ → ℕ) → ℕ → Stmt → Type 0
Below word i p = (m : ℕ) → 0 < m → m < statements p → bits (word (i + m)) ≡ codes_of (numbered p m)

module _ (tab : Table) (i : ℕ) (word : ℕ → ℕ) where
  fed_one : (t p : Stmt) → preorder t ≡ t ∷ preorder p → statements t ≡ 1 + statements p → Below word i t → bits (word (i + 1)) ≡ codes_of p
  fed_one t p e n w =
      w 1 (omega arith) (omega (arith, n, some_statement p)) ∙ ap codes_of (ap (λ (ps : List Stmt). get_or ps 1 nothing) e ∙ first_is p)

  fed_two : (t p q : Stmt) → preorder t ≡ t ∷ preorder p ++ preorder q → statements t ≡ 1 + statements p + statements q → Has tab (i + 1) p → Below word i t
      → (bits (word (i + 1)) ≡ codes_of p) × (bits (word (i + 1 + get_or tab.sizes (i + 1) 0)) ≡ codes_of q)
  fed_two t p q e n h w = (
    w 1 (omega arith) (omega (arith, n, some_statement p))
        ∙ ap codes_of (ap (λ (ps : List Stmt). get_or ps 1 nothing) e ∙ get_or-append (preorder p) (preorder q) nothing 0 (omega (arith, all_counted p, some_statement p)) ∙ first_is p),
    ap (λ (j : ℕ). bits (word j)) (ap (λ (j : ℕ). i + 1 + j) (has_row p h).its_size ∙ add_assoc i 1 (statements p))
        ∙ w (1 + statements p) (omega arith) (omega (arith, n, some_statement q))
        ∙ ap codes_of (ap (λ (j : ℕ). numbered t j) (one-add (statements p)) ∙ ap (λ (ps : List Stmt). get_or ps (suc (statements p)) nothing) e
        ∙ ap (λ (j : ℕ). get_or (preorder p ++ preorder q) j nothing) (sym (all_counted p) ∙ sym (add-zero (length (preorder p)))) ∙ get_or-append-add (preorder p) (preorder q) 0 nothing ∙ first_is q),
  )

  pub fed : (p : Stmt) → Has tab i p → Below word i p → Fed p (word (i + 1)) (word (i + 1 + get_or tab.sizes (i + 1) 0))
  unfolding Fed Has preorder statements
  fed nothing h w = tt
  fed (pause n) h w = tt
  fed (emit s) h w = tt
  fed (present? s then p else q) h w = fed_two (present? s then p else q) p q refl refl h.1 w
  fed (suspend p on s) h w = fed_one (suspend p on s) p refl refl w
  fed (p ⨾ q) h w = fed_two (p ⨾ q) p q refl refl h.1 w
  fed (loop p) h w = fed_one (loop p) p refl refl w
  fed (p parallel q) h w = fed_two (p parallel q) p q refl refl h.1 w
  fed (trap p) h w = fed_one (trap p) p refl refl w
  fed (exit d) h w = tt
  fed (local s p) h w = fed_one (local s p) p refl refl w

-- The rule of each kind gives the statement's codes.
pub codes_right : (p : Stmt) (v w : ℕ) → Fed p v w → codes_for (kind_of p) (operand_of p) (bits v) (bits w) ≡ codes_of p
unfolding codes_for Fed codes_of kind_of operand_of code
codes_right nothing v w f = refl
codes_right (pause n) v w f = refl
codes_right (emit s) v w f = refl
codes_right (present? s then p else q) v w f = λ i. union (f.0 i) (f.1 i)
codes_right (suspend p on s) v w f = f
codes_right (p ⨾ q) v w f = λ i. union (without 0 (f.0 i)) (only_if (f.0 i 0) (f.1 i))
codes_right (loop p) v w f = λ i. without 0 (f i)
codes_right (p parallel q) v w f = λ i. maxima (f.0 i) (f.1 i)
codes_right (trap p) v w f = λ i. downs (f i)
codes_right (exit (depth d)) v w f = refl
codes_right (local s p) v w f = f

-- A loop is endless where 0 is among its body's codes.
pub endless_right : (p : Stmt) (v w : ℕ) → Fed p v w → (eqb (kind_of p) 22 && bits v 0) ≡ endless p
unfolding endless Fed kind_of
endless_right nothing v w f = refl
endless_right (pause n) v w f = refl
endless_right (emit s) v w f = refl
endless_right (present? s then p else q) v w f = refl
endless_right (suspend p on s) v w f = refl
endless_right (p ⨾ q) v w f = refl
endless_right (loop p) v w f = ap (λ (c : Numbers). c 0) f
endless_right (p parallel q) v w f = refl
endless_right (trap p) v w f = refl
endless_right (exit d) v w f = refl
endless_right (local s p) v w f = refl

-- An exit's operand is a small depth.
pub exit_small : (p : Stmt) → Small p → kind_of p ≡ 25 → operand_of p < 16
unfolding Small kind_of operand_of
exit_small nothing s e = absurd (omega arith)
exit_small (pause n) s e = absurd (omega arith)
exit_small (emit n) s e = absurd (omega arith)
exit_small (present? n then p else q) s e = absurd (omega arith)
exit_small (suspend p on n) s e = absurd (omega arith)
exit_small (p ⨾ q) s e = absurd (omega arith)
exit_small (loop p) s e = absurd (omega arith)
exit_small (p parallel q) s e = absurd (omega arith)
exit_small (trap p) s e = absurd (omega arith)
exit_small (exit (depth d)) s e = s
exit_small (local n p) s e = absurd (omega arith)
