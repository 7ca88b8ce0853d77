-- The records of a doubled statement, one after the other: the statement's own, by its new operand, then those of its children, a loop's body
-- twice. How many bytes and locals there are does not hang on the numbers. By the statement's children. Assumes nothing.
use mathlib.Core.Path.{◌≡◌, refl, sym, ◌∙◌, ap, ap₂, subst, subst⁻¹, fun_ext}
use mathlib.Core.Bool.{Bool, cond}
use mathlib.Core.List.{List, [], ◌∷◌, ◌++◌}
use Prim.Native.Nat.{ℕ, suc, ◌+◌, ◌≤◌, ◌<◌}
use native.Mathlib.Decide.{ℕ_discrete}
use native.Mathlib.Nat.{add-zero}
use native.Mathlib.Omega.{arith}
use lib.Dec.{eqb}
use lib.ListN.{length, get_or, set, length-append}
use lib.Seq.{sets, get_or-set_same, get_or-set_other}
use borrow.Author.Tests.{eq-eqb, ne_eqb}
use Rattle.sets.specs.Numbers.{listed}
use Rattle.rules.specs.Statements.{depth, Stmt, nothing, pause, emit, present?◌then◌else◌, suspend◌on◌, ◌⨾◌, loop, ◌parallel◌, trap, exit, local, pauses}
use Rattle.tables.specs.Table.{kind_of, operand_of, Small}
use Rattle.tables.specs.declared.Table.{Table}
use Rattle.block.specs.Format.{preorder, bytes}
use Rattle.tables.specs.Kinds.{shape, length_of}
use Rattle.block.specs.Good.{locals}
use Rattle.tables.proofs.Rows.{has_row}
use Rattle.block.proofs.Built.{bytes_append}
use Rattle.records.specs.Numerals.{in_bytes}
use Rattle.records.proofs.Bytes.{sets_append}
use Rattle.writing.specs.Written.{shaped_bytes, record_bytes, records}
use Rattle.writing.proofs.Records.{records_append}
use Rattle.writing.proofs.Back.{length_records}
use Rattle.likeness.specs.Likeness.{naming}
use Rattle.doubled.specs.Copies.{copies, renamed}
use Rattle.copies.specs.declared.copying.Spot.{Spot}
use Rattle.copies.specs.Nodes.{Lies, NoChild, a_nothing, a_pause, an_emit, an_exit, OneChild, a_suspend}
use Rattle.copies.specs.Nodes.{a_trap, a_local, TwoChildren, a_present, a_sequence, a_parallel, HasOne, HasBody, HasTwo}
use Rattle.copies.specs.Copying.{names_of, new_operand, names_in, Writes, Copied}
use Rattle.copies.proofs.NodeLaws.{its_kind}

small_local : (t : Stmt) → Small t → kind_of t ≡ 26 → operand_of t < 64
unfolding Small kind_of operand_of
small_local nothing s e = absurd (omega arith)
small_local (pause n) s e = absurd (omega arith)
small_local (emit x) s e = absurd (omega arith)
small_local (present? x then p else q) s e = absurd (omega arith)
small_local (suspend p on x) s e = absurd (omega arith)
small_local (p ⨾ q) s e = absurd (omega arith)
small_local (loop p) s e = absurd (omega arith)
small_local (p parallel q) s e = absurd (omega arith)
small_local (trap p) s e = absurd (omega arith)
small_local (exit d) s e = absurd (omega arith)
small_local (local x p) s e = s.0

-- The next pause's number behind a part.
abbrev pub behind : ℕ → Stmt → ℕ
behind j p = j + length (pauses (copies j p))

two_bytes : (ps qs us vs : List Stmt) → bytes ps ≡ bytes us → bytes qs ≡ bytes vs → bytes (ps ++ qs) ≡ bytes (us ++ vs)
two_bytes ps qs us vs e f = bytes_append ps qs ∙ ap₂ (λ (m n : ℕ). m + n) e f ∙ sym (bytes_append us vs)

two_counted : (ps qs us vs : List ℕ) → length ps ≡ length us → length qs ≡ length vs → length (ps ++ qs) ≡ length (us ++ vs)
two_counted ps qs us vs e f = length-append ps qs ∙ ap₂ (λ (m n : ℕ). m + n) e f ∙ sym (length-append us vs)

-- Whatever the first pause's number, there are as many bytes and as many locals.
pub same_bytes : (i j : ℕ) (t : Stmt) → bytes (preorder (copies i t)) ≡ bytes (preorder (copies j t))
unfolding copies preorder bytes kind_of
same_bytes i j nothing = refl
same_bytes i j (pause n) = refl
same_bytes i j (emit s) = refl
same_bytes i j (present? s then p else q) =
    ap (λ (n : ℕ). length_of 19 + n)
    (two_bytes (preorder (copies i p)) (preorder (copies (behind i p) q)) (preorder (copies j p)) (preorder (copies (behind j p) q)) (same_bytes i j p) (same_bytes (behind i p) (behind j p) q))
same_bytes i j (suspend p on s) = ap (λ (n : ℕ). length_of 20 + n) (same_bytes i j p)
same_bytes i j (p ⨾ q) =
    ap (λ (n : ℕ). length_of 21 + n)
    (two_bytes (preorder (copies i p)) (preorder (copies (behind i p) q)) (preorder (copies j p)) (preorder (copies (behind j p) q)) (same_bytes i j p) (same_bytes (behind i p) (behind j p) q))
same_bytes i j (loop p) =
    ap (λ (n : ℕ). length_of 22 + (length_of 21 + n))
    (two_bytes (preorder (copies i p)) (preorder (copies (behind i p) p)) (preorder (copies j p)) (preorder (copies (behind j p) p)) (same_bytes i j p) (same_bytes (behind i p) (behind j p) p))
same_bytes i j (p parallel q) =
    ap (λ (n : ℕ). length_of 23 + n)
    (two_bytes (preorder (copies i p)) (preorder (copies (behind i p) q)) (preorder (copies j p)) (preorder (copies (behind j p) q)) (same_bytes i j p) (same_bytes (behind i p) (behind j p) q))
same_bytes i j (trap p) = ap (λ (n : ℕ). length_of 24 + n) (same_bytes i j p)
same_bytes i j (exit d) = refl
same_bytes i j (local s p) = ap (λ (n : ℕ). length_of 26 + n) (same_bytes i j p)

pub same_locals : (i j : ℕ) (t : Stmt) → length (locals (copies i t)) ≡ length (locals (copies j t))
unfolding copies locals
same_locals i j nothing = refl
same_locals i j (pause n) = refl
same_locals i j (emit s) = refl
same_locals i j (present? s then p else q) =
    two_counted (locals (copies i p)) (locals (copies (behind i p) q)) (locals (copies j p)) (locals (copies (behind j p) q)) (same_locals i j p) (same_locals (behind i p) (behind j p) q)
same_locals i j (suspend p on s) = same_locals i j p
same_locals i j (p ⨾ q) =
    two_counted (locals (copies i p)) (locals (copies (behind i p) q)) (locals (copies j p)) (locals (copies (behind j p) q)) (same_locals i j p) (same_locals (behind i p) (behind j p) q)
same_locals i j (loop p) =
    two_counted (locals (copies i p)) (locals (copies (behind i p) p)) (locals (copies j p)) (locals (copies (behind j p) p)) (same_locals i j p) (same_locals (behind i p) (behind j p) p)
same_locals i j (p parallel q) =
    two_counted (locals (copies i p)) (locals (copies (behind i p) q)) (locals (copies j p)) (locals (copies (behind j p) q)) (same_locals i j p) (same_locals (behind i p) (behind j p) q)
same_locals i j (trap p) = same_locals i j p
same_locals i j (exit d) = refl
same_locals i j (local s p) = ap suc (same_locals i j p)

-- Other names take as many bytes.
pub renamed_bytes : (ρ : ℕ → ℕ) (n : ℕ) (t : Stmt) → bytes (preorder (renamed ρ n t)) ≡ bytes (preorder t)
unfolding renamed preorder bytes kind_of
renamed_bytes ρ n nothing = refl
renamed_bytes ρ n (pause k) = refl
renamed_bytes ρ n (emit s) = refl
renamed_bytes ρ n (present? s then p else q) =
    ap (λ (n : ℕ). length_of 19 + n)
    (two_bytes (preorder (renamed ρ n p)) (preorder (renamed ρ (n + length (locals p)) q)) (preorder p) (preorder q) (renamed_bytes ρ n p) (renamed_bytes ρ (n + length (locals p)) q))
renamed_bytes ρ n (suspend p on s) = ap (λ (n : ℕ). length_of 20 + n) (renamed_bytes ρ n p)
renamed_bytes ρ n (p ⨾ q) =
    ap (λ (n : ℕ). length_of 21 + n)
    (two_bytes (preorder (renamed ρ n p)) (preorder (renamed ρ (n + length (locals p)) q)) (preorder p) (preorder q) (renamed_bytes ρ n p) (renamed_bytes ρ (n + length (locals p)) q))
renamed_bytes ρ n (loop p) = ap (λ (n : ℕ). length_of 22 + n) (renamed_bytes ρ n p)
renamed_bytes ρ n (p parallel q) =
    ap (λ (n : ℕ). length_of 23 + n)
    (two_bytes (preorder (renamed ρ n p)) (preorder (renamed ρ (n + length (locals p)) q)) (preorder p) (preorder q) (renamed_bytes ρ n p) (renamed_bytes ρ (n + length (locals p)) q))
renamed_bytes ρ n (trap p) = ap (λ (n : ℕ). length_of 24 + n) (renamed_bytes ρ n p)
renamed_bytes ρ n (exit d) = refl
renamed_bytes ρ n (local s p) = ap (λ (n : ℕ). length_of 26 + n) (renamed_bytes (naming ρ s n) (n + 1) p)

pub made_bytes : (ρ : ℕ → ℕ) (n i j : ℕ) (t : Stmt) → bytes (preorder (renamed ρ n (copies i t))) ≡ bytes (preorder (copies j t))
made_bytes ρ n i j t = renamed_bytes ρ n (copies i t) ∙ same_bytes i j t

-- A statement's own record, with its new operand. A pause's number is not written.
pub own_record : (t : Stmt) (ρ : ℕ → ℕ) (n j : ℕ) → record_bytes (kind_of t) (new_operand (kind_of t) (operand_of t) ρ n) ≡ records (renamed ρ n (copies j t) ∷ [])
unfolding records shaped_bytes shape listed in_bytes kind_of operand_of copies renamed new_operand
own_record nothing ρ n j = refl
own_record (pause k) ρ n j = refl
own_record (emit s) ρ n j = refl
own_record (present? s then p else q) ρ n j = refl
own_record (suspend p on s) ρ n j = refl
own_record (p ⨾ q) ρ n j = refl
own_record (loop p) ρ n j = refl
own_record (p parallel q) ρ n j = refl
own_record (trap p) ρ n j = refl
own_record (exit (depth d)) ρ n j = refl
own_record (local s p) ρ n j = refl

pub sequence_record : (x : ℕ) (p q : Stmt) → record_bytes 21 x ≡ records ((p ⨾ q) ∷ [])
unfolding records shaped_bytes shape listed in_bytes kind_of operand_of
sequence_record x p q = refl

same_kind : (t : Stmt) (ρ : ℕ → ℕ) (n j : ℕ) → kind_of (renamed ρ n (copies j t)) ≡ kind_of t
unfolding kind_of copies renamed
same_kind nothing ρ n j = refl
same_kind (pause k) ρ n j = refl
same_kind (emit s) ρ n j = refl
same_kind (present? s then p else q) ρ n j = refl
same_kind (suspend p on s) ρ n j = refl
same_kind (p ⨾ q) ρ n j = refl
same_kind (loop p) ρ n j = refl
same_kind (p parallel q) ρ n j = refl
same_kind (trap p) ρ n j = refl
same_kind (exit d) ρ n j = refl
same_kind (local s p) ρ n j = refl

own_bytes : (t : Stmt) (ρ : ℕ → ℕ) (n j : ℕ) → bytes (renamed ρ n (copies j t) ∷ []) ≡ length_of (kind_of t)
unfolding bytes
own_bytes t ρ n j = add-zero (length_of (kind_of (renamed ρ n (copies j t)))) ∙ ap length_of (same_kind t ρ n j)

-- There is room for the own record, and for the children behind it.
pub own_room : (t : Stmt) → length_of (kind_of t) ≤ bytes (preorder (copies 0 t))
unfolding copies preorder bytes kind_of
own_room nothing = omega arith
own_room (pause n) = omega arith
own_room (emit s) = omega arith
own_room (present? s then p else q) = omega arith
own_room (suspend p on s) = omega arith
own_room (p ⨾ q) = omega arith
own_room (loop p) = omega arith
own_room (p parallel q) = omega arith
own_room (trap p) = omega arith
own_room (exit d) = omega arith
own_room (local s p) = omega arith

-- The rows of the new records, one behind the other.
stored_two : (ps qs : List Stmt) (out : List ℕ) (a : ℕ) {out₁ out₂ : List ℕ} {b : ℕ} → out₁ ≡ sets out a (records ps) → b ≡ a + bytes ps → out₂ ≡ sets out₁ b (records qs)
    → out₂ ≡ sets out a (records (ps ++ qs))
stored_two ps qs out a {out₁} {out₂} {b} e l f =
    f ∙ ap₂ (λ (x : List ℕ) (n : ℕ). sets x n (records qs)) e (l ∙ ap (λ (n : ℕ). a + n) (sym (length_records ps))) ∙ sym (sets_append (records ps) (records qs) out a)
    ∙ ap (sets out a) (sym (records_append ps qs))

leaf_alone : {t : Stmt} → NoChild t → (ρ : ℕ → ℕ) (n j : ℕ) → renamed ρ n (copies j t) ∷ [] ≡ preorder (renamed ρ n (copies j t))
unfolding copies renamed preorder
leaf_alone a_nothing ρ n j = refl
leaf_alone a_pause ρ n j = refl
leaf_alone an_emit ρ n j = refl
leaf_alone an_exit ρ n j = refl

leaf_no_local : {t : Stmt} → NoChild t → (j : ℕ) → ◌≡◌ {A = ℕ} (length (locals (copies j t))) 0
unfolding copies locals
leaf_no_local a_nothing j = refl
leaf_no_local a_pause j = refl
leaf_no_local an_emit j = refl
leaf_no_local an_exit j = refl

-- One child: its records are behind the own one, with the names and the next number inside.
over_row : {t p : Stmt} → OneChild t p → (ρ : ℕ → ℕ) (n j : ℕ)
    → (renamed ρ n (copies j t) ∷ []) ++ preorder (renamed (names_in (kind_of t) (operand_of t) ρ n) (n + cond (eqb (kind_of t) 26) 1 0) (copies j p)) ≡ preorder (renamed ρ n (copies j t))
unfolding copies renamed preorder kind_of operand_of names_in
over_row (a_suspend {s = s} {p = p}) ρ n j = ap (λ (m : ℕ). (suspend (renamed ρ n (copies j p)) on (ρ s)) ∷ preorder (renamed ρ m (copies j p))) (add-zero n)
over_row (a_trap {p = p}) ρ n j = ap (λ (m : ℕ). trap (renamed ρ n (copies j p)) ∷ preorder (renamed ρ m (copies j p))) (add-zero n)
over_row a_local ρ n j = refl

over_locals : {t p : Stmt} → OneChild t p → (j : ℕ) → length (locals (copies j t)) ≡ cond (eqb (kind_of t) 26) 1 0 + length (locals (copies j p))
unfolding copies locals kind_of
over_locals a_suspend j = omega arith
over_locals a_trap j = omega arith
over_locals a_local j = omega arith

over_bytes : {t p : Stmt} → OneChild t p → bytes (preorder (copies 0 t)) ≡ length_of (kind_of t) + bytes (preorder (copies 0 p))
unfolding copies preorder bytes kind_of
over_bytes a_suspend = refl
over_bytes a_trap = refl
over_bytes a_local = refl

-- Two children.
joins_row : {t p q : Stmt} → TwoChildren t p q → (ρ : ℕ → ℕ) (n j : ℕ)
    → ((renamed ρ n (copies j t) ∷ []) ++ preorder (renamed ρ n (copies j p))) ++ preorder (renamed ρ (n + length (locals (copies j p))) (copies (behind j p) q))
    ≡ preorder (renamed ρ n (copies j t))
unfolding copies renamed preorder
joins_row a_present ρ n j = refl
joins_row a_sequence ρ n j = refl
joins_row a_parallel ρ n j = refl

joins_locals : {t p q : Stmt} → TwoChildren t p q → (j : ℕ) → length (locals (copies j t)) ≡ length (locals (copies j p)) + length (locals (copies (behind j p) q))
unfolding copies locals
joins_locals (a_present {p = p} {q = q}) j = length-append (locals (copies j p)) (locals (copies (behind j p) q))
joins_locals (a_sequence {p = p} {q = q}) j = length-append (locals (copies j p)) (locals (copies (behind j p) q))
joins_locals (a_parallel {p = p} {q = q}) j = length-append (locals (copies j p)) (locals (copies (behind j p) q))

joins_bytes : {t p q : Stmt} → TwoChildren t p q → bytes (preorder (copies 0 t)) ≡ length_of (kind_of t) + (bytes (preorder (copies 0 p)) + bytes (preorder (copies (behind 0 p) q)))
unfolding copies preorder bytes kind_of
joins_bytes (a_present {p = p} {q = q}) = ap (λ (n : ℕ). length_of 19 + n) (bytes_append (preorder (copies 0 p)) (preorder (copies (behind 0 p) q)))
joins_bytes (a_sequence {p = p} {q = q}) = ap (λ (n : ℕ). length_of 21 + n) (bytes_append (preorder (copies 0 p)) (preorder (copies (behind 0 p) q)))
joins_bytes (a_parallel {p = p} {q = q}) = ap (λ (n : ℕ). length_of 23 + n) (bytes_append (preorder (copies 0 p)) (preorder (copies (behind 0 p) q)))

-- A loop: the sequence's record, and its body twice.
loop_row : (p : Stmt) (ρ : ℕ → ℕ) (n j : ℕ)
    → let p₁ = renamed ρ n (copies j p) in
    let p₂ = renamed ρ (n + length (locals (copies j p))) (copies (behind j p) p) in
    (((renamed ρ n (copies j (loop p)) ∷ []) ++ ((p₁ ⨾ p₂) ∷ [])) ++ preorder p₁) ++ preorder p₂ ≡ preorder (renamed ρ n (copies j (loop p)))
unfolding copies renamed preorder
loop_row p ρ n j = refl

loop_locals : (p : Stmt) (j : ℕ) → length (locals (copies j (loop p))) ≡ length (locals (copies j p)) + length (locals (copies (behind j p) p))
unfolding copies locals
loop_locals p j = length-append (locals (copies j p)) (locals (copies (behind j p) p))

loop_bytes : (p : Stmt) → bytes (preorder (copies 0 (loop p))) ≡ length_of 22 + (length_of 21 + (bytes (preorder (copies 0 p)) + bytes (preorder (copies (behind 0 p) p))))
unfolding copies preorder bytes kind_of
loop_bytes p = ap (λ (n : ℕ). length_of 22 + (length_of 21 + n)) (bytes_append (preorder (copies 0 p)) (preorder (copies (behind 0 p) p)))

-- What the code has at hand when a statement's own record is written: its kind and operand, and where it goes on.
pub record Begun (tab : Table) (at k x : ℕ) (t : Stmt) (ρ : ℕ → ℕ) (spot : Spot) (to : ℕ) (before now : List ℕ) : Type 0 where
  pub lies : Lies tab at t
  pub k_is : k ≡ get_or tab.kinds at 0
  pub x_is : x ≡ get_or tab.operands at 0
  pub goes_on : to ≡ spot.to + length_of k
  pub stored : now ≡ sets before spot.to (record_bytes k (new_operand k x ρ spot.next))

module _ {tab : Table} {at k x : ℕ} {t : Stmt} {ρ : ℕ → ℕ} {spot : Spot} {to : ℕ} {before now : List ℕ} (b : Begun tab at k x t ρ spot to before now) where
  kind_is : k ≡ kind_of t
  kind_is = b.k_is ∙ its_kind b.lies

  operand_is : x ≡ operand_of t
  operand_is = b.x_is ∙ (has_row t b.lies.has).its_operand

  begun_stored : (j : ℕ) → now ≡ sets before spot.to (records (renamed ρ spot.next (copies j t) ∷ []))
  begun_stored j =
      b.stored ∙ ap₂ (λ (k x : ℕ). sets before spot.to (record_bytes k (new_operand k x ρ spot.next))) kind_is operand_is
      ∙ ap (sets before spot.to) (own_record t ρ spot.next j)

  begun_at : (j : ℕ) → to ≡ spot.to + bytes (renamed ρ spot.next (copies j t) ∷ [])
  begun_at j = b.goes_on ∙ ap (λ (n : ℕ). spot.to + n) (ap length_of kind_is ∙ sym (own_bytes t ρ spot.next j))

  -- No child.
  pub leaf_copied : NoChild t → {after : Spot} → after.to ≡ to → after.next ≡ spot.next → (j : ℕ) → Copied t ρ j spot after before now
  leaf_copied v {after} e f j = record {
    stored = begun_stored j ∙ ap (λ (ps : List Stmt). sets before spot.to (records ps)) (leaf_alone v ρ spot.next j);
    ends = e ∙ begun_at j ∙ ap (λ (ps : List Stmt). spot.to + bytes ps) (leaf_alone v ρ spot.next j);
    counted = f ∙ sym (add-zero spot.next) ∙ ap (λ (n : ℕ). spot.next + n) (sym (leaf_no_local v j));
  }

-- Two rows of records, one behind the other.
ends_two : (a : ℕ) (ps qs : List Stmt) {b c : ℕ} → b ≡ a + bytes ps → c ≡ b + bytes qs → c ≡ a + bytes (ps ++ qs)
ends_two a ps qs e f = omega (arith, bytes_append ps qs)

module _ {tab : Table} {at k x : ℕ} {t : Stmt} {ρ : ℕ → ℕ} {spot : Spot} {to : ℕ} {before now : List ℕ} (b : Begun tab at k x t ρ spot to before now) (j : ℕ) where
  abbrev t' : Stmt
  t' = renamed ρ spot.next (copies j t)

  pub over_copied : {p : Stmt} {ρ' : ℕ → ℕ} {n' : ℕ} {after : Spot} {now₁ : List ℕ} → OneChild t p → ρ' ≡ names_in k x ρ spot.next → n' ≡ spot.next + cond (eqb k 26) 1 0
      → Copied p ρ' j (record { to = to; next = n' }) after now now₁ → Copied t ρ j spot after before now₁
  over_copied {p} {ρ'} {n'} v e f c =
      let inside : names_in k x ρ spot.next ≡ names_in (kind_of t) (operand_of t) ρ spot.next = ap₂ (λ (k x : ℕ). names_in k x ρ spot.next) (kind_is b) (operand_is b) in
      let next_is : n' ≡ spot.next + cond (eqb (kind_of t) 26) 1 0 = f ∙ ap (λ (k : ℕ). spot.next + cond (eqb k 26) 1 0) (kind_is b) in
      let same : renamed ρ' n' (copies j p) ≡ renamed (names_in (kind_of t) (operand_of t) ρ spot.next) (spot.next + cond (eqb (kind_of t) 26) 1 0) (copies j p) =
      ap₂ (λ (ρ : ℕ → ℕ) (n : ℕ). renamed ρ n (copies j p)) (e ∙ inside) next_is in
      let row_is : (t' ∷ []) ++ preorder (renamed ρ' n' (copies j p)) ≡ preorder t' = ap (λ (p : Stmt). (t' ∷ []) ++ preorder p) same ∙ over_row v ρ spot.next j in
      record {
        stored = stored_two (t' ∷ []) (preorder (renamed ρ' n' (copies j p))) before spot.to (begun_stored b j) (begun_at b j) c.stored
            ∙ ap (λ (ps : List Stmt). sets before spot.to (records ps)) row_is;
        ends = ends_two spot.to (t' ∷ []) (preorder (renamed ρ' n' (copies j p))) (begun_at b j) c.ends ∙ ap (λ (ps : List Stmt). spot.to + bytes ps) row_is;
        counted = omega (arith, c.counted, next_is, over_locals v j);
      }

  pub joins_copied : {p q : Stmt} {half after : Spot} {now₁ now₂ : List ℕ} → TwoChildren t p q → Copied p ρ j (record { to = to; next = spot.next }) half now now₁
      → Copied q ρ (behind j p) half after now₁ now₂ → Copied t ρ j spot after before now₂
  joins_copied {p} {q} {half} v c d =
      let p' = renamed ρ spot.next (copies j p) in
      let q' = renamed ρ half.next (copies (behind j p) q) in
      let row_is : ((t' ∷ []) ++ preorder p') ++ preorder q' ≡ preorder t' =
      ap (λ (n : ℕ). ((t' ∷ []) ++ preorder p') ++ preorder (renamed ρ n (copies (behind j p) q))) c.counted ∙ joins_row v ρ spot.next j in
      let first = stored_two (t' ∷ []) (preorder p') before spot.to (begun_stored b j) (begun_at b j) c.stored in
      let first_ends = ends_two spot.to (t' ∷ []) (preorder p') (begun_at b j) c.ends in
      record {
        stored = stored_two ((t' ∷ []) ++ preorder p') (preorder q') before spot.to first first_ends d.stored
            ∙ ap (λ (ps : List Stmt). sets before spot.to (records ps)) row_is;
        ends = ends_two spot.to ((t' ∷ []) ++ preorder p') (preorder q') first_ends d.ends ∙ ap (λ (ps : List Stmt). spot.to + bytes ps) row_is;
        counted = omega (arith, c.counted, d.counted, joins_locals v j);
      }

one_sequence : (p q : Stmt) → bytes ((p ⨾ q) ∷ []) ≡ length_of 21
unfolding bytes kind_of
one_sequence p q = add-zero (length_of 21)

pub twice_copied : {tab : Table} {at k x : ℕ} {p : Stmt} {ρ : ℕ → ℕ} {spot : Spot} {to to₁ : ℕ} {before now now₁ now₂ now₃ : List ℕ} {half after : Spot} (y : ℕ)
    → Begun tab at k x (loop p) ρ spot to before now → to₁ ≡ to + length_of 21 → now₁ ≡ sets now to (record_bytes 21 y) → (j : ℕ)
    → Copied p ρ j (record { to = to₁; next = spot.next }) half now₁ now₂ → Copied p ρ (behind j p) half after now₂ now₃ → Copied (loop p) ρ j spot after before now₃
twice_copied {p = p} {ρ = ρ} {spot = spot} {to = to} {before = before} {now = now} {half = half} y b e f j c d =
    let t' = renamed ρ spot.next (copies j (loop p)) in
    let p₁ = renamed ρ spot.next (copies j p) in
    let p₂ = renamed ρ (spot.next + length (locals (copies j p))) (copies (behind j p) p) in
    let q = renamed ρ half.next (copies (behind j p) p) in
    let row_is : (((t' ∷ []) ++ ((p₁ ⨾ p₂) ∷ [])) ++ preorder p₁) ++ preorder q ≡ preorder t' =
    ap (λ (n : ℕ). (((t' ∷ []) ++ ((p₁ ⨾ p₂) ∷ [])) ++ preorder p₁) ++ preorder (renamed ρ n (copies (behind j p) p))) c.counted ∙ loop_row p ρ spot.next j in
    let s₁ = stored_two (t' ∷ []) ((p₁ ⨾ p₂) ∷ []) before spot.to (begun_stored b j) (begun_at b j) (f ∙ ap (λ (l : List ℕ). sets now to l) (sequence_record y p₁ p₂)) in
    let e₁ = ends_two spot.to (t' ∷ []) ((p₁ ⨾ p₂) ∷ []) (begun_at b j) (e ∙ ap (λ (n : ℕ). to + n) (sym (one_sequence p₁ p₂))) in
    let s₂ = stored_two ((t' ∷ []) ++ ((p₁ ⨾ p₂) ∷ [])) (preorder p₁) before spot.to s₁ e₁ c.stored in
    let e₂ = ends_two spot.to ((t' ∷ []) ++ ((p₁ ⨾ p₂) ∷ [])) (preorder p₁) e₁ c.ends in
    record {
      stored = stored_two (((t' ∷ []) ++ ((p₁ ⨾ p₂) ∷ [])) ++ preorder p₁) (preorder q) before spot.to s₂ e₂ d.stored
          ∙ ap (λ (ps : List Stmt). sets before spot.to (records ps)) row_is;
      ends = ends_two spot.to (((t' ∷ []) ++ ((p₁ ⨾ p₂) ∷ [])) ++ preorder p₁) (preorder q) e₂ d.ends ∙ ap (λ (ps : List Stmt). spot.to + bytes ps) row_is;
      counted = omega (arith, c.counted, d.counted, loop_locals p j);
    }

pub loop_copied : {tab : Table} {at k x : ℕ} {t p : Stmt} {ρ : ℕ → ℕ} {spot : Spot} {to to₁ : ℕ} {before now now₁ now₂ now₃ : List ℕ} {half after : Spot} (y : ℕ) → t ≡ loop p
    → Begun tab at k x t ρ spot to before now → to₁ ≡ to + length_of 21 → now₁ ≡ sets now to (record_bytes 21 y) → (j : ℕ)
    → Copied p ρ j (record { to = to₁; next = spot.next }) half now₁ now₂ → Copied p ρ (behind j p) half after now₂ now₃ → Copied t ρ j spot after before now₃
loop_copied {tab} {at} {k} {x} {ρ = ρ} {spot = spot} {to = to} {before = before} {now = now} {now₃ = now₃} {after = after} y i b e f j c d =
    subst⁻¹ (λ (u : Stmt). Copied u ρ j spot after before now₃) i (twice_copied y (subst (λ (u : Stmt). Begun tab at k x u ρ spot to before now) i b) e f j c d)

-- What stands behind the first call.
pub begun_of : {tab : Table} {at : ℕ} {t : Stmt} (ρ : ℕ → ℕ) (spot : Spot) (k x : ℕ) {x' to : ℕ} (before : List ℕ) {now : List ℕ} → Lies tab at t → k ≡ get_or tab.kinds at 0
    → x ≡ get_or tab.operands at 0 → x' ≡ new_operand k x ρ spot.next → to ≡ spot.to + length_of k → now ≡ sets before spot.to (record_bytes k x')
    → Begun tab at k x t ρ spot to before now
begun_of ρ spot k x before l e f g h i = record {
  lies = l;
  k_is = e;
  x_is = f;
  goes_on = h;
  stored = i ∙ ap (λ (y : ℕ). sets before spot.to (record_bytes k y)) g;
}

-- What the calls ask for.
pub record_room : {tab : Table} {at : ℕ} {spot : Spot} {lent k : ℕ} → Writes tab at spot lent → k ≡ get_or tab.kinds at 0 → spot.to + length_of k ≤ lent
record_room {lent = lent} w k_is = let e = ap length_of (k_is ∙ its_kind w.lies) in omega (arith, own_room w.tree, w.room)

module _ {tab : Table} {at : ℕ} {spot : Spot} {lent k to lent' : ℕ} (w : Writes tab at spot lent) (k_is : k ≡ get_or tab.kinds at 0) (to_is : to ≡ spot.to + length_of k)
    (same : lent' ≡ lent) where
  own_length : length_of k ≡ length_of (kind_of w.tree)
  own_length = ap length_of (k_is ∙ its_kind w.lies)

  pub over_writes : {i n' : ℕ} → n' ≡ spot.next + cond (eqb k 26) 1 0 → HasOne tab at i w.tree → Writes tab i (record { to = to; next = n' }) lent'
  over_writes e h =
      let f = ap (λ (k : ℕ). spot.next + cond (eqb k 26) 1 0) (k_is ∙ its_kind w.lies) in
      record {
        tree = h.child;
        lies = h.lies;
        room = omega (arith, w.room, own_length, over_bytes h.its);
        few = omega (arith, w.few, over_locals h.its 0);
      }

  pub first_writes : {i m : ℕ} → HasTwo tab at i m w.tree → Writes tab i (record { to = to; next = spot.next }) lent'
  first_writes h = record {
    tree = h.first;
    lies = h.first_lies;
    room = omega (arith, w.room, own_length, joins_bytes h.its);
    few = omega (arith, w.few, joins_locals h.its 0);
  }

  pub second_writes : {i m : ℕ} {ρ : ℕ → ℕ} {half : Spot} {before now : List ℕ} (h : HasTwo tab at i m w.tree)
      → Copied h.first ρ 0 (record { to = to; next = spot.next }) half before now → Writes tab m half lent'
  second_writes {ρ = ρ} h c = record {
    tree = h.second;
    lies = h.second_lies;
    room = omega (arith, w.room, own_length, joins_bytes h.its, c.ends, made_bytes ρ spot.next 0 0 h.first, same_bytes (behind 0 h.first) 0 h.second);
    few = omega (arith, w.few, joins_locals h.its 0, c.counted, same_locals (behind 0 h.first) 0 h.second);
  }

  -- A loop: the body is written below a sequence, and then once more.
  body_bytes : {i : ℕ} (h : HasBody tab at i w.tree)
      → bytes (preorder (copies 0 w.tree)) ≡ length_of k + (length_of 21 + (bytes (preorder (copies 0 h.child)) + bytes (preorder (copies 0 h.child))))
  unfolding kind_of
  body_bytes h =
      ap (λ (t : Stmt). bytes (preorder (copies 0 t))) h.its ∙ loop_bytes h.child
      ∙ ap₂ (λ (m n : ℕ). m + (length_of 21 + (bytes (preorder (copies 0 h.child)) + n))) (sym (own_length ∙ ap (λ (t : Stmt). length_of (kind_of t)) h.its))
      (same_bytes (behind 0 h.child) 0 h.child)

  body_locals : {i : ℕ} (h : HasBody tab at i w.tree) → length (locals (copies 0 w.tree)) ≡ length (locals (copies 0 h.child)) + length (locals (copies 0 h.child))
  body_locals h =
      ap (λ (t : Stmt). length (locals (copies 0 t))) h.its ∙ loop_locals h.child 0
      ∙ ap (λ (n : ℕ). length (locals (copies 0 h.child)) + n) (same_locals (behind 0 h.child) 0 h.child)

  pub sequence_room : {i : ℕ} → HasBody tab at i w.tree → to + length_of 21 ≤ lent'
  sequence_room h = omega (arith, w.room, body_bytes h)

  pub once_writes : {i to₁ : ℕ} → to₁ ≡ to + length_of 21 → HasBody tab at i w.tree → Writes tab i (record { to = to₁; next = spot.next }) lent'
  once_writes e h = record { tree = h.child; lies = h.lies; room = omega (arith, w.room, body_bytes h); few = omega (arith, w.few, body_locals h) }

  pub again_writes : {i to₁ : ℕ} {ρ : ℕ → ℕ} {half : Spot} {before now : List ℕ} → to₁ ≡ to + length_of 21 → (h : HasBody tab at i w.tree)
      → Copied h.child ρ 0 (record { to = to₁; next = spot.next }) half before now → Writes tab i half lent'
  again_writes {ρ = ρ} e h c = record {
    tree = h.child;
    lies = h.lies;
    room = omega (arith, w.room, body_bytes h, c.ends, made_bytes ρ spot.next 0 0 h.child);
    few = omega (arith, w.few, body_locals h, c.counted);
  }

-- The names of an array with one set anew.
pub names_set : (names : List ℕ) (x n : ℕ) → x < length names → names_of (set names x n) ≡ naming (names_of names) x n
names_set names x n l = fun_ext (λ s. go s (ℕ_discrete s x))
  where
    go : (s : ℕ) → Dec (s ≡ x) → get_or (set names x n) s 0 ≡ cond (eqb s x) n (get_or names s 0)
    go s (yes e) = ap (λ (i : ℕ). get_or (set names x n) i 0) e ∙ get_or-set_same names x n 0 l ∙ sym (ap (λ (z : Bool). cond z n (get_or names s 0)) (eq-eqb s x e))
    go s (no e) = get_or-set_other names x s n 0 e ∙ sym (ap (λ (z : Bool). cond z n (get_or names s 0)) (ne_eqb s x e))

pub names_local : (k x n : ℕ) (ρ : ℕ → ℕ) → k ≡ 26 → naming ρ x n ≡ names_in k x ρ n
unfolding names_in
names_local k x n ρ e = sym (ap (λ (z : Bool). cond z (naming ρ x n) ρ) (eq-eqb k 26 e))

pub names_kept : (k x n : ℕ) (ρ : ℕ → ℕ) → (k ≡ 26 → ⊥) → ρ ≡ names_in k x ρ n
unfolding names_in
names_kept k x n ρ e = sym (ap (λ (z : Bool). cond z (naming ρ x n) ρ) (ne_eqb k 26 e))

-- The operand written, by the ranges that the code tells apart.
pub operand_next : (k x n : ℕ) (ρ : ℕ → ℕ) → k ≡ 26 → n ≡ new_operand k x ρ n
unfolding new_operand
operand_next k x n ρ e = sym (ap (λ (z : Bool). cond z n (cond (listed (18 ∷ 19 ∷ 20 ∷ []) k) (ρ x) x)) (eq-eqb k 26 e))

pub operand_named : (k x n : ℕ) (ρ : ℕ → ℕ) → 18 ≤ k → k ≤ 20 → ρ x ≡ new_operand k x ρ n
unfolding new_operand listed
operand_named k x n ρ l h = go (ℕ_discrete k 18) (ℕ_discrete k 19)
  where
    go : Dec (k ≡ 18) → Dec (k ≡ 19) → ρ x ≡ new_operand k x ρ n
    go (yes e) y = sym (ap (λ (k : ℕ). new_operand k x ρ n) e)
    go (no e) (yes f) = sym (ap (λ (k : ℕ). new_operand k x ρ n) f)
    go (no e) (no f) = let g : k ≡ 20 = omega arith in sym (ap (λ (k : ℕ). new_operand k x ρ n) g)

pub operand_kept : (k x n : ℕ) (ρ : ℕ → ℕ) → (k ≡ 26 → ⊥) → (k ≡ 18 → ⊥) → (k ≡ 19 → ⊥) → (k ≡ 20 → ⊥) → x ≡ new_operand k x ρ n
unfolding new_operand listed
operand_kept k x n ρ a b c d = sym (simp (ne_eqb k 26 a, ne_eqb k 18 b, ne_eqb k 19 c, ne_eqb k 20 d))

-- A local's number is below 64.
pub local_small : {tab : Table} {at k x : ℕ} {t : Stmt} → Lies tab at t → k ≡ get_or tab.kinds at 0 → x ≡ get_or tab.operands at 0 → k ≡ 26 → x < 64
local_small {t = t} l e f g = subst⁻¹ (λ (n : ℕ). n < 64) (f ∙ (has_row t l.has).its_operand) (small_local t l.small (sym (e ∙ its_kind l) ∙ g))
