-- Writing the header and a record: the stores of the fields, one after the other, make the whole of it. Assumes nothing.
use mathlib.Core.Path.{◌≡◌, refl, sym, ap, ◌∙◌}
use mathlib.Core.Logic.{◌⊎◌, inl, inr, ⊎_elim}
use mathlib.Core.Bool.{Bool, true, false, cond}
use mathlib.Core.List.{List, [], ◌∷◌, ◌++◌, append-nil}
use Rattle.std.specs.Prelude.{Option, Some, None, Ok, Err, ltb}
use Prim.Native.Nat.{ℕ, ◌+◌, ◌≤◌, ◌<◌}
use native.Mathlib.Omega.{arith}
use borrow.Author.Tests.{lt-ltb, le-ltb, ltb-true, ltb-false}
use lib.ListN.{length, length-append, get_or}
use lib.Seq.{sets}
use Rattle.rules.specs.Statements.{Stmt}
use Rattle.tables.specs.Table.{kind_of, operand_of}
use Rattle.block.specs.Format.{preorder, bytes, Header}
use Rattle.tables.specs.declared.kinds.Shape.{Shape}
use Rattle.tables.specs.Kinds.{shape, short, long, of_shape, length_of, operands_of}
use Rattle.tables.proofs.Shapes.{Shaped, shaped}
use Rattle.block.proofs.Views.{shape?, known}
use Rattle.records.specs.Numerals.{in_bytes}
use Rattle.records.proofs.Bytes.{sets_append, sets_front}
use Rattle.refusals.specs.declared.Refused.{Refused}
use Rattle.refusals.proofs.Laws.{number_above}
use Rattle.writing.specs.Answers.{writes, refuses, roomed, wrote_values, wrote_owed, out_owed}
use Rattle.writing.specs.Written.{shaped_bytes, record_bytes, records, header_bytes, block_bytes}
use Rattle.writing.proofs.Records.{records_append}
use Rattle.writing.proofs.Back.{length_records}

-- The header's seven numbers.
pub header_stored : (s : List ℕ) (h : Header) {s1 s2 s3 s4 s5 s6 s7 : List ℕ} → s1 ≡ sets s 0 (in_bytes 2 14) → s2 ≡ sets s1 2 (in_bytes 2 1) → s3 ≡ sets s2 4 (in_bytes 2 1)
    → s4 ≡ sets s3 6 (in_bytes 2 h.version) → s5 ≡ sets s4 8 (in_bytes 2 h.inputs) → s6 ≡ sets s5 10 (in_bytes 2 h.outputs) → s7 ≡ sets s6 12 (in_bytes 2 h.locals)
    → s7 ≡ sets s 0 (header_bytes h)
unfolding header_bytes in_bytes
header_stored s h e1 e2 e3 e4 e5 e6 e7 =
    e7 ∙ ap (λ (x : List ℕ). sets x 12 (in_bytes 2 h.locals))
    (e6 ∙ ap (λ (x : List ℕ). sets x 10 (in_bytes 2 h.outputs))
    (e5 ∙ ap (λ (x : List ℕ). sets x 8 (in_bytes 2 h.inputs))
    (e4 ∙ ap (λ (x : List ℕ). sets x 6 (in_bytes 2 h.version))
    (e3 ∙ ap (λ (x : List ℕ). sets x 4 (in_bytes 2 1))
    (e2 ∙ ap (λ (x : List ℕ). sets x 2 (in_bytes 2 1)) e1)))))

-- The shape of a kind: without an operand or with one.
pub record Plain (k : ℕ) (t : Shape) : Type 0 where
  pub its_length : t.length ≡ 4
  pub its_operands : t.operands ≡ 0
  pub its_bytes : (x : ℕ) → record_bytes k x ≡ in_bytes 2 4 ++ in_bytes 2 k

pub record Operated (k : ℕ) (t : Shape) : Type 0 where
  pub its_length : t.length ≡ 6
  pub its_operands : t.operands ≡ 1
  pub its_bytes : (x : ℕ) → record_bytes k x ≡ in_bytes 2 6 ++ (in_bytes 2 k ++ in_bytes 2 x)

pub allowed : (k : ℕ) {t : Shape} → shape k ≡ Some t → Plain k t ⊎ Operated k t
unfolding length_of operands_of shaped_bytes in_bytes
allowed k {t} e = ⊎_elim (λ v. ⊎_elim plain operated (known v)) (λ n. absurd (apart (sym n ∙ e))) (shape? k)
  where
    apart : None ≡ Some t → ⊥
    apart q = cc

    s : Shaped k t
    s = shaped k e

    plain : {n : ℕ} → shape k ≡ short n → Plain k t ⊎ Operated k t
    plain q = inl (record {
      its_length = s.its_length ∙ ap (of_shape (λ s. s.length)) q;
      its_operands = s.its_operands ∙ ap (of_shape (λ s. s.operands)) q;
      its_bytes = λ x. ap (λ (o : Option Shape). shaped_bytes k x o) q;
    })

    operated : {n : ℕ} → shape k ≡ long n → Plain k t ⊎ Operated k t
    operated q = inr (record {
      its_length = s.its_length ∙ ap (of_shape (λ s. s.length)) q;
      its_operands = s.its_operands ∙ ap (of_shape (λ s. s.operands)) q;
      its_bytes = λ x. ap (λ (o : Option Shape). shaped_bytes k x o) q;
    })

-- The room that a record needs.
pub room_for : (k at n : ℕ) {t : Shape} → shape k ≡ Some t → at + length_of k ≤ n
    → (at + t.length ≤ n) × (at + 4 ≤ n) × (t.operands ≡ 1 → at + 6 ≤ n) × (t.length ≤ 6)
room_for k at n {t} e l =
    let s = shaped k e in
    ⊎_elim (λ p. (omega (arith, s.its_length), omega (arith, s.its_length, p.its_length), λ o. absurd (omega (arith, p.its_operands)), omega (arith, p.its_length)))
    (λ p. (omega (arith, s.its_length), omega (arith, s.its_length, p.its_length), λ o. omega (arith, s.its_length, p.its_length), omega (arith, p.its_length))) (allowed k e)

-- The stores of a record.
two_then : (s vs ws : List ℕ) (at : ℕ) {s1 s2 : List ℕ} → length vs ≡ 2 → s1 ≡ sets s at vs → s2 ≡ sets s1 (at + 2) ws → s2 ≡ sets s at (vs ++ ws)
two_then s vs ws at l e f =
    f ∙ ap (λ (x : List ℕ). sets x (at + 2) ws) e ∙ ap (λ (n : ℕ). sets (sets s at vs) (at + n) ws) (sym l) ∙ sym (sets_append vs ws s at)

module _ (s : List ℕ) (at k x : ℕ) {t : Shape} (e : shape k ≡ Some t) {s1 s2 : List ℕ} (first : s1 ≡ sets s at (in_bytes 2 t.length))
    (second : s2 ≡ sets s1 (at + 2) (in_bytes 2 k)) where
  pub stored_plain : (t.operands ≡ 1 → ⊥) → s2 ≡ sets s at (record_bytes k x)
  unfolding in_bytes
  stored_plain other = ⊎_elim plain (λ o. absurd (other o.its_operands)) (allowed k e)
    where
      plain : Plain k t → s2 ≡ sets s at (record_bytes k x)
      plain p =
          two_then s (in_bytes 2 4) (in_bytes 2 k) at refl (first ∙ ap (λ (n : ℕ). sets s at (in_bytes 2 n)) p.its_length) second
          ∙ ap (λ (l : List ℕ). sets s at l) (sym (p.its_bytes x))

  pub stored_operated : {s3 : List ℕ} → t.operands ≡ 1 → s3 ≡ sets s2 (at + 4) (in_bytes 2 x) → s3 ≡ sets s at (record_bytes k x)
  unfolding in_bytes
  stored_operated {s3} one third = ⊎_elim (λ p. absurd (omega (arith, p.its_operands))) operated (allowed k e)
    where
      operated : Operated k t → s3 ≡ sets s at (record_bytes k x)
      operated o =
          let far : at + 4 ≡ at + 2 + 2 = omega arith in
          two_then s (in_bytes 2 6) (in_bytes 2 k ++ in_bytes 2 x) at refl (first ∙ ap (λ (n : ℕ). sets s at (in_bytes 2 n)) o.its_length)
          (two_then s1 (in_bytes 2 k) (in_bytes 2 x) (at + 2) refl second (third ∙ ap (λ (n : ℕ). sets s2 n (in_bytes 2 x)) far))
          ∙ ap (λ (l : List ℕ). sets s at l) (sym (o.its_bytes x))

-- A kind that is not allowed has no record.
pub not_stored : (s : List ℕ) (at k x : ℕ) → shape k ≡ None → s ≡ sets s at (record_bytes k x)
unfolding shaped_bytes
not_stored s at k x e = sym (ap (λ (o : Option Shape). sets s at (shaped_bytes k x o)) e)

-- ROOM, by the length of what is to be written.
pub too_few : (bs : List ℕ) (lent : ℕ) → lent < length bs → roomed (writes bs) lent ≡ refuses 12 0
unfolding roomed
too_few bs lent l = ap (λ (z : Bool). cond z (refuses 12 0) (writes bs)) (lt-ltb lent (length bs) l)

pub enough : (bs : List ℕ) (lent : ℕ) → length bs ≤ lent → roomed (writes bs) lent ≡ writes bs
unfolding roomed
enough bs lent l = ap (λ (z : Bool). cond z (refuses 12 0) (writes bs)) (le-ltb lent (length bs) l)

-- What the answer of `in_room` says: so many bytes fit, or they do not.
pub fits_in : (bs : List ℕ) (lent n : ℕ) → wrote_values (Ok n) ≡ wrote_owed (roomed (writes bs) lent) → (n ≡ length bs) × (length bs ≤ lent)
unfolding wrote_values wrote_owed
fits_in bs lent n e = go (ltb lent (length bs)) refl
  where
    go : (x : Bool) → ltb lent (length bs) ≡ x → (n ≡ length bs) × (length bs ≤ lent)
    go true t =
        let z : ◌≡◌ {A = ℕ} 0 12 = ap (λ (x : List ℕ). get_or x 0 0) (e ∙ ap wrote_owed (too_few bs lent (ltb-true lent (length bs) t))) in absurd (omega arith)
    go false t =
        let l = ltb-false lent (length bs) t in (ap (λ (x : List ℕ). get_or x 2 0) (e ∙ ap wrote_owed (enough bs lent l)), l)

pub does_not_fit : (bs : List ℕ) (lent : ℕ) (r : Refused) → wrote_values (Err r) ≡ wrote_owed (roomed (writes bs) lent) → lent < length bs
unfolding wrote_values wrote_owed
does_not_fit bs lent r e = go (ltb lent (length bs)) refl
  where
    go : (x : Bool) → ltb lent (length bs) ≡ x → lent < length bs
    go true t = ltb-true lent (length bs) t
    go false t = absurd (number_above r.why (ap (λ (x : List ℕ). get_or x 0 0) (e ∙ ap wrote_owed (enough bs lent (ltb-false lent (length bs) t)))))

-- For who writes a block record by record: one record more behind those of some statements; the records behind the header; and what
-- the lent bytes then are.
pub records_stored : (out : List ℕ) (to : ℕ) (ps : List Stmt) (p : Stmt)
    → sets (sets out to (records ps)) (to + bytes ps) (record_bytes (kind_of p) (operand_of p)) ≡ sets out to (records (ps ++ (p ∷ [])))
unfolding records
records_stored out to ps p =
    let one = record_bytes (kind_of p) (operand_of p) in
    ap (λ (n : ℕ). sets (sets out to (records ps)) (to + n) one) (sym (length_records ps)) ∙ sym (sets_append (records ps) one out to)
    ∙ ap (λ (l : List ℕ). sets out to l) (sym (records_append ps (p ∷ []) ∙ ap (λ (l : List ℕ). records ps ++ l) (append-nil one)))

pub block_stored : (out : List ℕ) (h : Header) (t : Stmt) → sets (sets out 0 (header_bytes h)) 14 (records (preorder t)) ≡ sets out 0 (block_bytes h t)
unfolding block_bytes header_bytes in_bytes
block_stored out h t = sym (sets_append (header_bytes h) (records (preorder t)) out 0)

pub block_length : (h : Header) (t : Stmt) → length (block_bytes h t) ≡ 14 + bytes (preorder t)
unfolding block_bytes header_bytes in_bytes
block_length h t = length-append (header_bytes h) (records (preorder t)) ∙ ap (λ (n : ℕ). 14 + n) (length_records (preorder t))

pub out_written : (out : List ℕ) (h : Header) (t : Stmt) → 14 + bytes (preorder t) ≤ length out
    → sets out 0 (block_bytes h t) ≡ out_owed (writes (block_bytes h t)) out
unfolding out_owed
out_written out h t l = sets_front (block_bytes h t) out (omega (arith, block_length h t))
