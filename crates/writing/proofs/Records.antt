-- A record's bytes in a block: what is read where they stand, and that a record that passes is made of them. Two bytes hold a
-- number below 65,536, and no other two bytes hold it. Assumes nothing.
use mathlib.Core.Path.{◌≡◌, refl, sym, ap, ap₂, ◌∙◌}
use mathlib.Core.Logic.{⊎_elim}
use mathlib.Core.List.{List, [], ◌∷◌, ◌++◌, append_assoc}
use Rattle.std.specs.Prelude.{Option}
use Prim.Native.Nat.{ℕ, suc, ◌+◌, ◌/◌, ◌%◌, ◌≤◌, ◌<◌}
use native.Mathlib.Nat.{add_assoc, add-zero}
use native.Mathlib.Numerals.{add-one}
use native.Mathlib.Omega.{arith}
use lib.ListN.{length, get_or, drop, length-append, length-drop}
use lib.Seq.{get_or-drop, drop-cons, drop-drop, drop_at}
use Rattle.sets.specs.Numbers.{listed}
use Rattle.rules.specs.Statements.{Stmt}
use Rattle.tables.specs.Table.{kind_of, operand_of}
use Rattle.block.specs.Format.{two_bytes, length_at, kind_at, operand_at, leaf, above, joined, preorder}
use Rattle.tables.specs.declared.kinds.Shape.{Shape}
use Rattle.tables.specs.Kinds.{shape, short, long, of_shape, length_of}
use Rattle.block.proofs.Views.{Leaf, Above, Joined, Kind, leafs, aboves, joins, a_nothing, a_pause, an_emit, an_exit, a_suspend, a_loop, a_trap, a_local, a_present, a_sequence, a_parallel, known}
use Rattle.records.specs.Numerals.{in_bytes, Bytes}
use Rattle.writing.specs.Written.{shaped_bytes, record_bytes, records}

-- The bytes of a list from a place on.
pub byte_there : (b : List ℕ) {l : List ℕ} (at i : ℕ) → drop at b ≡ l → get_or b (at + i) 0 ≡ get_or l i 0
byte_there b at i e = sym (get_or-drop at b i 0) ∙ ap (λ (l : List ℕ). get_or l i 0) e

-- A number of two bytes that stands i bytes on.
pub two_there : (b : List ℕ) {l : List ℕ} (at i : ℕ) {x : ℕ} → drop at b ≡ l → x < 65536 → get_or l i 0 ≡ x % 256 → get_or l (i + 1) 0 ≡ x / 256 % 256
    → two_bytes b (at + i) ≡ x
two_there b at i {x} e h low high =
    let f : get_or b (at + i) 0 ≡ x % 256 = byte_there b at i e ∙ low in
    let g : get_or b (at + i + 1) 0 ≡ x / 256 % 256 = ap (λ (n : ℕ). get_or b n 0) (add_assoc at i 1) ∙ byte_there b at (i + 1) e ∙ high in
    let q : x / 256 < 256 = omega arith in
    let r : x / 256 % 256 ≡ x / 256 = omega arith in
    omega (arith, f, g)

-- And two bytes are those of their number.
pub two_back : (b : List ℕ) (at : ℕ) → Bytes b → in_bytes 2 (two_bytes b at) ≡ get_or b at 0 ∷ get_or b (at + 1) 0 ∷ []
unfolding in_bytes
two_back b at s =
    let l : get_or b at 0 < 256 = s.byte at in
    let h : get_or b (at + 1) 0 < 256 = s.byte (at + 1) in
    let q : two_bytes b at / 256 ≡ get_or b (at + 1) 0 = omega arith in
    let low : two_bytes b at % 256 ≡ get_or b at 0 = omega arith in
    let high : two_bytes b at / 256 % 256 ≡ get_or b (at + 1) 0 = ap (λ (n : ℕ). n % 256) q ∙ small h in
    λ i. low i ∷ high i ∷ []
  where
    small : {n : ℕ} → n < 256 → n % 256 ≡ n
    small l = omega arith

pub two_small : (b : List ℕ) (at : ℕ) → Bytes b → two_bytes b at < 65536
two_small b at s = omega (arith, s.byte at, s.byte (at + 1))

-- The records of a tree: its own, then those of its children.
pub records_append : (ps qs : List Stmt) → records (ps ++ qs) ≡ records ps ++ records qs
unfolding records
records_append [] qs = refl
records_append (p ∷ ps) qs = ap (λ (l : List ℕ). record_bytes (kind_of p) (operand_of p) ++ l) (records_append ps qs) ∙ sym
    (append_assoc (record_bytes (kind_of p) (operand_of p)) (records ps) (records qs))

pub leaf_records : {k : ℕ} (x n : ℕ) → Leaf k → records (preorder (leaf k x n)) ≡ record_bytes k x ++ []
unfolding records shaped_bytes shape listed preorder leaf kind_of operand_of
leaf_records x n a_nothing = refl
leaf_records x n a_pause = refl
leaf_records x n an_emit = refl
leaf_records x n an_exit = refl

pub above_records : {k : ℕ} (x : ℕ) (p : Stmt) → Above k → records (preorder (above k x p)) ≡ record_bytes k x ++ records (preorder p)
unfolding records shaped_bytes shape listed preorder above kind_of operand_of
above_records x p a_suspend = refl
above_records x p a_loop = refl
above_records x p a_trap = refl
above_records x p a_local = refl

pub joined_records : {k : ℕ} (x : ℕ) (p q : Stmt) → Joined k
    → records (preorder (joined k x p q)) ≡ record_bytes k x ++ (records (preorder p) ++ records (preorder q))
unfolding records shaped_bytes shape listed preorder joined kind_of operand_of
joined_records x p q a_present = ap (λ (l : List ℕ). record_bytes 19 x ++ l) (records_append (preorder p) (preorder q))
joined_records x p q a_sequence = ap (λ (l : List ℕ). record_bytes 21 x ++ l) (records_append (preorder p) (preorder q))
joined_records x p q a_parallel = ap (λ (l : List ℕ). record_bytes 23 x ++ l) (records_append (preorder p) (preorder q))

kind_small : {k : ℕ} → Kind k → k < 65536
kind_small (leafs a_nothing) = omega arith
kind_small (leafs a_pause) = omega arith
kind_small (leafs an_emit) = omega arith
kind_small (leafs an_exit) = omega arith
kind_small (aboves a_suspend) = omega arith
kind_small (aboves a_loop) = omega arith
kind_small (aboves a_trap) = omega arith
kind_small (aboves a_local) = omega arith
kind_small (joins a_present) = omega arith
kind_small (joins a_sequence) = omega arith
kind_small (joins a_parallel) = omega arith

-- A record of kind k stands at a place, and the rest after it.
pub record RecordAt (b : List ℕ) (at k : ℕ) (rest : List ℕ) : Type 0 where
  pub its_kind : kind_at b at ≡ k
  pub its_length : length_at b at ≡ length_of k
  pub ends : at + length_of k ≤ length b
  pub after : drop (at + length_of k) b ≡ rest

of_length : (k : ℕ) {n : ℕ} → shape k ≡ short n → length_of k ≡ 4
unfolding length_of
of_length k e = ap (of_shape (λ s. s.length)) e

of_long : (k : ℕ) {n : ℕ} → shape k ≡ long n → length_of k ≡ 6
unfolding length_of
of_long k e = ap (of_shape (λ s. s.length)) e

short_bytes : (k x : ℕ) {n : ℕ} → shape k ≡ short n → record_bytes k x ≡ in_bytes 2 4 ++ in_bytes 2 k
unfolding shaped_bytes in_bytes
short_bytes k x e = ap (λ (s : Option Shape). shaped_bytes k x s) e

long_bytes : (k x : ℕ) {n : ℕ} → shape k ≡ long n → record_bytes k x ≡ in_bytes 2 6 ++ (in_bytes 2 k ++ in_bytes 2 x)
unfolding shaped_bytes in_bytes
long_bytes k x e = ap (λ (s : Option Shape). shaped_bytes k x s) e

-- What stands at a place where some bytes lie, with their length.
pub left_after : (b : List ℕ) (at : ℕ) (u rest : List ℕ) → at ≤ length b → drop at b ≡ u ++ rest → (at + length u ≤ length b) × (drop (at + length u) b ≡ rest)
left_after b at u rest l e =
    let n : length (drop at b) ≡ length u + length rest = ap (λ (l : List ℕ). length l) e ∙ length-append u rest in
    (omega (arith, length-drop at b), sym (drop-drop (length u) at b) ∙ ap (λ (l : List ℕ). drop (length u) l) e ∙ drop_at u rest (length u) refl)

short_at : (b : List ℕ) (at k x : ℕ) {n : ℕ} (rest : List ℕ) → shape k ≡ short n → k < 65536 → at ≤ length b → drop at b ≡ record_bytes k x ++ rest → RecordAt b at k rest
unfolding in_bytes
short_at b at k x rest s small l e =
    let f : drop at b ≡ (in_bytes 2 4 ++ in_bytes 2 k) ++ rest = e ∙ ap (λ (u : List ℕ). u ++ rest) (short_bytes k x s) in
    let a = left_after b at (in_bytes 2 4 ++ in_bytes 2 k) rest l f in
    let size : length_of k ≡ 4 = of_length k s in
    record {
      its_kind = two_there b at 2 f small refl refl;
      its_length = ap (λ (n : ℕ). two_bytes b n) (sym (add-zero at)) ∙ two_there b at 0 {x = 4} f (omega arith) refl refl ∙ sym size;
      ends = omega (arith, a.0);
      after = ap (λ (n : ℕ). drop (at + n) b) size ∙ a.1;
    }

long_at : (b : List ℕ) (at k x : ℕ) {n : ℕ} (rest : List ℕ) → shape k ≡ long n → k < 65536 → at ≤ length b → drop at b ≡ record_bytes k x ++ rest → RecordAt b at k rest
unfolding in_bytes
long_at b at k x rest s small l e =
    let f : drop at b ≡ (in_bytes 2 6 ++ (in_bytes 2 k ++ in_bytes 2 x)) ++ rest = e ∙ ap (λ (u : List ℕ). u ++ rest) (long_bytes k x s) in
    let a = left_after b at (in_bytes 2 6 ++ (in_bytes 2 k ++ in_bytes 2 x)) rest l f in
    let size : length_of k ≡ 6 = of_long k s in
    record {
      its_kind = two_there b at 2 f small refl refl;
      its_length = ap (λ (n : ℕ). two_bytes b n) (sym (add-zero at)) ∙ two_there b at 0 {x = 6} f (omega arith) refl refl ∙ sym size;
      ends = omega (arith, a.0);
      after = ap (λ (n : ℕ). drop (at + n) b) size ∙ a.1;
    }

pub record_at : (b : List ℕ) (at k x : ℕ) (rest : List ℕ) → Kind k → at ≤ length b → drop at b ≡ record_bytes k x ++ rest → RecordAt b at k rest
record_at b at k x rest v l e = ⊎_elim (λ s. short_at b at k x rest s (kind_small v) l e) (λ s. long_at b at k x rest s (kind_small v) l e) (known v)

-- The operand of a kind that has one.
pub operand_there : (b : List ℕ) (at k x : ℕ) {n : ℕ} (rest : List ℕ) → shape k ≡ long n → x < 65536 → drop at b ≡ record_bytes k x ++ rest → operand_at b at ≡ x
unfolding in_bytes
operand_there b at k x rest s small e =
    two_there b at 4 {x = x} (e ∙ ap (λ (u : List ℕ). u ++ rest) (long_bytes k x s)) small refl refl

-- A record that is there, of its kind's length, is made of its kind and operand.
pub next_two : (b : List ℕ) (at : ℕ) → Bytes b → at + 2 ≤ length b → drop at b ≡ in_bytes 2 (two_bytes b at) ++ drop (at + 2) b
unfolding in_bytes
next_two b at s l =
    drop-cons b at 0 (omega arith) ∙ ap (λ (r : List ℕ). get_or b at 0 ∷ r) (drop-cons b (suc at) 0 (omega arith))
    ∙ (λ i. get_or b at 0 ∷ get_or b (sym (add-one at) i) 0 ∷ drop (two i) b)
    ∙ ap (λ (u : List ℕ). u ++ drop (at + 2) b) (sym (two_back b at s))
  where
    two : suc (suc at) ≡ at + 2
    two = omega arith

pub record_back : (b : List ℕ) (at : ℕ) → Bytes b → Kind (kind_at b at) → length_of (kind_at b at) ≡ length_at b at → at + length_of (kind_at b at) ≤ length b
    → drop at b ≡ record_bytes (kind_at b at) (operand_at b at) ++ drop (at + length_of (kind_at b at)) b
record_back b at s v e l = ⊎_elim of_short of_long_one (known v)
  where
    k : ℕ
    k = kind_at b at

    two_two : (n m : ℕ) → at + n + 2 ≡ m → m ≤ length b → drop (at + n) b ≡ in_bytes 2 (two_bytes b (at + n)) ++ drop m b
    two_two n m q h = next_two b (at + n) s (omega arith) ∙ ap (λ (j : ℕ). in_bytes 2 (two_bytes b (at + n)) ++ drop j b) q

    head_is : (n : ℕ) → length_of k ≡ n → 2 ≤ n → drop at b ≡ in_bytes 2 n ++ drop (at + 2) b
    head_is n q h = next_two b at s (omega (arith, l, q)) ∙ ap (λ (m : ℕ). in_bytes 2 m ++ drop (at + 2) b) (sym e ∙ q)

    of_short : {n : ℕ} → shape k ≡ short n → drop at b ≡ record_bytes k (operand_at b at) ++ drop (at + length_of k) b
    of_short q =
        let size = of_length k q in
        head_is 4 size (omega arith) ∙ ap (λ (u : List ℕ). in_bytes 2 4 ++ u) (two_two 2 (at + 4) (omega arith) (omega (arith, l, size)))
        ∙ sym (append_assoc (in_bytes 2 4) (in_bytes 2 k) (drop (at + 4) b))
        ∙ ap₂ (λ (u : List ℕ) (n : ℕ). u ++ drop (at + n) b) (sym (short_bytes k (operand_at b at) q)) (sym size)

    of_long_one : {n : ℕ} → shape k ≡ long n → drop at b ≡ record_bytes k (operand_at b at) ++ drop (at + length_of k) b
    of_long_one q =
        let size = of_long k q in
        let x = operand_at b at in
        head_is 6 size (omega arith) ∙ ap (λ (u : List ℕ). in_bytes 2 6 ++ u)
        (two_two 2 (at + 4) (omega arith) (omega (arith, l, size)) ∙ ap (λ (u : List ℕ). in_bytes 2 k ++ u) (two_two 4 (at + 6) (omega arith) (omega (arith, l, size)))
        ∙ sym (append_assoc (in_bytes 2 k) (in_bytes 2 x) (drop (at + 6) b)))
        ∙ sym (append_assoc (in_bytes 2 6) (in_bytes 2 k ++ in_bytes 2 x) (drop (at + 6) b))
        ∙ ap₂ (λ (u : List ℕ) (n : ℕ). u ++ drop (at + n) b) (sym (long_bytes k x q)) (sym size)

-- How many bytes the records take.
pub length_record : {k : ℕ} (x : ℕ) → Kind k → length (record_bytes k x) ≡ length_of k
unfolding in_bytes
length_record {k} x v =
    ⊎_elim (λ s. ap (λ (l : List ℕ). length l) (short_bytes k x s) ∙ sym (of_length k s))
    (λ s. ap (λ (l : List ℕ). length l) (long_bytes k x s) ∙ sym (of_long k s)) (known v)
