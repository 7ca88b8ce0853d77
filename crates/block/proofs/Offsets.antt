-- Where the records of a tree lie: one offset after the other, and the part that a statement and all below it take.
use mathlib.Core.Path.{◌≡◌, refl, sym, ◌∙◌, ap, subst}
use mathlib.Core.Logic.{⊎_elim}
use mathlib.Core.List.{List, [], ◌∷◌}
use Rattle.std.specs.Prelude.{Option}
use Prim.Native.Nat.{ℕ, ◌+◌, ◌*◌, ◌≤◌, ◌<◌}
use native.Mathlib.Nat.{zero-add}
use native.Mathlib.Numerals.{add-one}
use native.Mathlib.Omega.{arith}
use lib.Dec.{lit≤}
use lib.ListN.{length, get_or, take, drop, length-drop, take-append-drop}
use lib.Seq.{take-suc, take-add, take_all, get_or-take, get_or-drop, ext_get_or, length-take-le}
use Rattle.rules.specs.Statements.{Stmt, nothing}
use Rattle.tables.specs.Table.{Has, kind_of, statements}
use Rattle.tables.specs.declared.Table.{Table}
use Rattle.block.specs.Format.{preorder, numbered, bytes, offset}
use Rattle.tables.specs.declared.kinds.Shape.{Shape}
use Rattle.tables.specs.Kinds.{of_shape, length_of}
use Rattle.tables.specs.Codes.{Tabled, Listed}
use Rattle.block.proofs.Views.{shape?, known_length}
use Rattle.block.proofs.Built.{bytes_append}
use Rattle.tables.proofs.Places.{At, at_number, has_row, all_counted}

pub length_small : (k : ℕ) → length_of k ≤ 6
unfolding length_of
length_small k = ⊎_elim (λ v. (known_length v).1) (λ e. subst (λ (s : Option Shape). of_shape (λ s. s.length) s ≤ 6) (sym e) (lit≤ tt)) (shape? k)

-- A table's kinds are those of the tree that it has.
pub tabled_listed : {tab : Table} {count : ℕ} (t : Stmt) → Tabled tab count t → Listed tab.kinds t
unfolding Listed
tabled_listed {tab} t h i l =
    let a = at_number 0 t h.has h.small i l in
    (has_row (numbered t i) (subst (λ (j : ℕ). Has tab j (numbered t i)) (zero-add i) a.has)).its_kind

pub offset_zero : (t : Stmt) → offset t 0 ≡ 14
unfolding offset bytes
offset_zero t = refl

pub offset_step : (t : Stmt) (i : ℕ) → i < statements t → offset t (i + 1) ≡ offset t i + length_of (kind_of (numbered t i))
unfolding offset bytes
offset_step t i l =
    let e : bytes (take (i + 1) (preorder t)) ≡ bytes (take i (preorder t)) + (length_of (kind_of (numbered t i)) + 0) =
    ap (λ (n : ℕ). bytes (take n (preorder t))) (add-one i) ∙ ap bytes (take-suc (preorder t) i nothing (omega (arith, all_counted t)))
    ∙ bytes_append (take i (preorder t)) (numbered t i ∷ []) in
    omega (arith, e)

pub offset_end : (t : Stmt) → offset t (statements t) ≡ 14 + bytes (preorder t)
unfolding offset
offset_end t = ap (λ (ps : List Stmt). 14 + bytes ps) (take_all (statements t) (preorder t) (omega (arith, all_counted t)))

pub offset_most : (t : Stmt) (i : ℕ) → offset t i ≤ 14 + bytes (preorder t)
unfolding offset
offset_most t i =
    let e : bytes (preorder t) ≡ bytes (take i (preorder t)) + bytes (drop i (preorder t)) =
    ap bytes (sym (take-append-drop i (preorder t))) ∙ bytes_append (take i (preorder t)) (drop i (preorder t)) in
    omega (arith, e)

-- A statement and all below it are in a row.
pub below_in_row : {tab : Table} (t : Stmt) (n : ℕ) → At tab 0 t n → take (statements (numbered t n)) (drop n (preorder t)) ≡ preorder (numbered t n)
below_in_row t n a =
    let p = numbered t n in
    let l : length (take (statements p) (drop n (preorder t))) ≡ statements p =
    length-take-le (statements p) (drop n (preorder t)) (omega (arith, length-drop n (preorder t), all_counted t, a.within)) in
    ext_get_or nothing (take (statements p) (drop n (preorder t))) (preorder p) (l ∙ sym (all_counted p))
    (λ m k.
    let k₁ : m < statements p = omega (arith, l) in
    get_or-take (statements p) (drop n (preorder t)) m nothing k₁ ∙ get_or-drop n (preorder t) m nothing ∙ a.below m k₁)

pub offset_below : {tab : Table} (t : Stmt) (n : ℕ) → At tab 0 t n → offset t (n + statements (numbered t n)) ≡ offset t n + bytes (preorder (numbered t n))
unfolding offset
offset_below t n a =
    let p = numbered t n in
    let e : bytes (take (n + statements p) (preorder t)) ≡ bytes (take n (preorder t)) + bytes (preorder p) =
    ap bytes (take-add n (statements p) (preorder t)) ∙ bytes_append (take n (preorder t)) (take (statements p) (drop n (preorder t)))
    ∙ ap (λ (ps : List Stmt). bytes (take n (preorder t)) + bytes ps) (below_in_row t n a) in
    omega (arith, e)

-- The offset so far, over the kinds of the table.
pub record Summed (ks : List ℕ) (n at i : ℕ) : Type 0 where
  pub within : i ≤ n
  pub bound : at ≤ 14 + 6 * i
  pub so_far : (t : Stmt) → Listed ks t → n ≤ statements t → at ≡ offset t i

pub summed_start : (ks : List ℕ) (n : ℕ) → Summed ks n 14 0
summed_start ks n = record { within = omega arith; bound = omega arith; so_far = λ t h l. sym (offset_zero t) }

pub summed_step : {ks : List ℕ} {n at i k : ℕ} → Summed ks n at i → i < n → k ≡ length_of (get_or ks i 0) → Summed ks n (at + k) (i + 1)
unfolding Listed
summed_step {ks} {n} {at} {i} {k} s l e = record {
  within = omega arith;
  bound = omega (arith, s.bound, e, length_small (get_or ks i 0));
  so_far = λ t h m.
      let q : k ≡ length_of (kind_of (numbered t i)) = e ∙ ap length_of (h i (omega arith)) in
      omega (arith, s.so_far t h m, q, offset_step t i (omega arith));
}

pub ends : {ks : List ℕ} {n at i : ℕ} → Summed ks n at i → n ≤ i → (t : Stmt) → Listed ks t → n ≤ statements t → at ≡ offset t n
ends {i = i} s l t h m = s.so_far t h m ∙ ap (λ (j : ℕ). offset t j) (omega (arith, s.within))
