-- The rows of the table and the form: what a row's kind says, the rows one after the other, and that all rows fit exactly when the tree in the table is of the form. Assumes nothing.
use mathlib.Core.Path.{◌≡◌, refl, sym, ◌∙◌, ap, ap₂, subst, subst⁻¹}
use mathlib.Core.Bool.{Bool, true, false, not, cond, ◌&&◌}
use mathlib.Core.List.{List}
use Prim.Native.Nat.{ℕ, zero, suc, ◌+◌, ◌≤◌, ◌<◌}
use native.Mathlib.Nat.{zero-add}
use native.Mathlib.Decide.{dec_lt, ℕ_discrete}
use native.Mathlib.Omega.{arith}
use lib.Dec.{T, eqb, ltb}
use lib.ListN.{get_or}
use borrow.Author.Tests.{lt-ltb, le-ltb}
use Rattle.sets.proofs.Members.{is_false, of_true, of_false, same, and_in, and_left, and_right}
use Rattle.rules.specs.Statements.{Stmt, nothing, pause, emit, present?◌then◌else◌, suspend◌on◌, ◌⨾◌, loop, ◌parallel◌, trap, exit, local, numbered}
use Rattle.rules.proofs.Preorder.{some_statement}
use Rattle.tables.specs.Table.{Has, kind_of, statements}
use Rattle.tables.specs.declared.Table.{Table}
use Rattle.tables.proofs.Places.{has_row, at_number}
use Rattle.forms.specs.Forms.{At}
use Rattle.mazes.specs.Mazes.{is_nothing, of_form}
use Rattle.mazes.specs.Fitting.{one_alone, neither, fits}
use Rattle.mazes.proofs.Standing.{not_nothing}
use Rattle.mazes.proofs.Forms.{of_form_is, is_of_form, fitting, all_fit}
use Rattle.maze.specs.Rows.{nothing_at, second_of, row_fits, all_fit_to, rows_fit}

pub second_is : (ns : List ℕ) (i r : ℕ) → (i + 1 < 512 → r ≡ i + 1 + get_or ns (i + 1) 0) → (512 ≤ i + 1 → r ≡ i + 1) → r ≡ second_of ns i
unfolding second_of
second_is ns i r f g = go (dec_lt (i + 1) 512)
  where
    go : Dec (i + 1 < 512) → r ≡ cond (ltb (i + 1) 512) (i + 1 + get_or ns (i + 1) 0) (i + 1)
    go (yes l) = f l ∙ ap (λ (z : Bool). cond z (i + 1 + get_or ns (i + 1) 0) (i + 1)) (sym (lt-ltb (i + 1) 512 l))
    go (no l) = g (omega arith) ∙ ap (λ (z : Bool). cond z (i + 1 + get_or ns (i + 1) 0) (i + 1)) (sym (le-ltb (i + 1) 512 (omega arith)))

-- A row by its kind.
module _ (ks ns : List ℕ) (i : ℕ) where
  abbrev by_kind : ℕ → Bool
  by_kind k =
      cond (eqb k 16) true
      (cond (eqb k 18) true
      (cond (eqb k 19) (one_alone (nothing_at ks (i + 1)) (nothing_at ks (second_of ns i)))
      (cond (eqb k 23) (neither (nothing_at ks (i + 1)) (nothing_at ks (second_of ns i))) false)))

  pub a_nothing : get_or ks i 0 ≡ 16 → true ≡ row_fits ks ns i
  unfolding row_fits
  a_nothing e = ap by_kind (sym e)

  pub an_emit_row : get_or ks i 0 ≡ 18 → true ≡ row_fits ks ns i
  unfolding row_fits
  an_emit_row e = ap by_kind (sym e)

  module _ {x y : Bool} {s : ℕ} (dx : x ≡ nothing_at ks (i + 1)) (dy : y ≡ nothing_at ks s) (ds : s ≡ second_of ns i) where
    its_second : y ≡ nothing_at ks (second_of ns i)
    its_second = dy ∙ ap (nothing_at ks) ds

    pub a_present : {r : Bool} → get_or ks i 0 ≡ 19 → r ≡ one_alone x y → r ≡ row_fits ks ns i
    unfolding row_fits
    a_present e d = d ∙ ap₂ one_alone dx its_second ∙ ap by_kind (sym e)

    pub a_parallel_row : {r : Bool} → get_or ks i 0 ≡ 23 → r ≡ neither x y → r ≡ row_fits ks ns i
    unfolding row_fits
    a_parallel_row e d = d ∙ ap₂ neither dx its_second ∙ ap by_kind (sym e)

-- One row more.
module _ (ks ns : List ℕ) where
  pub none_yet : true ≡ all_fit_to ks ns 0
  unfolding all_fit_to
  none_yet = refl

  one_row_more : (n : ℕ) → all_fit_to ks ns n ≡ true → row_fits ks ns n ≡ true → all_fit_to ks ns (suc n) ≡ true
  unfolding all_fit_to
  one_row_more n e f = ap₂ (λ (x y : Bool). x && y) e f

  pub one_more : (n : ℕ) {x : Bool} → all_fit_to ks ns n ≡ true → x ≡ row_fits ks ns n → x ≡ true → all_fit_to ks ns (n + 1) ≡ true
  one_more n e d t = subst⁻¹ (λ (m : ℕ). all_fit_to ks ns m ≡ true) (next n) (one_row_more n e (sym d ∙ t))
    where
      next : (n : ℕ) → n + 1 ≡ suc n
      next n = omega arith

  pub one_not : (n i : ℕ) → i < n → row_fits ks ns i ≡ false → all_fit_to ks ns n ≡ false
  unfolding all_fit_to
  one_not zero i l e = absurd (omega arith)
  one_not (suc n) i l e = go (ℕ_discrete i n) (λ k. one_not n i k e)
    where
      go : Dec (i ≡ n) → (i < n → all_fit_to ks ns n ≡ false) → (all_fit_to ks ns n && row_fits ks ns n) ≡ false
      go (yes d) f = is_false (all_fit_to ks ns n && row_fits ks ns n) (λ t. of_false (ap (row_fits ks ns) (sym d) ∙ e) (and_right (all_fit_to ks ns n) (row_fits ks ns n) t))
      go (no d) f = is_false (all_fit_to ks ns n && row_fits ks ns n) (λ t. of_false (f (omega arith)) (and_left (all_fit_to ks ns n) (row_fits ks ns n) t))

  pub each_row : (n : ℕ) → T (all_fit_to ks ns n) → (i : ℕ) → i < n → T (row_fits ks ns i)
  each_row n t i l = of_true (go (row_fits ks ns i) refl)
    where
      go : (z : Bool) → row_fits ks ns i ≡ z → row_fits ks ns i ≡ true
      go true e = e
      go false e = absurd (of_false (one_not n i l e) t)

  pub every_row : (n : ℕ) → ((i : ℕ) → i < n → T (row_fits ks ns i)) → T (all_fit_to ks ns n)
  unfolding all_fit_to
  every_row zero f = tt
  every_row (suc n) f = and_in (all_fit_to ks ns n) (row_fits ks ns n) (every_row n (λ i l. f i (omega arith))) (f n (omega arith))

  -- The loop's ends.
  pub all_rows : {x : Bool} (n i : ℕ) → x ≡ nothing_at ks 0 → x ≡ false → all_fit_to ks ns i ≡ true → i ≡ n → true ≡ rows_fit ks ns n
  unfolding rows_fit
  all_rows n i d e f q = sym (ap₂ (λ (x y : Bool). not x && y) (sym d ∙ e) (ap (all_fit_to ks ns) (sym q) ∙ f))

  pub bad_root : {x : Bool} (n : ℕ) → x ≡ nothing_at ks 0 → x ≡ true → false ≡ rows_fit ks ns n
  unfolding rows_fit
  bad_root n d e = sym (ap (λ (x : Bool). not x && all_fit_to ks ns n) (sym d ∙ e))

  pub bad_row : {x y : Bool} (n i : ℕ) → x ≡ nothing_at ks 0 → x ≡ false → i < n → y ≡ row_fits ks ns i → y ≡ false → false ≡ rows_fit ks ns n
  unfolding rows_fit
  bad_row n i d e l q f = sym (ap₂ (λ (x y : Bool). not x && y) (sym d ∙ e) (one_not n i l (sym q ∙ f)))

-- The rows of a tree that stands in the table.
kind_nothing : (t : Stmt) → eqb (kind_of t) 16 ≡ is_nothing t
unfolding kind_of
kind_nothing nothing = refl
kind_nothing (pause n) = refl
kind_nothing (emit s) = refl
kind_nothing (present? s then p else q) = refl
kind_nothing (suspend p on s) = refl
kind_nothing (p ⨾ q) = refl
kind_nothing (loop p) = refl
kind_nothing (p parallel q) = refl
kind_nothing (trap p) = refl
kind_nothing (exit d) = refl
kind_nothing (local s p) = refl

module _ (tab : Table) where
  pub nothing_is : (j : ℕ) (p : Stmt) → Has tab j p → j < 512 → nothing_at tab.kinds j ≡ is_nothing p
  unfolding nothing_at
  nothing_is j p h l = ap₂ (λ (x : Bool) (k : ℕ). x && eqb k 16) (lt-ltb j 512 l) (has_row p h).its_kind ∙ kind_nothing p

  pub second_there : (i : ℕ) (p : Stmt) → Has tab (i + 1) p → i + 1 < 512 → second_of tab.sizes i ≡ i + 1 + statements p
  unfolding second_of
  second_there i p h l =
      ap₂ (λ (z : Bool) (n : ℕ). cond z (i + 1 + n) (i + 1)) (lt-ltb (i + 1) 512 l) (has_row p h).its_size

  module _ (i : ℕ) (p q : Stmt) (hp : Has tab (i + 1) p) (hq : Has tab (i + 1 + statements p) q) (l : i + (1 + statements p + statements q) ≤ 512) where
    its_first : nothing_at tab.kinds (i + 1) ≡ is_nothing p
    its_first = nothing_is (i + 1) p hp (omega (arith, some_statement p, some_statement q))

    pub its_other : nothing_at tab.kinds (second_of tab.sizes i) ≡ is_nothing q
    its_other =
        ap (nothing_at tab.kinds) (second_there i p hp (omega (arith, some_statement p, some_statement q)))
        ∙ nothing_is (i + 1 + statements p) q hq (omega (arith, some_statement p, some_statement q))

  row_is : (i : ℕ) (p : Stmt) → Has tab i p → i + statements p ≤ 512 → row_fits tab.kinds tab.sizes i ≡ fits p
  unfolding row_fits kind_of fits Has statements
  row_is i nothing h l = ap (by_kind tab.kinds tab.sizes i) h.its_kind
  row_is i (pause n) h l = ap (by_kind tab.kinds tab.sizes i) h.its_kind
  row_is i (emit s) h l = ap (by_kind tab.kinds tab.sizes i) h.its_kind
  row_is i (present? s then p else q) h l =
      ap (by_kind tab.kinds tab.sizes i) h.0.its_kind ∙ ap₂ one_alone (its_first i p q h.1 h.2 l) (its_other i p q h.1 h.2 l)
  row_is i (suspend p on s) h l = ap (by_kind tab.kinds tab.sizes i) h.0.its_kind
  row_is i (p ⨾ q) h l = ap (by_kind tab.kinds tab.sizes i) h.0.its_kind
  row_is i (loop p) h l = ap (by_kind tab.kinds tab.sizes i) h.0.its_kind
  row_is i (p parallel q) h l =
      ap (by_kind tab.kinds tab.sizes i) h.0.its_kind ∙ ap₂ neither (its_first i p q h.1 h.2 l) (its_other i p q h.1 h.2 l)
  row_is i (trap p) h l = ap (by_kind tab.kinds tab.sizes i) h.0.its_kind
  row_is i (exit d) h l = ap (by_kind tab.kinds tab.sizes i) h.its_kind
  row_is i (local s p) h l = ap (by_kind tab.kinds tab.sizes i) h.0.its_kind

  -- All rows fit, and the root is not nothing, exactly where the tree is of the form.
  module _ (body : Stmt) (a : At tab 0 body) where
    row_there : (m : ℕ) → m < statements body → row_fits tab.kinds tab.sizes m ≡ fits (numbered body m)
    row_there m l =
        let p = at_number 0 body a.has a.small m l in
        row_is m (numbered body m) (subst (λ (j : ℕ). Has tab j (numbered body m)) (zero-add m) p.has) (omega (arith, p.within, a.room))

    root_there : nothing_at tab.kinds 0 ≡ is_nothing body
    root_there = nothing_is 0 body a.has (omega arith)

    forth : T (rows_fit tab.kinds tab.sizes (statements body)) → T (of_form body)
    unfolding rows_fit
    forth t =
        let x = nothing_at tab.kinds 0 in
        let y = all_fit_to tab.kinds tab.sizes (statements body) in
        is_of_form (fitting body (not_so (is_nothing body) (subst (λ (z : Bool). T (not z)) root_there (and_left (not x) y t)))
        (record { at = λ m l. subst T (row_there m l) (each_row tab.kinds tab.sizes (statements body) (and_right (not x) y t) m l) }))
      where
        not_so : (z : Bool) → T (not z) → z ≡ false
        not_so true u = absurd u
        not_so false u = refl

    back : T (of_form body) → T (rows_fit tab.kinds tab.sizes (statements body))
    unfolding rows_fit
    back t =
        let f = of_form_is body t in
        and_in (not (nothing_at tab.kinds 0)) (all_fit_to tab.kinds tab.sizes (statements body))
        (of_true (ap not (root_there ∙ not_nothing f)))
        (every_row tab.kinds tab.sizes (statements body) (λ m l. subst⁻¹ T (row_there m l) ((all_fit f).at m l)))

    pub rows_are : {n : ℕ} {x : Bool} → n ≡ statements body → x ≡ rows_fit tab.kinds tab.sizes n → x ≡ of_form body
    rows_are {n} e d =
        d ∙ ap (rows_fit tab.kinds tab.sizes) e ∙ same (rows_fit tab.kinds tab.sizes (statements body)) (of_form body) forth back
