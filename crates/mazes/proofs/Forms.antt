-- The form as a test and row by row: a tree is of the form exactly when it is not nothing and each of its statements fits its children. By induction on the tree, whose
-- statements are the root's and then each child's. Assumes nothing.
use mathlib.Core.Path.{◌≡◌, refl, sym, ◌∙◌, ap, ap₂, subst, subst⁻¹}
use mathlib.Core.Logic.{◌⊎◌, inl, inr}
use mathlib.Core.Bool.{Bool, true, false, not, ◌&&◌, ◌||◌}
use mathlib.Core.List.{List, ◌∷◌, ◌++◌}
use Prim.Native.Nat.{ℕ, zero, suc, ◌+◌, ◌-◌, ◌<◌}
use native.Mathlib.Decide.{dec_lt}
use native.Mathlib.Omega.{arith}
use lib.Dec.{T}
use Rattle.sets.proofs.Members.{is_true, of_true, and_in, and_left, and_right, or_left, or_right, or_out}
use Rattle.rules.specs.Statements.{Stmt, nothing, pause, emit, present?◌then◌else◌, suspend◌on◌, ◌⨾◌, loop, ◌parallel◌, trap, exit, local, statements, preorder, numbered}
use Rattle.rules.proofs.Preorder.{first_is, some_statement, first_child, second_child}
use Rattle.mazes.specs.Mazes.{OfForm, an_emit, with_then, with_else, a_parallel, is_nothing, of_form}
use Rattle.mazes.specs.Fitting.{one_alone, neither, fits}
use Rattle.mazes.proofs.Standing.{not_nothing}

is_nothing_is : (p : Stmt) → T (is_nothing p) → p ≡ nothing
is_nothing_is nothing t = refl
is_nothing_is (pause n) t = absurd t
is_nothing_is (emit s) t = absurd t
is_nothing_is (present? s then p else q) t = absurd t
is_nothing_is (suspend p on s) t = absurd t
is_nothing_is (p ⨾ q) t = absurd t
is_nothing_is (loop p) t = absurd t
is_nothing_is (p parallel q) t = absurd t
is_nothing_is (trap p) t = absurd t
is_nothing_is (exit d) t = absurd t
is_nothing_is (local s p) t = absurd t

-- The test says what the form says.
pub of_form_is : (p : Stmt) → T (of_form p) → OfForm p
unfolding of_form
of_form_is nothing t = absurd t
of_form_is (pause n) t = absurd t
of_form_is (emit s) t = an_emit s
of_form_is (present? s then p else q) t = go (of_form_is p) (of_form_is q) (or_out (of_form p && is_nothing q) (is_nothing p && of_form q) t)
  where
    go : (T (of_form p) → OfForm p) → (T (of_form q) → OfForm q) → T (of_form p && is_nothing q) ⊎ T (is_nothing p && of_form q) → OfForm (present? s then p else q)
    go f g (inl u) =
        subst⁻¹ (λ (r : Stmt). OfForm (present? s then p else r)) (is_nothing_is q (and_right (of_form p) (is_nothing q) u)) (with_then s (f (and_left (of_form p) (is_nothing q) u)))
    go f g (inr u) =
        subst⁻¹ (λ (r : Stmt). OfForm (present? s then r else q)) (is_nothing_is p (and_left (is_nothing p) (of_form q) u)) (with_else s (g (and_right (is_nothing p) (of_form q) u)))
of_form_is (suspend p on s) t = absurd t
of_form_is (p ⨾ q) t = absurd t
of_form_is (loop p) t = absurd t
of_form_is (p parallel q) t = a_parallel (of_form_is p (and_left (of_form p) (of_form q) t)) (of_form_is q (and_right (of_form p) (of_form q) t))
of_form_is (trap p) t = absurd t
of_form_is (exit d) t = absurd t
of_form_is (local s p) t = absurd t

pub is_of_form : {p : Stmt} → OfForm p → T (of_form p)
unfolding of_form
is_of_form (an_emit s) = tt
is_of_form (with_then s {p} f) = or_left (of_form p && true) (is_nothing p && false) (and_in (of_form p) true (is_of_form f) tt)
is_of_form (with_else s {q} f) = or_right (false && is_nothing q) (of_form q) (is_of_form f)
is_of_form (a_parallel {p} {q} f g) = and_in (of_form p) (of_form q) (is_of_form f) (is_of_form g)

pub record AllFit (p : Stmt) : Type 0 where
  pub at : (m : ℕ) → m < statements p → T (fits (numbered p m))

module _ (t p q : Stmt) (e : preorder t ≡ t ∷ preorder p ++ preorder q) (n : statements t ≡ 1 + statements p + statements q) where
  itself_fits : AllFit t → T (fits t)
  itself_fits f = subst (λ (u : Stmt). T (fits u)) (first_is t) (f.at 0 (some_statement t))

  first_fits : AllFit t → AllFit p
  first_fits f = record { at = λ m l. subst (λ (u : Stmt). T (fits u)) (first_child t p q e m l) (f.at (1 + m) (omega (arith, n))) }

  second_fits : AllFit t → AllFit q
  second_fits f = record { at = λ m l. subst (λ (u : Stmt). T (fits u)) (second_child t p q e m) (f.at (1 + statements p + m) (omega (arith, n))) }

  both_fit : T (fits t) → AllFit p → AllFit q → AllFit t
  both_fit f g h = record { at = λ m l. go m l (dec_lt m 1) (dec_lt m (1 + statements p)) }
    where
      go : (m : ℕ) → m < statements t → Dec (m < 1) → Dec (m < 1 + statements p) → T (fits (numbered t m))
      go m l (yes k) d = subst⁻¹ (λ (j : ℕ). T (fits (numbered t j))) (zero_only m k) (subst⁻¹ (λ (u : Stmt). T (fits u)) (first_is t) f)
        where
          zero_only : (j : ℕ) → j < 1 → j ≡ 0
          zero_only j k = omega arith
      go m l (no k) (yes d) =
          let a : 1 + (m - 1) ≡ m = omega arith in
          subst (λ (j : ℕ). T (fits (numbered t j))) a
          (subst⁻¹ (λ (u : Stmt). T (fits u)) (first_child t p q e (m - 1) (omega arith)) (g.at (m - 1) (omega arith)))
      go m l (no k) (no d) =
          let a : 1 + statements p + (m - (1 + statements p)) ≡ m = omega arith in
          subst (λ (j : ℕ). T (fits (numbered t j))) a
          (subst⁻¹ (λ (u : Stmt). T (fits u)) (second_child t p q e (m - (1 + statements p))) (h.at (m - (1 + statements p)) (omega (arith, n))))

alone_out : (x y : Bool) → T (one_alone x y) → ((x ≡ false) × T y) ⊎ (T x × (y ≡ false))
alone_out true true t = absurd t
alone_out true false t = inr (tt, refl)
alone_out false true t = inl (refl, tt)
alone_out false false t = absurd t

neither_out : (x y : Bool) → T (neither x y) → (x ≡ false) × (y ≡ false)
neither_out true y t = absurd t
neither_out false true t = absurd t
neither_out false false t = (refl, refl)

-- All fit, and the root is not nothing: the tree is of the form.
pub fitting : (p : Stmt) → is_nothing p ≡ false → AllFit p → OfForm p
unfolding preorder statements fits
fitting nothing e f = let z : ◌≡◌ {A = ℕ} 0 1 = cc in absurd (omega arith)
fitting (pause n) e f = absurd (f.at 0 (omega arith))
fitting (emit s) e f = an_emit s
fitting (present? s then p else q) e f =
    go (λ x. fitting p x (first_fits (present? s then p else q) p q refl refl f)) (λ x. fitting q x (second_fits (present? s then p else q) p q refl refl f))
    (alone_out (is_nothing p) (is_nothing q) (itself_fits (present? s then p else q) p q refl refl f))
  where
    go : (is_nothing p ≡ false → OfForm p) → (is_nothing q ≡ false → OfForm q) → ((is_nothing p ≡ false) × T (is_nothing q)) ⊎ (T (is_nothing p) × (is_nothing q ≡ false))
        → OfForm (present? s then p else q)
    go f g (inl u) = subst⁻¹ (λ (r : Stmt). OfForm (present? s then p else r)) (is_nothing_is q u.1) (with_then s (f u.0))
    go f g (inr u) = subst⁻¹ (λ (r : Stmt). OfForm (present? s then r else q)) (is_nothing_is p u.0) (with_else s (g u.1))
fitting (suspend p on s) e f = absurd (f.at 0 (omega arith))
fitting (p ⨾ q) e f = absurd (f.at 0 (omega arith))
fitting (loop p) e f = absurd (f.at 0 (omega arith))
fitting (p parallel q) e f =
    let u = neither_out (is_nothing p) (is_nothing q) (itself_fits (p parallel q) p q refl refl f) in
    a_parallel (fitting p u.0 (first_fits (p parallel q) p q refl refl f)) (fitting q u.1 (second_fits (p parallel q) p q refl refl f))
fitting (trap p) e f = absurd (f.at 0 (omega arith))
fitting (exit d) e f = absurd (f.at 0 (omega arith))
fitting (local s p) e f = absurd (f.at 0 (omega arith))

-- And the other way round.
alone_in : (x y : Bool) → x ≡ false → y ≡ true → T (one_alone x y)
alone_in true y d e = let z : ◌≡◌ {A = ℕ} 0 1 = cc in absurd (omega arith)
alone_in false true d e = tt
alone_in false false d e = let z : ◌≡◌ {A = ℕ} 0 1 = cc in absurd (omega arith)

alone_in_2 : (y : Bool) → y ≡ false → T (one_alone true y)
alone_in_2 true e = let z : ◌≡◌ {A = ℕ} 0 1 = cc in absurd (omega arith)
alone_in_2 false e = tt

neither_in : (x y : Bool) → x ≡ false → y ≡ false → T (neither x y)
neither_in true y d e = let z : ◌≡◌ {A = ℕ} 0 1 = cc in absurd (omega arith)
neither_in false true d e = let z : ◌≡◌ {A = ℕ} 0 1 = cc in absurd (omega arith)
neither_in false false d e = tt

leaf_fits : (p : Stmt) → statements p ≡ 1 → T (fits p) → AllFit p
leaf_fits p n f = record { at = λ m l. go m (omega (arith, n)) }
  where
    go : (m : ℕ) → m ≡ 0 → T (fits (numbered p m))
    go m e = subst⁻¹ (λ (j : ℕ). T (fits (numbered p j))) e (subst⁻¹ (λ (u : Stmt). T (fits u)) (first_is p) f)

pub all_fit : {p : Stmt} → OfForm p → AllFit p
unfolding preorder statements fits
all_fit (an_emit s) = leaf_fits (emit s) refl tt
all_fit (with_then s {p} f) =
    both_fit (present? s then p else nothing) p nothing refl refl (alone_in (is_nothing p) true (not_nothing f) refl) (all_fit f) (leaf_fits nothing refl tt)
all_fit (with_else s {q} f) =
    both_fit (present? s then nothing else q) nothing q refl refl (alone_in_2 (is_nothing q) (not_nothing f)) (leaf_fits nothing refl tt) (all_fit f)
all_fit (a_parallel {p} {q} f g) =
    both_fit (p parallel q) p q refl refl (neither_in (is_nothing p) (is_nothing q) (not_nothing f) (not_nothing g)) (all_fit f) (all_fit g)
