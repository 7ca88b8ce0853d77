-- The form, row by row of the table. Assumes nothing.
use Rattle.std.specs.Prelude.{Bool, true, false, not, cond, ◌&&◌, List, ℕ, zero, suc, ◌+◌, eqb, ltb, get_or}
use Rattle.mazes.specs.Fitting.{one_alone, neither}

-- Row i is a nothing; past the table's end there is none.
unfoldable pub nothing_at : List ℕ → ℕ → Bool
nothing_at ks i = ltb i 512 && eqb (get_or ks i 0) 16

-- The second child's number, after the first child and all below it; past the table there is none.
unfoldable pub second_of : List ℕ → ℕ → ℕ
second_of ns i = cond (ltb (i + 1) 512) (i + 1 + get_or ns (i + 1) 0) (i + 1)

-- A row fits its children.
unfoldable pub row_fits : List ℕ → List ℕ → ℕ → Bool
unfolding nothing_at second_of
row_fits ks ns i =
    cond (eqb (get_or ks i 0) 16) true
    (cond (eqb (get_or ks i 0) 18) true
    (cond (eqb (get_or ks i 0) 19) (one_alone (nothing_at ks (i + 1)) (nothing_at ks (second_of ns i)))
    (cond (eqb (get_or ks i 0) 23) (neither (nothing_at ks (i + 1)) (nothing_at ks (second_of ns i))) false)))

-- So do the first n rows.
unfoldable pub all_fit_to : List ℕ → List ℕ → ℕ → Bool
unfolding row_fits
all_fit_to ks ns zero = true
all_fit_to ks ns (suc n) = all_fit_to ks ns n && row_fits ks ns n

unfoldable pub rows_fit : List ℕ → List ℕ → ℕ → Bool
unfolding nothing_at all_fit_to
rows_fit ks ns n = not (nothing_at ks 0) && all_fit_to ks ns n
