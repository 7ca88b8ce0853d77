-- The levels in the array: one stored above the others leaves those as they are. Assumes nothing.
use mathlib.Core.Path.{◌≡◌, refl, ap, ap₂, ◌∙◌}
use mathlib.Core.List.{List, ◌∷◌}
use Prim.Native.Nat.{ℕ, zero, suc, ◌+◌, ◌≤◌, ◌<◌}
use native.Mathlib.Omega.{arith}
use lib.ListN.{length, set}
use lib.Seq.{get_or-set_same, get_or-set_other}
use Rattle.read_steps.specs.Levels.{outermost, level_in, levels_in}
use Rattle.read_steps.specs.declared.levels.Level.{Level}

pub levels_count : (levels : List Level) (n : ℕ) → length (levels_in levels n) ≡ n
unfolding levels_in
levels_count levels zero = refl
levels_count levels (suc n) = ap suc (levels_count levels n)

pub one_level_more : (levels : List Level) (i : ℕ) → levels_in levels (i + 1) ≡ level_in levels i ∷ levels_in levels i
unfolding levels_in
one_level_more levels i = let e : i + 1 ≡ suc i = omega arith in ap (levels_in levels) e

kept_below : (levels : List Level) (i : ℕ) (l : Level) (n : ℕ) → n ≤ i → levels_in (set levels i l) n ≡ levels_in levels n
unfolding levels_in
kept_below levels i l zero h = refl
kept_below levels i l (suc n) h =
    ap₂ (λ (m : Level) (ms : List Level). m ∷ ms) (get_or-set_other levels i n l outermost (λ e. omega (arith, e, h))) (kept_below levels i l n (omega (arith, h)))

pub stored : (levels : List Level) (i : ℕ) (l : Level) → i < length levels → levels_in (set levels i l) (i + 1) ≡ l ∷ levels_in levels i
stored levels i l h =
    one_level_more (set levels i l) i
    ∙ ap₂ (λ (m : Level) (ms : List Level). m ∷ ms) (get_or-set_same levels i l outermost h) (kept_below levels i l i (omega arith))
