-- The kinds of edition 1 have in edition 2 the shape that they had: at each of the eleven numbers by computation. Assumes nothing.
use mathlib.Core.Path.{◌≡◌, refl}
use mathlib.Core.Bool.{cond}
use mathlib.Core.List.{List, [], ◌∷◌, map}
use mathlib.Core.Option.{Option as Found, none, some}
use Rattle.std.specs.Prelude.{Option, Some, None}
use Prim.Native.Nat.{ℕ}
use Rattle.sets.specs.Numbers.{listed}
use Rattle.tables.specs.declared.kinds.Shape.{Shape}
use Rattle.tables.specs.Kinds.{shape, wide_shape}
use Rattle.converting.specs.Format.{Sort, of_none, of_one, of_two, sort_of, has_operand, record_length}

abbrev children : Sort → ℕ
children (of_none a) = 0
children (of_one f) = 1
children (of_two o) = 2

abbrev shape₂ : Found Sort → Option Shape
shape₂ none = None
shape₂ (some s) = Some (record { length = record_length s; operands = cond (has_operand s) 1 0; children = children s })

abbrev kinds : List ℕ
kinds = 16 ∷ 17 ∷ 18 ∷ 19 ∷ 20 ∷ 21 ∷ 22 ∷ 23 ∷ 24 ∷ 25 ∷ 26 ∷ []

shapes_kept : (x : ℕ) → map (λ k. shape₂ (sort_of k x)) kinds ≡ map shape kinds
unfolding shape sort_of listed
shapes_kept x = refl

-- The table's match has the shapes of all fifteen.
all_shapes : (x : ℕ) → map (λ k. shape₂ (sort_of k x)) (32 ∷ 33 ∷ 34 ∷ 35 ∷ kinds) ≡ map wide_shape (32 ∷ 33 ∷ 34 ∷ 35 ∷ kinds)
unfolding shape wide_shape sort_of listed
all_shapes x = refl

-- In edition 1 the four new kinds are none, and so a record of such a kind gets KIND there.
new_kinds : map shape (32 ∷ 33 ∷ 34 ∷ 35 ∷ []) ≡ None ∷ None ∷ None ∷ None ∷ []
unfolding shape listed
new_kinds = refl
