-- A record's head: the shape that the code is told is that of the statement, kind by kind. Assumes nothing.
use mathlib.Core.Path.{◌≡◌, refl, ap, ap₂, ◌∙◌}
use mathlib.Core.Bool.{cond}
use mathlib.Core.List.{List}
use mathlib.Core.Option.{some}
use Prim.Native.Nat.{ℕ, ◌+◌}
use native.Mathlib.Omega.{arith}
use Rattle.std.specs.Prelude.{Option, Some, None}
use Rattle.sets.specs.Numbers.{listed}
use Rattle.tables.specs.Kinds.{shape, wide_shape}
use Rattle.tables.specs.declared.kinds.Shape.{Shape}
use Rattle.block.specs.Format.{kind_at, operand_at}
use Rattle.converting.specs.Format.{Sort, sort_of, has_operand, record_length}
use Rattle.converting.proofs.Sorts.{IsSort, is_nothing, is_pause, is_emit, is_present, is_suspend, is_sequence, is_loop, is_parallel, is_trap, is_exit, is_local}
use Rattle.converting.proofs.Sorts.{is_halt, is_sustain, is_await, is_abort, sort_seen}
use Rattle.convert.specs.Walk.{sort_at, children, HeadAt}

abbrev shape_in : Sort → Shape
shape_in s = record { length = record_length s; operands = cond (has_operand s) 1 0; children = children s }

shaped_as : {k x : ℕ} {s : Sort} → IsSort k x s → wide_shape k ≡ Some (shape_in s)
unfolding wide_shape shape listed
shaped_as is_nothing = refl
shaped_as is_pause = refl
shaped_as is_emit = refl
shaped_as is_present = refl
shaped_as is_suspend = refl
shaped_as is_sequence = refl
shaped_as is_loop = refl
shaped_as is_parallel = refl
shaped_as is_trap = refl
shaped_as is_exit = refl
shaped_as is_local = refl
shaped_as is_halt = refl
shaped_as is_sustain = refl
shaped_as is_await = refl
shaped_as is_abort = refl

-- The record of kind k and operand x stands for s: the code is told its shape.
module _ (b : List ℕ) (at : ℕ) {k x : ℕ} (k_is : k ≡ kind_at b at) (x_is : x ≡ operand_at b at) {w : Option Shape} (told : w ≡ wide_shape k) where
  told_shape : (s : Sort) → sort_at b at ≡ some s → w ≡ Some (record { length = record_length s; operands = cond (has_operand s) 1 0; children = children s })
  told_shape s e = told ∙ shaped_as (sort_seen k x s (ap₂ sort_of k_is x_is ∙ e))

  pub head_known : {c : Shape} {n : ℕ} → w ≡ Some c → n ≡ c.length → HeadAt b at (record { kind = k; operand = x; behind = at + n; children = c.children })
  head_known {c} {n} f l = record {
    its_kind = k_is;
    its_operand = x_is;
    its_behind = λ s e.
        let g = told_shape s e in
        let y : c.length ≡ record_length s = cc in
        ap (λ (n : ℕ). at + n) (l ∙ y);
    its_children = λ s e.
        let g = told_shape s e in
        let y : c.children ≡ children s = cc in
        y;
  }

  pub head_unknown : w ≡ None → HeadAt b at (record { kind = k; operand = x; behind = at; children = 0 })
  head_unknown f = record { its_kind = k_is; its_operand = x_is; its_behind = λ s e. never s e; its_children = λ s e. never s e }
    where
      never : {P : Type 0} (s : Sort) → sort_at b at ≡ some s → P
      never s e =
          let g = told_shape s e in
          let z : ◌≡◌ {A = ℕ} 0 1 = cc in
          absurd (omega arith)
