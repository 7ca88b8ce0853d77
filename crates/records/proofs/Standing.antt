-- A statement that stands in the table, and its parts: each stands there too, over its own run of the pauses, and two pauses that a part holds are compatible in it as in
-- the whole. By the statement's shape. Assumes nothing.
use mathlib.Core.Path.{◌≡◌, refl, sym, ap, ap₂, ◌∙◌, subst⁻¹}
use mathlib.Core.Bool.{Bool, true, false, cond}
use mathlib.Core.List.{List}
use Prim.Native.Nat.{ℕ, ◌+◌, ◌≤◌, ◌<◌}
use native.Mathlib.Omega.{arith}
use lib.Dec.{eqb}
use lib.ListN.{length, get_or, length-append}
use Rattle.rules.specs.Statements.{Stmt, pauses, Numbered}
use Rattle.rules.specs.States.{holds_both, lowest_above, is_parallel, compatible}
use Rattle.tables.specs.Table.{kind_of, statements}
use Rattle.tables.specs.declared.Table.{Table}
use Rattle.records.specs.Clashing.{before, Standing}
use Rattle.tables.proofs.Rows.{has_row, some_statement}
use Rattle.records.proofs.Walk.{One, Two, Shape, shape, before_part, before_next, numbered_one}
use Rattle.records.proofs.Walk.{numbered_first, numbered_second, holds, holds_not_first, holds_not_second}

module _ {kinds sizes : List ℕ} {count i : ℕ} {p : Stmt} (S : Standing kinds sizes count i p) where
  abbrev pub tab : Table
  tab = record { kinds = kinds; operands = S.operands; sizes = sizes }

  pub here : i < 512
  here = omega (arith, S.ends, S.few, some_statement p)

  pub kind_here : get_or kinds i 0 ≡ kind_of p
  kind_here = (has_row p S.has).its_kind

  pub size_here : get_or sizes i 0 ≡ statements p
  size_here = (has_row p S.has).its_size

  pub its_shape : Shape tab i p
  its_shape = shape tab i p S.has

  -- One part: it has all the pauses.
  module _ {q : Stmt} (o : One tab i p q) where
    pub only_next : before kinds (i + 1) ≡ before kinds i
    only_next = before_next tab i p S.has o.no_pause

    pub only_all : length (pauses p) ≡ length (pauses q)
    only_all = ap length o.its_pauses

    pub only_stands : Standing kinds sizes count (i + 1) q
    only_stands = record {
      operands = S.operands;
      has = o.part;
      numbered = subst⁻¹ (λ (a : ℕ). Numbered a q) only_next (numbered_one (before kinds i) p q o.its_pauses S.numbered);
      ends = omega (arith, S.ends, o.its_size);
      few = S.few;
    }

  -- Two parts: the pauses of the second come after those of the first.
  module _ {q r : Stmt} (o : Two tab i p q r) where
    pub first_next : before kinds (i + 1) ≡ before kinds i
    first_next = before_next tab i p S.has o.no_pause

    pub first_size : get_or sizes (i + 1) 0 ≡ statements q
    first_size = (has_row q o.first).its_size

    pub split_at : before kinds (i + 1 + statements q) ≡ before kinds i + length (pauses q)
    split_at = before_part tab (i + 1) q o.first ∙ ap (λ (k : ℕ). k + length (pauses q)) first_next

    pub both : length (pauses p) ≡ length (pauses q) + length (pauses r)
    both = ap length o.its_pauses ∙ length-append (pauses q) (pauses r)

    in_first : Numbered (before kinds i) q
    in_first = numbered_first (before kinds i) p q r o.its_pauses S.numbered

    in_second : Numbered (before kinds i + length (pauses q)) r
    in_second = numbered_second (before kinds i) p q r o.its_pauses S.numbered

    pub first_stands : Standing kinds sizes count (i + 1) q
    first_stands = record {
      operands = S.operands;
      has = o.first;
      numbered = subst⁻¹ (λ (a : ℕ). Numbered a q) first_next in_first;
      ends = omega (arith, S.ends, o.its_size);
      few = S.few;
    }

    pub second_stands : Standing kinds sizes count (i + 1 + statements q) r
    second_stands = record {
      operands = S.operands;
      has = o.second;
      numbered = subst⁻¹ (λ (a : ℕ). Numbered a r) split_at in_second;
      ends = omega (arith, S.ends, o.its_size);
      few = S.few;
    }

    -- Two pauses, by the parts that hold them.
    module _ (m n : ℕ) where
      chosen : (a b : Bool) → holds_both q m n ≡ a → holds_both r m n ≡ b
          → compatible p m n ≡ is_parallel (cond a (lowest_above q m n) (cond b (lowest_above r m n) p))
      unfolding compatible
      chosen a b e f =
          ap is_parallel (o.above m n ∙ ap₂ (λ (x y : Bool). cond x (lowest_above q m n) (cond y (lowest_above r m n) p)) e f)

      pub by_first : m < n → before kinds i ≤ m → n < before kinds i + length (pauses q) → compatible q m n ≡ compatible p m n
      unfolding compatible
      by_first l low h = sym (chosen true (holds_both r m n) (holds (before kinds i) q m n in_first l low h) refl)

      pub by_second : m < n → before kinds i + length (pauses q) ≤ m → n < before kinds i + length (pauses p) → compatible r m n ≡ compatible p m n
      unfolding compatible
      by_second l h high =
          sym (chosen false true (holds_not_second (before kinds i) q m n in_first (omega arith))
          (holds (before kinds i + length (pauses q)) r m n in_second l h (omega (arith, both))))

      pub by_itself : m < before kinds i + length (pauses q) → before kinds i + length (pauses q) ≤ n → eqb (get_or kinds i 0) 23 ≡ compatible p m n
      by_itself h l =
          ap (λ (k : ℕ). eqb k 23) kind_here ∙ o.its_kind
          ∙ sym (chosen false false (holds_not_second (before kinds i) q m n in_first l) (holds_not_first (before kinds i + length (pauses q)) r m n in_second h))
