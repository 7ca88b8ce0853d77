-- The corridors of a gate and of an input's room, one by one: a gate's two by the table's row of its test, an input's one by its bit. Assumes nothing.
use mathlib.Core.Path.{◌≡◌, refl, sym, ◌∙◌, ap, ap₂}
use mathlib.Core.Bool.{Bool, true, false, cond, true≢false}
use mathlib.Core.List.{List, [], ◌∷◌}
use mathlib.Core.Option.{none, some}
use Prim.Native.Nat.{ℕ, zero, suc, ◌+◌, ◌≤◌}
use native.Mathlib.Omega.{arith}
use lib.ListN.{get_or}
use Rattle.rules.specs.Statements.{Stmt, nothing, pause, emit, present?◌then◌else◌, suspend◌on◌, ◌⨾◌, loop, ◌parallel◌, trap, exit, local}
use Rattle.tables.specs.Table.{Row, Has, operand_of, statements}
use Rattle.tables.specs.declared.Table.{Table}
use Rattle.tables.proofs.Rows.{some_statement}
use Rattle.forms.specs.Forms.{At}
use Rattle.mazes.specs.Mazes.{is_nothing, Corridor, visible, secret, signal, part, dungeon, gate_corridors, nth}
use Rattle.maze.specs.Rows.{nothing_at, second_of}
use Rattle.maze.specs.Ways.{is_present, Way, way_by}
use Rattle.maze.proofs.RowLaws.{its_other, second_there}

-- Two corridors.
module _ (x y : Corridor) where
  pub first_way : (n : ℕ) → n ≡ 0 → nth (x ∷ y ∷ []) n ≡ some x
  unfolding nth
  first_way n e = ap (nth (x ∷ y ∷ [])) e

  pub second_way : (n : ℕ) → n ≡ 1 → nth (x ∷ y ∷ []) n ≡ some y
  unfolding nth
  second_way n e = ap (nth (x ∷ y ∷ [])) e

  pub past_both : (n : ℕ) → (n ≡ 0 → ⊥) → (n ≡ 1 → ⊥) → nth (x ∷ y ∷ []) n ≡ none
  unfolding nth
  past_both zero f g = absurd (f refl)
  past_both (suc zero) f g = absurd (g refl)
  past_both (suc (suc n)) f g = refl

-- A gate, by the row of its test.
abbrev gate_by : ℕ → ℕ → Bool → ℕ → ℕ → List Corridor
gate_by a i z s m = cond z (visible (signal s) ∷ visible (part (i + 1) a) ∷ []) (secret (signal s) ∷ visible (part m a) ∷ [])

module _ (tab : Table) (a i : ℕ) where
  its_gate : (s : ℕ) (p q : Stmt) → Row tab i (present? s then p else q) → Has tab (i + 1) p → Has tab (i + 1 + statements p) q → i + (1 + statements p + statements q) ≤ 512
      → gate_by a i (is_nothing q) s (i + 1 + statements p)
      ≡ gate_by a i (nothing_at tab.kinds (second_of tab.sizes i)) (get_or tab.operands i 0) (second_of tab.sizes i)
  unfolding operand_of
  its_gate s p q r hp hq l =
      let e : nothing_at tab.kinds (second_of tab.sizes i) ≡ is_nothing q = its_other tab i p q hp hq l in
      let d : get_or tab.operands i 0 ≡ s = r.its_operand in
      let k : second_of tab.sizes i ≡ i + 1 + statements p = second_there tab i p hp (omega (arith, some_statement p, some_statement q)) in
      sym (λ j. gate_by a i (e j) (d j) (k j))

  gate_is : (t : Stmt) → Has tab i t → i + statements t ≤ 512 → is_present t ≡ true
      → gate_corridors a i t ≡ gate_by a i (nothing_at tab.kinds (second_of tab.sizes i)) (get_or tab.operands i 0) (second_of tab.sizes i)
  unfolding gate_corridors Has statements
  gate_is nothing h l e = absurd (true≢false (sym e))
  gate_is (pause n) h l e = absurd (true≢false (sym e))
  gate_is (emit s) h l e = absurd (true≢false (sym e))
  gate_is (present? s then p else q) h l e = its_gate s p q h.0 h.1 h.2 l
  gate_is (suspend p on s) h l e = absurd (true≢false (sym e))
  gate_is (p ⨾ q) h l e = absurd (true≢false (sym e))
  gate_is (loop p) h l e = absurd (true≢false (sym e))
  gate_is (p parallel q) h l e = absurd (true≢false (sym e))
  gate_is (trap p) h l e = absurd (true≢false (sym e))
  gate_is (exit d) h l e = absurd (true≢false (sym e))
  gate_is (local s p) h l e = absurd (true≢false (sym e))

  -- What is told of it.
  module _ (n s m : ℕ) (x : Bool) (w : Way) (es : s ≡ get_or tab.operands i 0) (em : m ≡ second_of tab.sizes i) (ex : x ≡ nothing_at tab.kinds m)
      (t : Stmt) (h : At tab i t) (e : is_present t ≡ true) where
    as_told : gate_by a i x s m ≡ gate_corridors a i t
    as_told =
        let d : x ≡ nothing_at tab.kinds (second_of tab.sizes i) = ex ∙ ap (nothing_at tab.kinds) em in
        (λ j. gate_by a i (d j) (es j) (em j)) ∙ sym (gate_is t h.has h.room e)

    pub by_then : x ≡ true → w ≡ way_by (nth (visible (signal s) ∷ visible (part (i + 1) a) ∷ []) n) → w ≡ way_by (nth (gate_corridors a i t) n)
    by_then z d = d ∙ ap (λ (cs : List Corridor). way_by (nth cs n)) (ap (λ (y : Bool). gate_by a i y s m) (sym z) ∙ as_told)

    pub by_else : x ≡ false → w ≡ way_by (nth (secret (signal s) ∷ visible (part m a) ∷ []) n) → w ≡ way_by (nth (gate_corridors a i t) n)
    by_else z d = d ∙ ap (λ (cs : List Corridor). way_by (nth cs n)) (ap (λ (y : Bool). gate_by a i y s m) (sym z) ∙ as_told)

-- An input's one corridor.
abbrev input_ways : Bool → List Corridor
input_ways z = cond z (visible dungeon ∷ []) []

pub one_given : (z : Bool) (n : ℕ) → z ≡ true → n ≡ 0 → nth (input_ways z) n ≡ some (visible dungeon)
unfolding nth
one_given z n e d = ap₂ (λ (y : Bool) (m : ℕ). nth (input_ways y) m) e d

pub none_given : (z : Bool) (n : ℕ) → z ≡ false → nth (input_ways z) n ≡ none
unfolding nth
none_given z n e = ap (λ (y : Bool). nth (input_ways y) n) e

pub past_given : (z : Bool) (n : ℕ) → (n ≡ 0 → ⊥) → nth (input_ways z) n ≡ none
unfolding nth
past_given true zero f = absurd (f refl)
past_given true (suc n) f = refl
past_given false n f = refl
