-- What is written for one record: kind by kind, the records of the statement's form, or the record itself. Assumes nothing.
use mathlib.Core.Path.{◌≡◌, refl, sym, ap, ◌∙◌, subst, subst⁻¹}
use mathlib.Core.List.{List, []}
use mathlib.Core.Option.{some}
use Prim.Native.Nat.{ℕ, ◌+◌, ◌≤◌}
use native.Mathlib.Omega.{arith}
use lib.Seq.{sets}
use Rattle.sets.specs.Numbers.{listed}
use Rattle.rules.specs.Statements.{Depth, depth, Stmt}
use Rattle.tables.specs.Kinds.{shape, length_of}
use Rattle.tables.specs.Table.{operand_of}
use Rattle.records.specs.Numerals.{in_bytes}
use Rattle.writing.specs.Written.{shaped_bytes, record_bytes}
use Rattle.everyday.specs.Statements.{halt, sustain, await, exit, abort_when}
use Rattle.everyday.specs.Conversion.{as_it_is}
use Rattle.converting.specs.Format.{Sort, of_none, of_one, sort_of}
use Rattle.converting.specs.Records.{alone_bytes, bytes_before, bytes_behind}
use Rattle.converting.proofs.Sorts.{IsSort, is_nothing, is_pause, is_emit, is_present, is_suspend, is_sequence, is_loop, is_parallel, is_trap, is_exit, is_local}
use Rattle.converting.proofs.Sorts.{is_halt, is_sustain, is_await, is_abort, sort_seen}
use Rattle.convert.specs.Walk.{first_bytes, last_bytes, first_size, last_size, sends, RoomFirst, RoomLast, Puts}
use Rattle.convert.specs.declared.walk.Marks.{Marks}

-- What a known kind stands for.
module _ (k x : ℕ) {s : Sort} (e : sort_of k x ≡ some s) where
  known_as : (m : ℕ) → k ≡ m → sort_of m x ≡ some s
  known_as m q = ap (λ (k : ℕ). sort_of k x) (sym q) ∙ e

  exit_sort : k ≡ 25 → of_none (exit (depth x)) ≡ s
  unfolding sort_of
  exit_sort q = let e₂ : some (of_none (exit (depth x))) ≡ some s = known_as 25 q in cc

  halt_sort : k ≡ 32 → of_none halt ≡ s
  unfolding sort_of
  halt_sort q = let e₂ : some (of_none halt) ≡ some s = known_as 32 q in cc

  sustain_sort : k ≡ 33 → of_none (sustain x) ≡ s
  unfolding sort_of
  sustain_sort q = let e₂ : some (of_none (sustain x)) ≡ some s = known_as 33 q in cc

  await_sort : k ≡ 34 → of_none (await x) ≡ s
  unfolding sort_of
  await_sort q = let e₂ : some (of_none (await x)) ≡ some s = known_as 34 q in cc

  abort_sort : k ≡ 35 → of_one (abort_when x) ≡ s
  unfolding sort_of
  abort_sort q = let e₂ : some (of_one (abort_when x)) ≡ some s = known_as 35 q in cc

-- The record as it is: of every kind but an exit and the four forms.
pub record AsItStands (k x : ℕ) (s : Sort) : Type 0 where
  pub its_bytes : (out : Depth → Depth) → record_bytes k x ≡ first_bytes out s
  pub its_length : length_of k ≡ first_size s

as_it_stands : {k x : ℕ} {s : Sort} → IsSort k x s → (k ≡ 25 → ⊥) → (k ≡ 32 → ⊥) → (k ≡ 33 → ⊥) → (k ≡ 34 → ⊥) → (k ≡ 35 → ⊥) → AsItStands k x s
unfolding first_size shaped_bytes in_bytes shape listed length_of
as_it_stands is_nothing n n₁ n₂ n₃ n₄ = record { its_bytes = λ out. refl; its_length = refl }
as_it_stands is_pause n n₁ n₂ n₃ n₄ = record { its_bytes = λ out. refl; its_length = refl }
as_it_stands is_emit n n₁ n₂ n₃ n₄ = record { its_bytes = λ out. refl; its_length = refl }
as_it_stands is_present n n₁ n₂ n₃ n₄ = record { its_bytes = λ out. refl; its_length = refl }
as_it_stands is_suspend n n₁ n₂ n₃ n₄ = record { its_bytes = λ out. refl; its_length = refl }
as_it_stands is_sequence n n₁ n₂ n₃ n₄ = record { its_bytes = λ out. refl; its_length = refl }
as_it_stands is_loop n n₁ n₂ n₃ n₄ = record { its_bytes = λ out. refl; its_length = refl }
as_it_stands is_parallel n n₁ n₂ n₃ n₄ = record { its_bytes = λ out. refl; its_length = refl }
as_it_stands is_trap n n₁ n₂ n₃ n₄ = record { its_bytes = λ out. refl; its_length = refl }
as_it_stands is_exit n n₁ n₂ n₃ n₄ = absurd (n refl)
as_it_stands is_local n n₁ n₂ n₃ n₄ = record { its_bytes = λ out. refl; its_length = refl }
as_it_stands is_halt n n₁ n₂ n₃ n₄ = absurd (n₁ refl)
as_it_stands is_sustain n n₁ n₂ n₃ n₄ = absurd (n₂ refl)
as_it_stands is_await n n₁ n₂ n₃ n₄ = absurd (n₃ refl)
as_it_stands is_abort n n₁ n₂ n₃ n₄ = absurd (n₄ refl)

-- Nothing is written behind what stands below, but for an abort.
no_end : {k x : ℕ} {s : Sort} → IsSort k x s → (k ≡ 35 → ⊥) → (last_bytes s ≡ []) × (last_size s ≡ 0)
unfolding last_size
no_end is_nothing n = (refl, refl)
no_end is_pause n = (refl, refl)
no_end is_emit n = (refl, refl)
no_end is_present n = (refl, refl)
no_end is_suspend n = (refl, refl)
no_end is_sequence n = (refl, refl)
no_end is_loop n = (refl, refl)
no_end is_parallel n = (refl, refl)
no_end is_trap n = (refl, refl)
no_end is_exit n = (refl, refl)
no_end is_local n = (refl, refl)
no_end is_halt n = (refl, refl)
no_end is_sustain n = (refl, refl)
no_end is_await n = (refl, refl)
no_end is_abort n = absurd (n refl)

-- The room that each call needs.
module _ {k x to lent : ℕ} {m : Marks} (w : RoomFirst k x to lent m) where
  room_as : (s : Sort) → s ≡ w.sort → to + first_size s ≤ lent
  room_as s e = subst⁻¹ (λ (s : Sort). to + first_size s ≤ lent) e w.room

  pub exit_room : k ≡ 25 → to + length_of 25 ≤ lent
  unfolding first_size length_of shape listed
  exit_room q = room_as (of_none (exit (depth x))) (exit_sort k x w.its_sort q)

  pub halt_room : k ≡ 32 → to + 8 ≤ lent
  unfolding first_size
  halt_room q = room_as (of_none halt) (halt_sort k x w.its_sort q)

  pub sustain_room : k ≡ 33 → to + 18 ≤ lent
  unfolding first_size
  sustain_room q = room_as (of_none (sustain x)) (sustain_sort k x w.its_sort q)

  pub await_room : k ≡ 34 → to + 32 ≤ lent
  unfolding first_size
  await_room q = room_as (of_none (await x)) (await_sort k x w.its_sort q)

  pub abort_room : k ≡ 35 → to + 18 ≤ lent
  unfolding first_size
  abort_room q = room_as (of_one (abort_when x)) (abort_sort k x w.its_sort q)

  pub record_room : (k ≡ 25 → ⊥) → (k ≡ 32 → ⊥) → (k ≡ 33 → ⊥) → (k ≡ 34 → ⊥) → (k ≡ 35 → ⊥) → to + length_of k ≤ lent
  record_room n n₁ n₂ n₃ n₄ = omega (arith, w.room, (as_it_stands (sort_seen k x w.sort w.its_sort) n n₁ n₂ n₃ n₄).its_length)

pub end_room : {k x to lent : ℕ} → RoomLast k x to lent → k ≡ 35 → to + 34 ≤ lent
unfolding last_size
end_room {k} {x} {to} {lent} w q = subst⁻¹ (λ (s : Sort). to + last_size s ≤ lent) (abort_sort k x w.its_sort q) w.room

-- What each call leaves.
abbrev Left : Marks → ℕ → ℕ → List ℕ → List ℕ → Sort → Type 0
Left m to behind before now s = Puts (first_bytes (sends m) s) (first_size s) to behind before now

module _ (k x to : ℕ) (m : Marks) {behind : ℕ} {before now : List ℕ} where
  pub exit_left : {d : ℕ} → k ≡ 25 → depth d ≡ sends m (depth x) → behind ≡ to + length_of 25 → now ≡ sets before to (record_bytes 25 d) → (s : Sort) → sort_of k x ≡ some s
      → Left m to behind before now s
  unfolding first_size length_of shape listed operand_of
  exit_left {d} q g f h s e =
      let i : d ≡ operand_of (Stmt.exit (sends m (depth x))) = ap (λ (d : Depth). operand_of (Stmt.exit d)) g in
      subst (Left m to behind before now) (exit_sort k x e q) (record { stored = h ∙ ap (λ (n : ℕ). sets before to (record_bytes 25 n)) i; ends = f })

  pub halt_left : k ≡ 32 → behind ≡ to + 8 → now ≡ sets before to (alone_bytes as_it_is halt) → (s : Sort) → sort_of k x ≡ some s → Left m to behind before now s
  unfolding first_size
  halt_left q f h s e = subst (Left m to behind before now) (halt_sort k x e q) (record { stored = h; ends = f })

  pub sustain_left : k ≡ 33 → behind ≡ to + 18 → now ≡ sets before to (alone_bytes as_it_is (sustain x)) → (s : Sort) → sort_of k x ≡ some s → Left m to behind before now s
  unfolding first_size
  sustain_left q f h s e = subst (Left m to behind before now) (sustain_sort k x e q) (record { stored = h; ends = f })

  pub await_left : k ≡ 34 → behind ≡ to + 32 → now ≡ sets before to (alone_bytes as_it_is (await x)) → (s : Sort) → sort_of k x ≡ some s → Left m to behind before now s
  unfolding first_size
  await_left q f h s e = subst (Left m to behind before now) (await_sort k x e q) (record { stored = h; ends = f })

  pub abort_left : k ≡ 35 → behind ≡ to + 18 → now ≡ sets before to (bytes_before (abort_when x)) → (s : Sort) → sort_of k x ≡ some s → Left m to behind before now s
  unfolding first_size
  abort_left q f h s e = subst (Left m to behind before now) (abort_sort k x e q) (record { stored = h; ends = f })

  pub record_left : (k ≡ 25 → ⊥) → (k ≡ 32 → ⊥) → (k ≡ 33 → ⊥) → (k ≡ 34 → ⊥) → (k ≡ 35 → ⊥) → behind ≡ to + length_of k → now ≡ sets before to (record_bytes k x)
      → (s : Sort) → sort_of k x ≡ some s → Left m to behind before now s
  record_left n n₁ n₂ n₃ n₄ f h s e =
      let g = as_it_stands (sort_seen k x s e) n n₁ n₂ n₃ n₄ in
      record { stored = h ∙ ap (sets before to) (g.its_bytes (sends m)); ends = f ∙ ap (λ (n : ℕ). to + n) g.its_length }

module _ (k x to : ℕ) where
  pub end_left : {behind : ℕ} {before now : List ℕ} → k ≡ 35 → behind ≡ to + 34 → now ≡ sets before to (bytes_behind (abort_when x)) → (s : Sort) → sort_of k x ≡ some s
      → Puts (last_bytes s) (last_size s) to behind before now
  unfolding last_size
  end_left {behind} {before} {now} q f h s e =
      subst (λ (s : Sort). Puts (last_bytes s) (last_size s) to behind before now) (abort_sort k x e q) (record { stored = h; ends = f })

  pub nothing_left : (before : List ℕ) → (k ≡ 35 → ⊥) → (s : Sort) → sort_of k x ≡ some s → Puts (last_bytes s) (last_size s) to to before before
  nothing_left before n s e =
      let g = no_end (sort_seen k x s e) n in
      record { stored = ap (sets before to) (sym g.0); ends = omega (arith, g.1) }
