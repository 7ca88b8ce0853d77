-- A room that no number names. In its place that of signal 64 is asked for, which is no room after the same tests, since a good block has 64 signals at most: by what
-- the tests come to. Assumes nothing.
use mathlib.Core.Path.{◌≡◌, refl, sym, ap}
use mathlib.Core.Bool.{Bool, true, false, cond}
use mathlib.Core.List.{List}
use mathlib.Core.Option.{Option, none, some}
use Prim.Native.Nat.{ℕ, ◌+◌}
use native.Mathlib.Omega.{arith}
use borrow.Author.Tests.{ne_eqb, le-ltb}
use Rattle.sets.specs.Words.{bits}
use Rattle.block.specs.Format.{Good, Reading, good, turned_down, reading}
use Rattle.block.proofs.GoodReadings.{sound}
use Rattle.reaction.specs.Fronts.{INPUT}
use Rattle.reaction.specs.Instants.{block_of}
use Rattle.records.specs.StateRecord.{undeclared_input}
use Rattle.mazes.specs.Mazes.{Room, signal, of_form, maze_of, nth}
use Rattle.maze.specs.Views.{View, refused, shown, FORM, view, try_block, try_inputs, try_form}
use Rattle.maze.specs.Ways.{no_room, way_by, way_in, has_room}
use Rattle.values.specs.Asking.{room_for}
use Rattle.values.specs.Whole.{room_by, way_from}

-- Another number than the four.
pub names_none : (n x y : ℕ) → (n ≡ 0 → ⊥) → (n ≡ 1 → ⊥) → (n ≡ 2 → ⊥) → (n ≡ 3 → ⊥) → signal 64 ≡ room_for (room_by n x y)
unfolding room_for
names_none n x y d e f g =
    let q : room_by n x y ≡ none = simp (ne_eqb n 0 d, ne_eqb n 1 e, ne_eqb n 2 f, ne_eqb n 3 g) in
    sym (ap room_for q)

-- What the tests come to: a block turned down, INPUT, FORM, or the maze of a block that was read.
module _ (b : List ℕ) (given : ℕ) (P : View → Type 0) where
  either : (t : Bool) {x y : View} → P x → P y → P (cond t x y)
  either true p q = p
  either false p q = q

  pub by_view : ((n at : ℕ) → reading b ≡ turned_down n at → P (refused n at)) → P (refused INPUT 0) → P (refused FORM 0)
      → ((g : Good) → reading b ≡ good g → P (shown (block_of g) (bits given))) → P (view b given)
  unfolding view try_block try_inputs try_form
  by_view f i m s = go (reading b) refl
    where
      go : (x : Reading) → reading b ≡ x → P (try_block given x)
      go (turned_down n at) e = f n at e
      go (good g) e = either (undeclared_input g.header.inputs given) i (either (of_form g.body) (s g e) m)

-- What the code's room is owed is what is told.
module _ (b : List ℕ) (given : ℕ) (k : ℕ) where
  no_signal : (g : Good) → reading b ≡ good g → has_room (block_of g) (signal 64) ≡ false
  unfolding has_room
  no_signal g e = le-ltb 64 (g.header.inputs + g.header.outputs) (let l = (sound b g e).signals in omega (arith, l))

  nothing_named : way_in (view b given) (signal 64) k ≡ way_from (view b given) none k
  unfolding way_in
  nothing_named =
      by_view b given (λ (v : View). way_in v (signal 64) k ≡ way_from v none k) (λ n at e. refl) refl refl
      (λ g e. ap (λ (t : Bool). cond t (way_by (nth (maze_of (block_of g) (bits given) (signal 64)) k)) no_room) (no_signal g e))

  pub room_told : (r : Option Room) → way_in (view b given) (room_for r) k ≡ way_from (view b given) r k
  unfolding room_for
  room_told (some r) = refl
  room_told none = nothing_named
