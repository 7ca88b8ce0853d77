-- The values of the calls on whole blocks are as many as their layout has, and begin with a number that two bytes hold: by cases on the answer, or on what the tests
-- come to. Assumes nothing.
use mathlib.Core.Path.{◌≡◌, refl, ap}
use mathlib.Core.Bool.{Bool, true, false, cond}
use mathlib.Core.List.{List}
use mathlib.Core.Option.{Option, none, some}
use Prim.Native.Nat.{ℕ, suc, ◌≤◌}
use native.Mathlib.Omega.{arith}
use lib.Dec.{lit≤, ltb}
use lib.ListN.{length}
use Rattle.sets.specs.Words.{bits}
use Rattle.block.specs.Format.{LIMIT}
use Rattle.block.proofs.GoodReadings.{numbers}
use Rattle.reaction.specs.Instants.{block_of}
use Rattle.writing.specs.Answers.{writes, refuses, roomed, wrote_owed}
use Rattle.writing.specs.Written.{block_bytes}
use Rattle.everyday.specs.Conversion.{converted}
use Rattle.converting.specs.Format.{Reading₂, good₂, turned_down₂, reading₂}
use Rattle.converting.specs.Conversions.{converting, converting_of, converting_tree}
use Rattle.converting.proofs.Numbers.{SmallReading, reading_small}
use Rattle.doubled.specs.Copies.{doubling, doubling_of, doubled_writing, doubled, doubled_header, within_limits}
use Rattle.std.specs.Prelude.{Some, None, Ok, Err}
use Rattle.alike.specs.declared.NotCompared.TheVariants as told
use Rattle.foldheron.specs.Answers.{Likeness, Maze}
use Rattle.mazes.specs.Mazes.{Room, signal, part, gate, dungeon, Corridor, visible, secret, maze_of, nth}
use Rattle.maze.specs.Views.{View}
use Rattle.maze.specs.Ways.{way_by, way_in, no_room, has_room}
use Rattle.values.specs.Whole.{likeness_values, maze_values, doubling_owed, conversion_owed, way_from, room_values, way_values, corridor_owed}
use Rattle.values.proofs.Counts.{Counted, by_reading, why_small}
use Rattle.values.proofs.Rooms.{by_view}

-- Two blocks compared.
pub likeness_counted : (l : Likeness) → Counted 4 (likeness_values l)
unfolding likeness_values
likeness_counted (Ok None) = record { counted = refl; small = lit≤ tt }
likeness_counted (Ok (Some n)) = record { counted = refl; small = lit≤ tt }
likeness_counted (Err (told.First r)) = record { counted = refl; small = why_small r.why }
likeness_counted (Err (told.Second r)) = record { counted = refl; small = why_small r.why }
likeness_counted (Err (told.Both w)) = record { counted = refl; small = why_small w }

-- Loops doubled.
wrote_counted : (t : Bool) (bs : List ℕ) (n at : ℕ) → n ≤ 63 → Counted 3 (wrote_owed (cond t (refuses n at) (writes bs)))
unfolding wrote_owed
wrote_counted true bs n at l = record { counted = refl; small = l }
wrote_counted false bs n at l = record { counted = refl; small = lit≤ tt }

pub fit_counted : (lent : ℕ) (bs : List ℕ) → Counted 3 (wrote_owed (roomed (writes bs) lent))
unfolding roomed wrote_owed
fit_counted lent bs = wrote_counted (ltb lent (length bs)) bs 12 0 (lit≤ tt)

roomed_counted : (lent : ℕ) (t : Bool) (bs : List ℕ) → Counted 3 (wrote_owed (roomed (cond t (writes bs) (refuses LIMIT 0)) lent))
unfolding roomed wrote_owed
roomed_counted lent true bs = fit_counted lent bs
roomed_counted lent false bs = record { counted = refl; small = lit≤ tt }

-- Edition 2 converted.
pub conversion_counted : (b out : List ℕ) → Counted 3 (conversion_owed b out)
unfolding converting converting_of converting_tree SmallReading roomed wrote_owed
conversion_counted b out = go (reading₂ b) (reading_small b)
  where
    go : (x : Reading₂) → SmallReading x → Counted 3 (wrote_owed (roomed (converting_of x) (length out)))
    go (good₂ h p) l = roomed_counted (length out) (within_limits h (converted p)) (block_bytes h (converted p))
    go (turned_down₂ n at) l = record { counted = refl; small = omega (arith, l) }

pub doubling_counted : (b out : List ℕ) → Counted 3 (doubling_owed b out)
unfolding doubling doubling_of doubled_writing roomed wrote_owed
doubling_counted b out =
    by_reading (λ x. wrote_owed (roomed (doubling_of x) (length out))) b
    (λ g. roomed_counted (length out) (within_limits (doubled_header g.header g.body) (doubled g.header g.body)) _)
    (λ n at l. record { counted = refl; small = l })

-- The maze, and a corridor of it.
pub maze_counted : (m : Maze) → Counted 5 (maze_values m)
unfolding maze_values
maze_counted (Ok r) = record { counted = refl; small = lit≤ tt }
maze_counted (Err r) = record { counted = refl; small = why_small r.why }

three_numbers : (r : Room) → length (room_values r) ≡ 3
three_numbers (signal s) = refl
three_numbers (part i a) = refl
three_numbers (gate i a) = refl
three_numbers dungeon = refl

shown_counted : (t : Bool) (o : Option Corridor) → Counted 6 (way_values (cond t (way_by o) no_room))
unfolding way_values
shown_counted false o = record { counted = refl; small = lit≤ tt }
shown_counted true none = record { counted = refl; small = lit≤ tt }
shown_counted true (some (visible r)) = record { counted = ap (λ (n : ℕ). suc (suc (suc n))) (three_numbers r); small = lit≤ tt }
shown_counted true (some (secret r)) = record { counted = ap (λ (n : ℕ). suc (suc (suc n))) (three_numbers r); small = lit≤ tt }

pub corridor_counted : (b : List ℕ) (given : ℕ) (r : Option Room) (k : ℕ) → Counted 6 (corridor_owed b given r k)
unfolding way_in way_values
corridor_counted b given (some r) k =
    by_view b given (λ (v : View). Counted 6 (way_values (way_in v r k))) (λ n at e. record { counted = refl; small = let h = numbers b n at e in omega (arith, h.1) })
    (record { counted = refl; small = lit≤ tt }) (record { counted = refl; small = lit≤ tt })
    (λ g e. shown_counted (has_room (block_of g) r) (nth (maze_of (block_of g) (bits given) r) k))
corridor_counted b given none k =
    by_view b given (λ (v : View). Counted 6 (way_values (way_from v none k))) (λ n at e. record { counted = refl; small = let h = numbers b n at e in omega (arith, h.1) })
    (record { counted = refl; small = lit≤ tt }) (record { counted = refl; small = lit≤ tt }) (λ g e. record { counted = refl; small = lit≤ tt })
