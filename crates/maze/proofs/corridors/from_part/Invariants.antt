-- `maze::corridors::from_part` meets its contract: what stands ahead at row j gives the corridors that are left, for every tree of the form at i.
-- Assumes nothing.
use mathlib.Core.Path.{◌≡◌}
use Prim.Native.Nat.{◌+◌, ◌-◌, ◌≤◌}
use Rattle.rules.specs.Statements.{Stmt}
use Rattle.tables.specs.Table.{statements}
use Rattle.forms.specs.Forms.{At}
use Rattle.mazes.specs.Mazes.{OfForm}
use Rattle.maze.proofs.PartLaws.{Going}
use Rattle.maze.proofs.corridors.from_part.Given as goal

abbrev pub invariant-loop-j : goal.invariant-loop-j
invariant-loop-j l = (l.end ≤ 512) × ((t : Stmt) → At l.table l.i t → OfForm t → (l.end ≡ l.i + statements t) × Going l.table l.a l.i t l.n l.j l.left)

abbrev pub decreases-loop-j : goal.decreases-loop-j
decreases-loop-j l = l.end - l.j
