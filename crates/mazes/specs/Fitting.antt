-- How each statement of a tree of the form fits its children: the form, one statement at a time. Assumes nothing.
use Rattle.std.specs.Prelude.{Bool, true, false, not, cond, ◌&&◌}
use Rattle.rules.specs.Statements.{Stmt, nothing, pause, emit, present?◌then◌else◌, suspend◌on◌, ◌⨾◌, loop, ◌parallel◌, trap, exit, local}
use Rattle.mazes.specs.Mazes.{is_nothing}

-- A statement fits its children: a present has nothing in exactly one branch, a parallel in no arm; no other statement but an emit or a nothing fits.
abbrev pub one_alone : Bool → Bool → Bool
one_alone x y = cond x (not y) y

abbrev pub neither : Bool → Bool → Bool
neither x y = not x && not y

unfoldable pub fits : Stmt → Bool
fits nothing = true
fits (pause n) = false
fits (emit s) = true
fits (present? s then p else q) = one_alone (is_nothing p) (is_nothing q)
fits (suspend p on s) = false
fits (p ⨾ q) = false
fits (loop p) = false
fits (p parallel q) = neither (is_nothing p) (is_nothing q)
fits (trap p) = false
fits (exit d) = false
fits (local s p) = false
