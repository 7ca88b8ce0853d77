-- What a form of the code says of the statement at a place of the table. Assumes nothing.
use Rattle.std.specs.Prelude.{◌≡◌, Bool, false, cond, ◌&&◌, List, [], ◌∷◌, ◌++◌, ℕ, zero, suc, ◌+◌, ◌≤◌, ◌<◌, eqb, ltb, get_or}
use Rattle.sets.specs.Numbers.{Numbers, single, listed}
use Rattle.rules.specs.Statements.{depth, Stmt, nothing, pause, emit, present?◌then◌else◌, suspend◌on◌, ◌⨾◌, loop, ◌parallel◌, trap, exit, local}
use Rattle.rules.specs.Instant.{Step, done, stay, say, leave, test, catch, scope, chain, beside, active, held, started, resumed}
use Rattle.tables.specs.Table.{statements, Has, Small}
use Rattle.tables.specs.declared.Table.{Table}
use Rattle.forms.specs.declared.form.Going.{Going}
use Rattle.forms.specs.declared.form.Going.TheVariants.{Started, Resumed, Held, Idle}
use Rattle.forms.specs.declared.form.Task.{Task}
use Rattle.forms.specs.declared.form.Form.{Form}
use Rattle.forms.specs.declared.form.Form.TheVariants.{Done, Stay, Keep, Say, Leave, Test, Catch, Scope, Chain, Beside, Same}

-- The statement stands at i, within the table's 512 rows, and its numbers are small.
pub record At (tab : Table) (i : ℕ) (t : Stmt) : Type 0 where
  pub has : Has tab i t
  pub small : Small t
  pub room : i + statements t ≤ 512

-- Some statement stands at i.
pub record Placed (tab : Table) (i : ℕ) : Type 0 where
  pub tree : Stmt
  pub there : At tab i tree

-- What a statement has to do, by how it is taken.
unfoldable pub step_of : Going → Numbers → Stmt → Step
step_of Started A t = started t
step_of Resumed A t = resumed A t
step_of Held A t = stay (held A t)
step_of Idle A t = done

-- The list says of each statement whether it holds an active pause.
pub record Live (tab : Table) (A : Numbers) (live : List Bool) : Type 0 where
  pub says : (i : ℕ) (t : Stmt) → At tab i t → get_or live i false ≡ active A t

-- The same of the statements from row j on.
pub record LiveFrom (tab : Table) (A : Numbers) (live : List Bool) (j : ℕ) : Type 0 where
  pub says : (i : ℕ) (t : Stmt) → j ≤ i → At tab i t → get_or live i false ≡ active A t

-- No pause stands in the rows from j on.
pub record NoPauseFrom (kinds : List ℕ) (j : ℕ) : Type 0 where
  pub none : (i : ℕ) → j ≤ i → i < 512 → get_or kinds i 0 ≡ 17 → ⊥

-- A task has this to do.
pub record Does (tab : Table) (A : Numbers) (c : Task) (p : Step) : Type 0 where
  pub tree : Stmt
  pub there : At tab c.at tree
  pub its_step : p ≡ step_of c.going A tree

-- A step made of one task's, and of two tasks'.
pub record OfOne (tab : Table) (A : Numbers) (make : Step → Step) (c : Task) (p : Step) : Type 0 where
  pub inner : Step
  pub made : p ≡ make inner
  pub does : Does tab A c inner

pub record OfTwo (tab : Table) (A : Numbers) (make : Step → Step → Step) (c d : Task) (p : Step) : Type 0 where
  pub first : Step
  pub later : Step
  pub made : p ≡ make first later
  pub left : Does tab A c first
  pub right : Does tab A d later

-- A suspended body keeps what it holds.
pub record Suspended (tab : Table) (A : Numbers) (i : ℕ) (p : Step) : Type 0 where
  pub tree : Stmt
  pub there : At tab i tree
  pub made : p ≡ stay (held A tree)

-- What a form says.
unfoldable pub Shows : Table → Numbers → Form → Step → Type 0
Shows tab A Done p = p ≡ done
Shows tab A (Stay n) p = (n < 128) × (p ≡ stay (single n))
Shows tab A (Keep i) p = Suspended tab A i p
Shows tab A (Say s) p = (s < 64) × (p ≡ say s)
Shows tab A (Leave d) p = (d.0 < 16) × (p ≡ leave (depth d.0))
Shows tab A (Test s c d) p = (s < 64) × OfTwo tab A (test s) c d p
Shows tab A (Catch c) p = OfOne tab A catch c p
Shows tab A (Scope s c) p = (s < 64) × OfOne tab A (scope s) c p
Shows tab A (Chain c d) p = OfTwo tab A chain c d p
Shows tab A (Beside c d) p = OfTwo tab A beside c d p
Shows tab A (Same c) p = Does tab A c p

-- A task is placed in the table, and is smaller than the statement at i.
pub record Under (tab : Table) (i : ℕ) (c : Task) : Type 0 where
  pub placed : Placed tab c.at
  pub smaller : get_or tab.sizes c.at 0 < get_or tab.sizes i 0

unfoldable pub TasksUnder : Table → ℕ → Form → Type 0
TasksUnder tab i Done = Unit {0}
TasksUnder tab i (Stay n) = Unit {0}
TasksUnder tab i (Keep j) = Placed tab j
TasksUnder tab i (Say s) = Unit {0}
TasksUnder tab i (Leave d) = Unit {0}
TasksUnder tab i (Test s c d) = Under tab i c × Under tab i d
TasksUnder tab i (Catch c) = Under tab i c
TasksUnder tab i (Scope s c) = Under tab i c
TasksUnder tab i (Chain c d) = Under tab i c × Under tab i d
TasksUnder tab i (Beside c d) = Under tab i c × Under tab i d
TasksUnder tab i (Same c) = Under tab i c

-- The form of a statement of number i, started and resumed: its children have the numbers i + 1 and i + 1 with all of the first child passed over.
abbrev pub task : ℕ → Going → Task
task i g = record { at = i; going = g }

unfoldable pub started_as : ℕ → Stmt → Form
unfolding statements
started_as i nothing = Done
started_as i (pause n) = Stay n
started_as i (emit s) = Say s
started_as i (present? s then p else q) = Test s (task (i + 1) Started) (task (i + 1 + statements p) Started)
started_as i (suspend p on s) = Same (task (i + 1) Started)
started_as i (p ⨾ q) = Chain (task (i + 1) Started) (task (i + 1 + statements p) Started)
started_as i (loop p) = Same (task (i + 1) Started)
started_as i (p parallel q) = Beside (task (i + 1) Started) (task (i + 1 + statements p) Started)
started_as i (trap p) = Catch (task (i + 1) Started)
started_as i (exit (depth d)) = Leave (record { 0 = d })
started_as i (local s p) = Scope s (task (i + 1) Started)

unfoldable pub resumed_as : Numbers → ℕ → Stmt → Form
unfolding statements active
resumed_as A i nothing = Done
resumed_as A i (pause n) = Done
resumed_as A i (emit s) = Done
resumed_as A i (present? s then p else q) = Same (cond (active A p) (task (i + 1) Resumed) (task (i + 1 + statements p) Resumed))
resumed_as A i (suspend p on s) = Test s (task (i + 1) Held) (task (i + 1) Resumed)
resumed_as A i (p ⨾ q) =
    cond (active A p) (Chain (task (i + 1) Resumed) (task (i + 1 + statements p) Started)) (Same (task (i + 1 + statements p) Resumed))
resumed_as A i (loop p) = Chain (task (i + 1) Resumed) (task (i + 1) Started)
resumed_as A i (p parallel q) =
    Beside (task (i + 1) (cond (active A p) Resumed Idle)) (task (i + 1 + statements p) (cond (active A q) Resumed Idle))
resumed_as A i (trap p) = Catch (task (i + 1) Resumed)
resumed_as A i (exit d) = Done
resumed_as A i (local s p) = Scope s (task (i + 1) Resumed)

unfoldable pub form_for : Going → Numbers → ℕ → Stmt → Form
unfolding started_as resumed_as
form_for Started A i t = started_as i t
form_for Resumed A i t = resumed_as A i t
form_for Held A i t = Keep i
form_for Idle A i t = Done

-- The form of a task.
pub record Formed (tab : Table) (live : List Bool) (c : Task) (f : Form) : Type 0 where
  pub tasks_under : TasksUnder tab c.at f
  pub shows : (A : Numbers) → Live tab A live → (p : Step) → Does tab A c p → Shows tab A f p
  pub is_it : (A : Numbers) → Live tab A live → (t : Stmt) → At tab c.at t → f ≡ form_for c.going A c.at t

-- The pauses of n rows from i on, and those of them that are active.
unfoldable pub row_pauses : Table → ℕ → List ℕ
row_pauses tab i = cond (eqb (get_or tab.kinds i 0) 17) (get_or tab.operands i 0 ∷ []) []

unfoldable pub pauses_in : Table → ℕ → ℕ → List ℕ
pauses_in tab i zero = []
pauses_in tab i (suc n) = pauses_in tab i n ++ row_pauses tab (i + n)

abbrev pub among : Numbers → List ℕ → Numbers
among A ks m = ltb m 128 && (A m && listed ks m)
