-- What a statement has to do in one instant, started or resumed. Every rule is then written once, for both. Assumes nothing.
use Rattle.std.specs.Prelude.{Bool, false, cond, ◌&&◌, ◌||◌, List, [], ◌∷◌, ℕ}
use Rattle.sets.specs.Numbers.{Numbers, single, listed}
use Rattle.rules.specs.Statements.{Depth, Stmt, nothing, pause, emit, present?◌then◌else◌, suspend◌on◌, ◌⨾◌, loop, ◌parallel◌, trap, exit, local, pauses}

-- The nine things that there are to do in an instant.
pub data Step : Type 0 where
  -- nothing: code 0
  done : Step
  -- stay here: code 1, and these pauses are kept
  stay : Numbers → Step
  -- emit a signal: code 0
  say : ℕ → Step
  -- leave by an exit of this depth
  leave : Depth → Step
  -- the first where the signal is present, the second where it is absent
  test : ℕ → Step → Step → Step
  -- a trap's body
  catch : Step → Step
  -- a local's body
  scope : ℕ → Step → Step
  -- the first, then the second
  chain : Step → Step → Step
  -- both, side by side
  beside : Step → Step → Step

-- Some number of a list is a member.
unfoldable pub any : Numbers → List ℕ → Bool
any A [] = false
any A (n ∷ ns) = A n || any A ns

-- The statement holds an active pause.
unfoldable pub active : Numbers → Stmt → Bool
unfolding any
active A p = any A (pauses p)

-- The active pauses that the statement holds: what a suspended body keeps.
unfoldable pub held : Numbers → Stmt → Numbers
held A p n = A n && listed (pauses p) n

-- Started. Suspend and loop do as their body: a suspend does not test when its body starts.
unfoldable pub started : Stmt → Step
started nothing = done
started (pause n) = stay (single n)
started (emit s) = say s
started (present? s then p else q) = test s (started p) (started q)
started (suspend p on s) = started p
started (p ⨾ q) = chain (started p) (started q)
started (loop p) = started p
started (p parallel q) = beside (started p) (started q)
started (trap p) = catch (started p)
started (exit d) = leave d
started (local s p) = scope s (started p)

-- Resumed with A active. A statement without an active pause is not resumed: an arm of a parallel then gives 0.
unfoldable pub resumed : Numbers → Stmt → Step
resumed A nothing = done
resumed A (pause n) = done
resumed A (emit s) = done
resumed A (present? s then p else q) = cond (active A p) (resumed A p) (resumed A q)
resumed A (suspend p on s) = test s (stay (held A p)) (resumed A p)
resumed A (p ⨾ q) = cond (active A p) (chain (resumed A p) (started q)) (resumed A q)
resumed A (loop p) = chain (resumed A p) (started p)
resumed A (p parallel q) = beside (cond (active A p) (resumed A p) done) (cond (active A q) (resumed A q) done)
resumed A (trap p) = catch (resumed A p)
resumed A (exit d) = done
resumed A (local s p) = scope s (resumed A p)
