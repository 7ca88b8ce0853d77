-- The codes that the LOOP check looks at. Assumes nothing.
use Rattle.std.specs.Prelude.{Bool, true, not, ◌&&◌}
use Rattle.sets.specs.Numbers.{Numbers, single, union, without, only_if, maxima, downs}
use Rattle.rules.specs.Statements.{Stmt, nothing, pause, emit, present?◌then◌else◌, suspend◌on◌, ◌⨾◌, loop, ◌parallel◌, trap, exit, local, code}

-- The codes that can gives a started statement with every signal, locals too, held unknown; a loop's own are its body's without 0.
unfoldable pub codes_of : Stmt → Numbers
codes_of nothing = single 0
codes_of (pause n) = single 1
codes_of (emit s) = single 0
codes_of (present? s then p else q) = union (codes_of p) (codes_of q)
codes_of (suspend p on s) = codes_of p
codes_of (p ⨾ q) = union (without 0 (codes_of p)) (only_if (codes_of p 0) (codes_of q))
codes_of (loop p) = without 0 (codes_of p)
codes_of (p parallel q) = maxima (codes_of p) (codes_of q)
codes_of (trap p) = downs (codes_of p)
codes_of (exit d) = single (code d)
codes_of (local s p) = codes_of p

-- No loop body, wherever the loop stands, may complete with 0 when started.
unfoldable pub loops_pass : Stmt → Bool
unfolding codes_of
loops_pass nothing = true
loops_pass (pause n) = true
loops_pass (emit s) = true
loops_pass (present? s then p else q) = loops_pass p && loops_pass q
loops_pass (suspend p on s) = loops_pass p
loops_pass (p ⨾ q) = loops_pass p && loops_pass q
loops_pass (loop p) = not (codes_of p 0) && loops_pass p
loops_pass (p parallel q) = loops_pass p && loops_pass q
loops_pass (trap p) = loops_pass p
loops_pass (exit d) = true
loops_pass (local s p) = loops_pass p
