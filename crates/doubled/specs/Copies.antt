-- The block with each loop body in sequence with itself, from the inside out, with locals numbered anew, the header else kept.
-- Assumes nothing.
use Rattle.std.specs.Prelude.{Bool, not, cond, ◌&&◌, List, ℕ, ◌+◌, leb, length}
use Rattle.rules.specs.Statements.{Block, Stmt, nothing, pause, emit, present?◌then◌else◌, suspend◌on◌, ◌⨾◌, loop, ◌parallel◌, trap, exit, local, pauses}
use Rattle.likeness.specs.Likeness.{naming}
use Rattle.tables.specs.Table.{statements}
use Rattle.block.specs.Format.{LIMIT, Header, Good, Reading, good, turned_down, reading}
use Rattle.block.specs.Good.{path, nested_traps, nested_locals, locals}
use Rattle.writing.specs.Written.{block_bytes}
use Rattle.writing.specs.Answers.{Writing, writes, refuses}

-- Each loop body in sequence with itself, the loops inside it too. Pauses are numbered anew in preorder, here from j on.
unfoldable pub copies : ℕ → Stmt → Stmt
unfolding pauses
copies j nothing = nothing
copies j (pause n) = pause j
copies j (emit s) = emit s
copies j (present? s then p else q) = present? s then copies j p else copies (j + length (pauses (copies j p))) q
copies j (suspend p on s) = suspend (copies j p) on s
copies j (p ⨾ q) = copies j p ⨾ copies (j + length (pauses (copies j p))) q
copies j (loop p) = loop (copies j p ⨾ copies (j + length (pauses (copies j p))) p)
copies j (p parallel q) = copies j p parallel copies (j + length (pauses (copies j p))) q
copies j (trap p) = trap (copies j p)
copies j (exit d) = exit d
copies j (local s p) = local s (copies j p)

-- Locals numbered anew in preorder of declaration, here from n on; ρ has the names of the signals in scope.
unfoldable pub renamed : (ℕ → ℕ) → ℕ → Stmt → Stmt
unfolding locals
renamed ρ n nothing = nothing
renamed ρ n (pause k) = pause k
renamed ρ n (emit s) = emit (ρ s)
renamed ρ n (present? s then p else q) = present? (ρ s) then renamed ρ n p else renamed ρ (n + length (locals p)) q
renamed ρ n (suspend p on s) = suspend (renamed ρ n p) on (ρ s)
renamed ρ n (p ⨾ q) = renamed ρ n p ⨾ renamed ρ (n + length (locals p)) q
renamed ρ n (loop p) = loop (renamed ρ n p)
renamed ρ n (p parallel q) = renamed ρ n p parallel renamed ρ (n + length (locals p)) q
renamed ρ n (trap p) = trap (renamed ρ n p)
renamed ρ n (exit d) = exit d
renamed ρ n (local s p) = local n (renamed (naming ρ s n) (n + 1) p)

-- Inputs and outputs keep their numbers; the locals come after them.
abbrev pub itself : ℕ → ℕ
itself s = s

unfoldable pub doubled : Header → Stmt → Stmt
doubled h t = renamed itself (h.inputs + h.outputs) (copies 0 t)

-- The header else kept: the version, the inputs and the outputs as they were, and the locals that there now are.
unfoldable pub doubled_header : Header → Stmt → Header
unfolding locals doubled
doubled_header h t = record { version = h.version; inputs = h.inputs; outputs = h.outputs; locals = length (locals (doubled h t)) }

-- The limits: at most 64 signals, 512 statements, 128 pauses, 16 nested traps, 6 nested locals, and 64 statements on a path.
unfoldable pub within_limits : Header → Stmt → Bool
within_limits h t =
    leb (h.inputs + h.outputs + h.locals) 64
    && (leb (statements t) 512 && (leb (length (pauses t)) 128 && (leb (nested_traps t) 16 && (leb (nested_locals t) 6 && leb (path t) 64))))

-- The doubled block's bytes, or 4 with place 0 where it passes a limit.
unfoldable pub doubled_writing : Header → Stmt → Writing
unfolding doubled doubled_header within_limits
doubled_writing h t = cond (within_limits (doubled_header h t) (doubled h t)) (writes (block_bytes (doubled_header h t) (doubled h t))) (refuses LIMIT 0)

-- What is to be written: after 1 to 8 of the block itself.
unfoldable pub doubling_of : Reading → Writing
unfolding doubled_writing
doubling_of (turned_down n at) = refuses n at
doubling_of (good g) = doubled_writing g.header g.body

unfoldable pub doubling : List ℕ → Writing
doubling b = doubling_of (reading b)
