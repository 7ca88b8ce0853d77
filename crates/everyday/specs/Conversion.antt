-- A statement of edition 2 written in edition 1. Assumes nothing.
use Rattle.std.specs.Prelude.{Bool, true, false, cond, ℕ, zero, suc, ◌+◌}
use Rattle.rules.specs.Statements.{Depth, depth, Stmt, present?◌then◌else◌, suspend◌on◌, ◌⨾◌, ◌parallel◌}
use Rattle.everyday.specs.Statements.{Alone, nothing, pause, halt, emit, sustain, await, exit, Around, suspend_on, loop, trap, local, abort_when}
use Rattle.everyday.specs.Statements.{Between, present_then_else, in_sequence, in_parallel, Everyday, alone, around, between, is_stop}

-- loop (pause; present s then exit 0 else nothing), the pause having the number j.
abbrev pub watch : ℕ → ℕ → Stmt
watch s j = Stmt.loop (Stmt.pause j ⨾ (present? s then Stmt.exit (depth 0) else Stmt.nothing))

-- An exit one deeper.
abbrev pub deeper : Depth → Depth
deeper (depth d) = depth (suc d)

-- `out` has the depth, in the conversion, of an exit that leaves a statement. Of the exits in a trap's body the trap's own leave no more than the body.
abbrev pub past_trap : (Depth → Depth) → Depth → Depth
past_trap out (depth zero) = depth zero
past_trap out (depth (suc d)) = deeper (out (depth d))

-- The exits of the statement below: every exit that leaves an abort's body goes one deeper.
abbrev pub out_of : Around → (Depth → Depth) → Depth → Depth
out_of (suspend_on s) out d = out d
out_of loop out d = out d
out_of trap out d = past_trap out d
out_of (local s) out d = out d
out_of (abort_when s) out d = deeper (out d)

-- How many pauses the conversion has: one for each stop, and one that watches for each abort.
unfoldable pub watches : Around → Bool
watches (suspend_on s) = false
watches loop = false
watches trap = false
watches (local s) = false
watches (abort_when s) = true

unfoldable pub pauses_made : Everyday → ℕ
unfolding is_stop watches
pauses_made (alone a) = cond (is_stop a) 1 0
pauses_made (around f p) = pauses_made p + cond (watches f) 1 0
pauses_made (between o p q) = pauses_made p + pauses_made q

-- halt is loop pause; sustain is loop (emit s; pause); await is trap loop (pause; present s then exit 0 else nothing).
abbrev pub alone_made : (Depth → Depth) → ℕ → Alone → Stmt
alone_made out j nothing = Stmt.nothing
alone_made out j pause = Stmt.pause j
alone_made out j halt = Stmt.loop (Stmt.pause j)
alone_made out j (emit s) = Stmt.emit s
alone_made out j (sustain s) = Stmt.loop (Stmt.emit s ⨾ Stmt.pause j)
alone_made out j (await s) = Stmt.trap (watch s j)
alone_made out j (exit d) = Stmt.exit (out d)

-- abort is a trap around (suspend p on s; exit 0) parallel loop (pause; present s then exit 0 else nothing), the last pause having the number j.
abbrev pub around_made : Around → ℕ → Stmt → Stmt
around_made (suspend_on s) j p = suspend p on s
around_made loop j p = Stmt.loop p
around_made trap j p = Stmt.trap p
around_made (local s) j p = Stmt.local s p
around_made (abort_when s) j p = Stmt.trap (((suspend p on s) ⨾ Stmt.exit (depth 0)) parallel watch s j)

abbrev pub between_made : Between → Stmt → Stmt → Stmt
between_made (present_then_else s) p q = present? s then p else q
between_made in_sequence p q = p ⨾ q
between_made in_parallel p q = p parallel q

-- The conversion, its pauses numbered from j in preorder.
unfoldable pub convert : (Depth → Depth) → ℕ → Everyday → Stmt
unfolding pauses_made
convert out j (alone a) = alone_made out j a
convert out j (around f p) = around_made f (j + pauses_made p) (convert (out_of f out) j p)
convert out j (between o p q) = between_made o (convert out j p) (convert out (j + pauses_made p) q)

-- Of a whole block: its exits leave it as they are.
abbrev pub as_it_is : Depth → Depth
as_it_is d = d

unfoldable pub converted : Everyday → Stmt
unfolding convert
converted p = convert as_it_is 0 p
