-- The records of a conversion in the order in which they are written: those before the statement below, its own, and those behind. Assumes nothing.
use Rattle.std.specs.Prelude.{Bool, true, false, List, [], ◌∷◌, ◌++◌, ℕ, zero, suc}
use Rattle.rules.specs.Statements.{Depth, depth, exit}
use Rattle.tables.specs.Table.{operand_of}
use Rattle.writing.specs.Written.{record_bytes}
use Rattle.everyday.specs.Statements.{Alone, Around, Between, Everyday, alone, around, between, suspend_on, abort_when, present_then_else, in_sequence, in_parallel}
use Rattle.everyday.specs.Conversion.{deeper, out_of}

-- loop (pause; present s then exit 0 else nothing)
abbrev pub watch_bytes : ℕ → List ℕ
watch_bytes s = record_bytes 22 0 ++ (record_bytes 21 0 ++ (record_bytes 17 0 ++ (record_bytes 19 s ++ (record_bytes 25 0 ++ record_bytes 16 0))))

abbrev pub alone_bytes : (Depth → Depth) → Alone → List ℕ
alone_bytes out Alone.nothing = record_bytes 16 0
alone_bytes out Alone.pause = record_bytes 17 0
alone_bytes out Alone.halt = record_bytes 22 0 ++ record_bytes 17 0
alone_bytes out (Alone.emit s) = record_bytes 18 s
alone_bytes out (Alone.sustain s) = record_bytes 22 0 ++ (record_bytes 21 0 ++ (record_bytes 18 s ++ record_bytes 17 0))
alone_bytes out (Alone.await s) = record_bytes 24 0 ++ watch_bytes s
alone_bytes out (Alone.exit d) = record_bytes 25 (operand_of (exit (out d)))

abbrev pub bytes_before : Around → List ℕ
bytes_before (suspend_on s) = record_bytes 20 s
bytes_before Around.loop = record_bytes 22 0
bytes_before Around.trap = record_bytes 24 0
bytes_before (Around.local s) = record_bytes 26 s
bytes_before (abort_when s) = record_bytes 24 0 ++ (record_bytes 23 0 ++ (record_bytes 21 0 ++ record_bytes 20 s))

abbrev pub bytes_behind : Around → List ℕ
bytes_behind (suspend_on s) = []
bytes_behind Around.loop = []
bytes_behind Around.trap = []
bytes_behind (Around.local s) = []
bytes_behind (abort_when s) = record_bytes 25 0 ++ watch_bytes s

abbrev pub bytes_between : Between → List ℕ
bytes_between (present_then_else s) = record_bytes 19 s
bytes_between in_sequence = record_bytes 21 0
bytes_between in_parallel = record_bytes 23 0

unfoldable pub made_bytes : (Depth → Depth) → Everyday → List ℕ
made_bytes out (alone a) = alone_bytes out a
made_bytes out (around f p) = bytes_before f ++ (made_bytes (out_of f out) p ++ bytes_behind f)
made_bytes out (between o p q) = bytes_between o ++ (made_bytes out p ++ made_bytes out q)

-- The traps (true) and the aborts (false) around a statement, the innermost first. An exit passes over each, and only a trap is counted in its depth.
unfoldable pub out_by : List Bool → Depth → Depth
out_by [] d = d
out_by (true ∷ ms) (depth zero) = depth zero
out_by (true ∷ ms) (depth (suc d)) = deeper (out_by ms (depth d))
out_by (false ∷ ms) d = deeper (out_by ms d)
