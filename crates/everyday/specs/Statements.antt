-- The statements of edition 2: the eleven of edition 1, and halt, sustain, await and abort. They are sorted by how many statements stand below them,
-- so that what all of a sort have in common is said once. Assumes nothing.
use Rattle.std.specs.Prelude.{Bool, true, false, cond, ℕ, ◌+◌}
use Rattle.rules.specs.Statements.{Depth}

-- Seven stand alone.
pub data Alone : Type 0 where
  nothing pause halt : Alone
  emit sustain await : ℕ → Alone
  exit : Depth → Alone

-- Five stand around one: `suspend p on s`, loop, trap, a local with its signal, `abort p when s`.
pub data Around : Type 0 where
  suspend_on : ℕ → Around
  loop trap : Around
  local : ℕ → Around
  abort_when : ℕ → Around

-- Three stand between two: `present s then p else q`, the sequence, the parallel.
pub data Between : Type 0 where
  present_then_else : ℕ → Between
  in_sequence in_parallel : Between

pub data Everyday : Type 0 where
  alone : Alone → Everyday
  around : Around → Everyday → Everyday
  between : Between → Everyday → Everyday → Everyday

-- Pause, halt, sustain and await are stops: an instant may end there.
unfoldable pub is_stop : Alone → Bool
is_stop nothing = false
is_stop pause = true
is_stop halt = true
is_stop (emit s) = false
is_stop (sustain s) = true
is_stop (await s) = true
is_stop (exit d) = false

-- How many stops a statement has. They are numbered in preorder, those of a block from 0; an abort has none of its own.
unfoldable pub stops : Everyday → ℕ
unfolding is_stop
stops (alone a) = cond (is_stop a) 1 0
stops (around f p) = stops p
stops (between o p q) = stops p + stops q
