-- What the conversion of a statement takes, from what the conversions of those below it take: so its limits are known before a byte is written. Assumes nothing.
use Rattle.std.specs.Prelude.{Bool, ◌&&◌, ℕ, ◌+◌, max, leb}
use Rattle.rules.specs.Statements.{Stmt, statements}
use Rattle.block.specs.Format.{Header, preorder, bytes}
use Rattle.block.specs.Good.{path, nested_traps, nested_locals}
use Rattle.everyday.specs.Statements.{Alone, nothing, pause, halt, emit, sustain, await, exit, Around, suspend_on, loop, trap, local, abort_when}
use Rattle.everyday.specs.Statements.{Between, present_then_else, in_sequence, in_parallel, Everyday, alone, around, between}

-- Statements, the longest path, nested traps, nested locals, and the bytes of the records.
pub record Size : Type 0 where
  pub statements : ℕ
  pub path : ℕ
  pub traps : ℕ
  pub nested : ℕ
  pub bytes : ℕ

-- The size of a tree of edition 1.
unfoldable pub size : Stmt → Size
unfolding statements path nested_traps nested_locals preorder bytes
size t = record { statements = statements t; path = path t; traps = nested_traps t; nested = nested_locals t; bytes = bytes (preorder t) }

abbrev pub sized : ℕ → ℕ → ℕ → ℕ → Size
sized statements path traps bytes = record { statements = statements; path = path; traps = traps; nested = 0; bytes = bytes }

-- Halt takes two statements, sustain four, await seven.
abbrev pub alone_size : Alone → Size
alone_size nothing = sized 1 1 0 4
alone_size pause = sized 1 1 0 4
alone_size halt = sized 2 2 0 8
alone_size (emit s) = sized 1 1 0 6
alone_size (sustain s) = sized 4 3 0 18
alone_size (await s) = sized 7 5 1 32
alone_size (exit d) = sized 1 1 0 6

-- An abort takes eleven besides its body, four of them above it.
abbrev pub around_size : Around → Size → Size
around_size (suspend_on s) p = record { statements = 1 + p.statements; path = 1 + p.path; traps = p.traps; nested = p.nested; bytes = 6 + p.bytes }
around_size loop p = record { statements = 1 + p.statements; path = 1 + p.path; traps = p.traps; nested = p.nested; bytes = 4 + p.bytes }
around_size trap p = record { statements = 1 + p.statements; path = 1 + p.path; traps = 1 + p.traps; nested = p.nested; bytes = 4 + p.bytes }
around_size (local s) p = record { statements = 1 + p.statements; path = 1 + p.path; traps = p.traps; nested = 1 + p.nested; bytes = 6 + p.bytes }
around_size (abort_when s) p =
    record { statements = 11 + p.statements; path = max (4 + p.path) 6; traps = 1 + p.traps; nested = p.nested; bytes = 52 + p.bytes }

abbrev pub both_size : ℕ → Size → Size → Size
both_size own p q = record {
  statements = 1 + p.statements + q.statements;
  path = 1 + max p.path q.path;
  traps = max p.traps q.traps;
  nested = max p.nested q.nested;
  bytes = own + (p.bytes + q.bytes);
}

abbrev pub between_size : Between → Size → Size → Size
between_size (present_then_else s) p q = both_size 6 p q
between_size in_sequence p q = both_size 4 p q
between_size in_parallel p q = both_size 4 p q

unfoldable pub size₂ : Everyday → Size
size₂ (alone a) = alone_size a
size₂ (around f p) = around_size f (size₂ p)
size₂ (between o p q) = between_size o (size₂ p) (size₂ q)

-- The limits: at most 64 signals, 512 statements, 128 pauses, 16 nested traps, 6 nested locals, and 64 statements on a path.
unfoldable pub fits : Header → Size → ℕ → Bool
fits h s pauses =
    leb (h.inputs + h.outputs + h.locals) 64
    && (leb s.statements 512 && (leb pauses 128 && (leb s.traps 16 && (leb s.nested 6 && leb s.path 64))))
