-- What the code's structs and enums say, in the words of Format and Table. Assumes nothing.
use Rattle.std.specs.Prelude.{◌≡◌, ℕ, zero, suc, ◌+◌, ◌≤◌, ◌<◌, T, get_or, length, Result, Ok, Err, ⊤}
use Rattle.refusals.specs.Refusals.{why_of}
use Rattle.refusals.specs.declared.Refused.{Refused}
use Rattle.sets.specs.Words.{bits}
use Rattle.tables.specs.Table.{Has}
use Rattle.tables.specs.declared.Table.{Table}
use Rattle.block.specs.Format.{Header, Sofar, Around, Got, got, refused, Good, Reading, good, turned_down}
use Rattle.block.specs.declared.Declared.{Declared}
use Rattle.block.specs.declared.Cursor.{Cursor}
use Rattle.block.specs.declared.Context.{Context}
use Rattle.block.specs.declared.whole.Summary.{Summary}

-- The header that the code carries.
abbrev pub header_of : Declared → Header
header_of d = record { version = d.version; inputs = d.inputs; outputs = d.outputs; locals = d.locals }

abbrev pub sofar_of : Cursor → Sofar
sofar_of c = record { place = c.at; statements = c.statements; pauses = c.pauses; locals = c.locals }

-- The locals in scope are the bits of a word.
abbrev pub around_of : Context → Around
around_of c = record { traps = c.traps; nested = c.nested; scope = bits c.scope }

abbrev pub cursor_of : Sofar → Cursor
cursor_of r = record { at = r.place; statements = r.statements; pauses = r.pauses; locals = r.locals }

-- What holds wherever a statement is read: a block of the given size, at most 64 signals, and counts within the limits.
pub record Ready (size : ℕ) (d : Declared) (c : Context) (r : Cursor) : Type 0 where
  pub fits : size ≤ 3086
  pub signals : d.inputs + d.outputs + d.locals ≤ 64
  pub few_traps : c.traps ≤ 16
  pub few_nested : c.nested ≤ 6
  pub small_scope : (s : ℕ) → T (bits c.scope s) → s < 64
  pub few_pauses : r.pauses ≤ 128
  pub few_locals : r.locals ≤ d.locals

-- The refusal with a number, at a place.
abbrev pub refusal_of : ℕ → ℕ → Refused
refusal_of n at = record { why = why_of n; place = at }

-- The code's answer to the tests of a record at a place, by the number that it gets.
unfoldable pub tested : ℕ → ℕ → Result ⊤ Refused
tested zero at = Ok tt
tested (suc n) at = Err (refusal_of (suc n) at)

-- The code's answer to the reading of a statement.
unfoldable pub told : Got → Result Cursor Refused
told (got p r) = Ok (cursor_of r)
told (refused n at) = Err (refusal_of n at)

-- A statement that was read stands in the table.
unfoldable pub Built : Got → ℕ → Table → Type 0
Built (got p r) i tab = Has tab i p
Built (refused n at) i tab = Unit {0}

-- Two tables have the same row at i.
pub record Same (before after : Table) (i : ℕ) : Type 0 where
  pub same_kind : get_or after.kinds i 0 ≡ get_or before.kinds i 0
  pub same_operand : get_or after.operands i 0 ≡ get_or before.operands i 0
  pub same_size : get_or after.sizes i 0 ≡ get_or before.sizes i 0

-- The table has room for 512 statements.
pub record Full (tab : Table) : Type 0 where
  pub all_kinds : length tab.kinds ≡ 512
  pub all_operands : length tab.operands ≡ 512
  pub all_sizes : length tab.sizes ≡ 512

-- A statement is read into the table from row i on; the rows below stay.
pub record Reads (g : Got) (i : ℕ) (before after : Table) (answer : Result Cursor Refused) : Type 0 where
  pub answered : answer ≡ told g
  pub built : Built g i after
  pub kept : (j : ℕ) → j < i → Same before after j
  pub full : Full after

-- What the code says of a good reading, and its answer to the reading of a whole block.
abbrev pub summary_of : Good → Summary
summary_of g = record {
  version = g.header.version;
  inputs = g.header.inputs;
  outputs = g.header.outputs;
  locals = g.header.locals;
  statements = g.statements;
  pauses = g.pauses;
}

unfoldable pub answer_to : Reading → Result Summary Refused
answer_to (good g) = Ok (summary_of g)
answer_to (turned_down n at) = Err (refusal_of n at)

-- The tree of a good reading stands in the table, from its first row on.
unfoldable pub InTable : Reading → Table → Type 0
InTable (good g) tab = Has tab 0 g.body
InTable (turned_down n at) tab = Unit {0}

-- A whole block is read: the answer, and on a good reading the table.
pub record ReadWhole (x : Reading) (tab : Table) (answer : Result Summary Refused) : Type 0 where
  pub answered : answer ≡ answer_to x
  pub stands : InTable x tab
  pub full : Full tab
