-- The bytes of a block: "The block file" of document 01, from a header and a tree to bytes; and which trees can be written.
-- Assumes nothing.
use Rattle.std.specs.Prelude.{◌≡◌, true, List, [], ◌∷◌, ◌++◌, ℕ, zero, suc, ◌+◌, ◌≤◌, ◌<◌, length, Option, Some, None}
use Rattle.sets.specs.Numbers.{empty}
use Rattle.rules.specs.Statements.{Stmt, pauses, Numbered, Trapped}
use Rattle.rules.specs.Loops.{loops_pass}
use Rattle.tables.specs.Table.{kind_of, operand_of, statements}
use Rattle.block.specs.Format.{Header, Good, preorder}
use Rattle.tables.specs.declared.kinds.Shape.{Shape}
use Rattle.tables.specs.Kinds.{shape}
use Rattle.block.specs.Good.{Scoped, path, nested_traps, nested_locals, locals, Next}
use Rattle.records.specs.Numerals.{in_bytes}

-- Operands of two bytes each: a kind has none or one.
abbrev pub operand_bytes : ℕ → ℕ → List ℕ
operand_bytes zero x = []
operand_bytes (suc n) x = in_bytes 2 x

-- A record in house form: two bytes length of the whole record, two bytes kind, then operands of two bytes each. A kind that is
-- not allowed has no record.
unfoldable pub shaped_bytes : ℕ → ℕ → Option Shape → List ℕ
unfolding in_bytes
shaped_bytes k x None = []
shaped_bytes k x (Some s) = in_bytes 2 s.length ++ (in_bytes 2 k ++ operand_bytes s.operands x)

abbrev pub record_bytes : ℕ → ℕ → List ℕ
record_bytes k x = shaped_bytes k x (shape k)

-- The records of some statements, one after the other. A pause's number is counted, not written: its kind has no operand.
unfoldable pub records : List Stmt → List ℕ
records [] = []
records (p ∷ ps) = record_bytes (kind_of p) (operand_of p) ++ records ps

-- Header: kind 1, length 14: edition (1), version, inputs, outputs, locals.
unfoldable pub header_bytes : Header → List ℕ
unfolding in_bytes
header_bytes h =
    in_bytes 2 14 ++ (in_bytes 2 1 ++ (in_bytes 2 1
    ++ (in_bytes 2 h.version ++ (in_bytes 2 h.inputs ++ (in_bytes 2 h.outputs ++ in_bytes 2 h.locals)))))

-- The header is first; the statements follow in preorder.
unfoldable pub block_bytes : Header → Stmt → List ℕ
block_bytes h t = header_bytes h ++ records (preorder t)

-- A tree within the limits, with exits, pauses, signals, locals and loops as a good block has them. Any version is good.
pub record Writable (h : Header) (t : Stmt) : Type 0 where
  pub version_fits : h.version < 65536
  pub signals : h.inputs + h.outputs + h.locals ≤ 64
  pub few_statements : statements t ≤ 512
  pub few_pauses : length (pauses t) ≤ 128
  pub traps_nested : nested_traps t ≤ 16
  pub locals_nested : nested_locals t ≤ 6
  pub paths : path t ≤ 64
  pub trapped : Trapped 0 t
  pub pauses_numbered : Numbered 0 t
  pub scoped : Scoped h.inputs h.outputs empty t
  pub locals_counted : h.locals ≡ length (locals t)
  pub locals_next : Next (h.inputs + h.outputs) t
  pub loops : loops_pass t ≡ true

-- What a reading of a written block gives: its header and tree, and how many statements and pauses it has.
abbrev pub written : Header → Stmt → Good
written h t = record { header = h; body = t; statements = statements t; pauses = length (pauses t) }
