-- The block file and its reading: "The block file" of document 01, with the numbers 1 to 8 and their places. The reading is a
-- function of the block's bytes. Assumes nothing.
use Rattle.std.specs.Prelude.{Bool, not, cond, ◌&&◌, ◌||◌, List, [], ◌∷◌, ℕ, zero, suc, ◌+◌, ◌-◌, ◌*◌, eqb, ltb, leb, length, get_or, take}
use Rattle.std.proofs.Math.Option.{Option, none, some}
use Rattle.sets.specs.Numbers.{Numbers, empty, single, union}
-- The records follow in preorder; who knows the format takes the order from here.
unfoldable pub use Rattle.rules.specs.Statements.{preorder}
pub use Rattle.rules.specs.Statements.{numbered}
use Rattle.rules.specs.Statements.{depth, Stmt, nothing, pause, emit, present?◌then◌else◌, suspend◌on◌, ◌⨾◌, loop, ◌parallel◌, trap, exit, local}
use Rattle.tables.specs.Kinds.{length_of, children_of}
use Rattle.tables.specs.Table.{kind_of}
use Rattle.tables.specs.Codes.{lowest_endless}

-- The numbers given back.
abbrev pub BROKEN : ℕ
BROKEN = 1

abbrev pub KIND : ℕ
KIND = 2

abbrev pub EDITION : ℕ
EDITION = 3

abbrev pub LIMIT : ℕ
LIMIT = 4

abbrev pub SIGNAL : ℕ
SIGNAL = 5

abbrev pub EXIT : ℕ
EXIT = 6

abbrev pub SHAPE : ℕ
SHAPE = 7

abbrev pub LOOP : ℕ
LOOP = 8

-- Records in house form, little-endian: two bytes length of the whole record, two bytes kind, then operands of two bytes each.
abbrev pub two_bytes : List ℕ → ℕ → ℕ
two_bytes b at = get_or b at 0 + 256 * get_or b (at + 1) 0

abbrev pub length_at : List ℕ → ℕ → ℕ
length_at b at = two_bytes b at

abbrev pub kind_at : List ℕ → ℕ → ℕ
kind_at b at = two_bytes b (at + 2)

abbrev pub operand_at : List ℕ → ℕ → ℕ
operand_at b at = two_bytes b (at + 4)

-- Fewer than 4 bytes are left, or the length is below 4 or above what is left.
unfoldable pub is_broken : List ℕ → ℕ → Bool
is_broken b at = ltb (length b - at) 4 || (ltb (length_at b at) 4 || ltb (length b - at) (length_at b at))

-- Header: kind 1, length 14: edition (1), version, inputs, outputs, locals. It is first.
pub record Header : Type 0 where
  pub version : ℕ
  pub inputs : ℕ
  pub outputs : ℕ
  pub locals : ℕ

unfoldable pub header : List ℕ → Header
header b = record { version = two_bytes b 6; inputs = two_bytes b 8; outputs = two_bytes b 10; locals = two_bytes b 12 }

-- The number that the header gets where the edition is to be e, the lowest where several apply; 0 where it is good. At most 64 signals.
unfoldable pub header_fault_in : ℕ → List ℕ → ℕ
header_fault_in e b =
    let h = header b in
    cond (is_broken b 0) BROKEN
    (cond (not (eqb (kind_at b 0) 1 && eqb (length_at b 0) 14)) KIND
    (cond (not (eqb (two_bytes b 4) e)) EDITION
    (cond (ltb 64 (h.inputs + h.outputs + h.locals)) LIMIT
    0)))

unfoldable pub header_fault : List ℕ → ℕ
unfolding header_fault_in
header_fault b = header_fault_in 1 b

-- What has been read: the first byte not read yet, and how many statements, pauses and locals there were.
pub record Sofar : Type 0 where
  pub place : ℕ
  pub statements : ℕ
  pub pauses : ℕ
  pub locals : ℕ

-- What stands around a statement: how many traps, how many locals, and which signals these locals are.
pub record Around : Type 0 where
  pub traps : ℕ
  pub nested : ℕ
  pub scope : Numbers

-- The signals that may stand here: inputs from 0, then outputs, then the locals in whose bodies the statement is.
abbrev pub declared_here : Header → Around → ℕ → Bool
declared_here h a s = ltb s (h.inputs + h.outputs) || a.scope s

-- Room is how many statements may still stand on the path; this record passes it, or another limit.
unfoldable pub over_limit : ℕ → Around → Sofar → ℕ → Bool
over_limit room a r k =
    eqb room 0
    || (leb 512 r.statements
    || (eqb k 17 && leb 128 r.pauses
    || (eqb k 24 && leb 16 a.traps
    || eqb k 26 && leb 6 a.nested)))

-- Signal not declared, local used outside its body, emit of an input, local's number not the next.
unfoldable pub wrong_signal : Header → Around → Sofar → ℕ → ℕ → Bool
wrong_signal h a r k s =
    eqb k 18 && not (leb h.inputs s && declared_here h a s)
    || ((eqb k 19 || eqb k 20) && not (declared_here h a s)
    || eqb k 26 && not (ltb r.locals h.locals && eqb s (h.inputs + h.outputs + r.locals)))

-- Depth at or above the number of enclosing traps.
unfoldable pub wrong_exit : Around → ℕ → ℕ → Bool
wrong_exit a k d = eqb k 25 && leb a.traps d

-- The number that a record gets as one of kind k, the lowest where several apply; 0 where it is good.
unfoldable pub fault_as : ℕ → List ℕ → Header → Around → Sofar → ℕ → ℕ
fault_as room b h a r k =
    let at = r.place in
    cond (is_broken b at) BROKEN
    (cond (not (eqb (length_of k) (length_at b at))) KIND
    (cond (over_limit room a r k) LIMIT
    (cond (wrong_signal h a r k (operand_at b at)) SIGNAL
    (cond (wrong_exit a k (operand_at b at)) EXIT
    0))))

-- A due statement's record, by its own kind.
unfoldable pub statement_fault : ℕ → List ℕ → Header → Around → Sofar → ℕ
unfolding fault_as
statement_fault room b h a r = cond (leb (length b) r.place) SHAPE (fault_as room b h a r (kind_at b r.place))

-- What has been read after a good record of kind k.
unfoldable pub past : ℕ → Sofar → Sofar
past k r = record {
  place = r.place + length_of k;
  statements = r.statements + 1;
  pauses = r.pauses + cond (eqb k 17) 1 0;
  locals = r.locals + cond (eqb k 26) 1 0;
}

-- What stands around the children of a statement with kind k and operand s.
unfoldable pub inside : ℕ → ℕ → Around → Around
inside k s a = record {
  traps = a.traps + cond (eqb k 24) 1 0;
  nested = a.nested + cond (eqb k 26) 1 0;
  scope = cond (eqb k 26) (union (single s) a.scope) a.scope;
}

-- The statement of a kind and an operand, with its children. Pauses are numbered from 0 in preorder: a pause takes the number
-- of pauses before it.
unfoldable pub leaf : ℕ → ℕ → ℕ → Stmt
leaf k x before = cond (eqb k 16) nothing (cond (eqb k 17) (pause before) (cond (eqb k 18) (emit x) (exit (depth x))))

unfoldable pub above : ℕ → ℕ → Stmt → Stmt
above k x p = cond (eqb k 20) (suspend p on x) (cond (eqb k 22) (loop p) (cond (eqb k 24) (trap p) (local x p)))

unfoldable pub joined : ℕ → ℕ → Stmt → Stmt → Stmt
joined k x p q = cond (eqb k 19) (present? x then p else q) (cond (eqb k 21) (p ⨾ q) (p parallel q))

-- A statement that was read and what had been read after it, or the first record at fault: its number and place.
pub data Got : Type 0 where
  got : Stmt → Sofar → Got
  refused : ℕ → ℕ → Got

abbrev pub and_then : Got → (Stmt → Sofar → Got) → Got
and_then (got p r) f = f p r
and_then (refused n at) f = refused n at

-- A statement directly followed by its children, which `child` reads one after the other.
abbrev pub with_children : ℕ → (Sofar → Got) → ℕ → ℕ → ℕ → Sofar → Got
with_children zero child k x before r = got (leaf k x before) r
with_children (suc zero) child k x before r = and_then (child r) λ p r₁. got (above k x p) r₁
with_children (suc (suc more)) child k x before r = and_then (child r) λ p r₁. and_then (child r₁) λ q r₂. got (joined k x p q) r₂

-- The statements follow in preorder: a record at fault, or its statement.
unfoldable pub read : ℕ → List ℕ → Header → Around → Sofar → Got
read zero b h a r = refused (statement_fault zero b h a r) r.place
read (suc room) b h a r =
    let n = statement_fault (suc room) b h a r in
    let k = kind_at b r.place in
    let x = operand_at b r.place in
    let whole = with_children (children_of k) (read room b h (inside k x a)) k x r.pauses (past k r) in
    cond (eqb n 0) whole (refused n r.place)

-- How many bytes the records of some statements take.
unfoldable pub bytes : List Stmt → ℕ
bytes [] = 0
bytes (p ∷ ps) = length_of (kind_of p) + bytes ps

-- The offset of statement n: the header and the records of all statements before it.
unfoldable pub offset : Stmt → ℕ → ℕ
offset p n = 14 + bytes (take n (preorder p))

-- A good reading: the header and the tree, how many statements and how many pauses it has.
pub record Good : Type 0 where
  pub header : Header
  pub body : Stmt
  pub statements : ℕ
  pub pauses : ℕ

pub data Reading : Type 0 where
  good : Good → Reading
  turned_down : ℕ → ℕ → Reading

-- LOOP comes after a whole good reading.
unfoldable pub loops_checked : Good → Option ℕ → Reading
loops_checked g none = good g
loops_checked g (some n) = turned_down LOOP (offset g.body n)

-- After the tree no bytes are left, and as many locals as declared have been read; else SHAPE at the first byte not read.
unfoldable pub ended : List ℕ → Header → Got → Reading
ended b h (refused n at) = turned_down n at
ended b h (got p r) =
    cond (eqb r.place (length b) && eqb r.locals h.locals)
    (loops_checked (record { header = h; body = p; statements = r.statements; pauses = r.pauses }) (lowest_endless p))
    (turned_down SHAPE r.place)

-- Nothing stands around the first statement, which comes after the header.
abbrev pub outermost : Around
outermost = record { traps = 0; nested = 0; scope = empty }

abbrev pub begun : Sofar
begun = record { place = 14; statements = 0; pauses = 0; locals = 0 }

-- The size test, before all else; the header; the statements, at most 64 on a path from the root; the end.
unfoldable pub reading : List ℕ → Reading
reading b =
    let statements_read = ended b (header b) (read 64 b (header b) outermost begun) in
    cond (ltb 3086 (length b)) (turned_down LIMIT 0)
    (cond (eqb (header_fault b) 0) statements_read
    (turned_down (header_fault b) 0))
