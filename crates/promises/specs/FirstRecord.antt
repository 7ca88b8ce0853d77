-- The order within 1 to 8: "After the size test the records are read from the front; the first record at fault decides, and within it the lowest
-- number. LOOP comes after a whole good reading." The tests of a record, each on its own, and what it is to be read from the front. Assumes nothing.
use Rattle.std.specs.Prelude.{◌≡◌, ◌⊎◌, ◌≢◌, List, [], ◌∷◌, ◌++◌, ℕ, zero, suc, ◌+◌, ◌-◌, ◌≤◌, ◌<◌, T, length}
use Rattle.rules.specs.Statements.{Stmt}
use Rattle.tables.specs.Table.{statements}
use Rattle.block.specs.Format.{BROKEN, KIND, EDITION, LIMIT, SIGNAL, EXIT, SHAPE, LOOP, two_bytes, length_at, kind_at, operand_at, Header, header}
use Rattle.tables.specs.Kinds.{length_of, children_of}
use Rattle.block.specs.Format.{Sofar, Around, declared_here, past, inside, got, read, numbered, offset, Good, Reading, good, turned_down, outermost, begun}
use Rattle.tables.specs.Codes.{endless}
use Rattle.promises.specs.Tests.{Test, First}

-- Bytes from a place on that hold no whole record: fewer than 4 left, length below 4 or above what is left.
pub data Broken (b : List ℕ) (at : ℕ) : Type 0 where
  fewer_than_4 : length b - at < 4 → Broken b at
  length_below_4 : length_at b at < 4 → Broken b at
  above_what_is_left : length b - at < length_at b at → Broken b at

-- Of the header. BROKEN. KIND: not kind 1, or not length 14. EDITION: not 1. LIMIT: more than 64 signals. The lowest number first.
abbrev pub header_tests : List ℕ → List Test
header_tests b =
    record { number = BROKEN; Applies = Broken b 0 }
    ∷ record { number = KIND; Applies = (kind_at b 0 ≢ 1) ⊎ (length_at b 0 ≢ 14) }
    ∷ record { number = EDITION; Applies = two_bytes b 4 ≢ 1 }
    ∷ record { number = LIMIT; Applies = 64 < (header b).inputs + (header b).outputs + (header b).locals } ∷ []

-- A statement that is due: how many statements may still stand on the path from the root, and what stands around it.
pub record Due : Type 0 where
  pub room : ℕ
  pub around : Around

-- Of a due statement, after what has been read. KIND: kind not allowed here (it has no length), or not that kind's length.
pub data WrongKind (b : List ℕ) (at : ℕ) : Type 0 where
  not_allowed : length_of (kind_at b at) ≡ 0 → WrongKind b at
  not_its_length : length_of (kind_at b at) ≢ length_at b at → WrongKind b at

-- LIMIT: 64 statements on a path from the root, 512 statements, 128 pauses, 16 nested traps, 6 nested locals; one more passes the number.
pub data OverLimit (d : Due) (r : Sofar) (kind : ℕ) : Type 0 where
  on_the_path : d.room ≡ 0 → OverLimit d r kind
  in_all : 512 ≤ r.statements → OverLimit d r kind
  pauses : kind ≡ 17 → 128 ≤ r.pauses → OverLimit d r kind
  nested_traps : kind ≡ 24 → 16 ≤ d.around.traps → OverLimit d r kind
  nested_locals : kind ≡ 26 → 6 ≤ d.around.nested → OverLimit d r kind

-- SIGNAL: signal not declared or local used outside its body, in emit, present and suspend; emit of an input; a local too many; local's number not
-- the next.
pub data WrongSignal (h : Header) (d : Due) (r : Sofar) (kind s : ℕ) : Type 0 where
  emit_undeclared : kind ≡ 18 → (T (declared_here h d.around s) → ⊥) → WrongSignal h d r kind s
  emit_of_an_input : kind ≡ 18 → s < h.inputs → WrongSignal h d r kind s
  present_undeclared : kind ≡ 19 → (T (declared_here h d.around s) → ⊥) → WrongSignal h d r kind s
  suspend_undeclared : kind ≡ 20 → (T (declared_here h d.around s) → ⊥) → WrongSignal h d r kind s
  local_too_many : kind ≡ 26 → h.locals ≤ r.locals → WrongSignal h d r kind s
  local_not_the_next : kind ≡ 26 → s ≢ h.inputs + h.outputs + r.locals → WrongSignal h d r kind s

-- EXIT: depth at or above the number of enclosing traps.
abbrev pub WrongExit : Due → ℕ → ℕ → Type 0
WrongExit d kind depth = (kind ≡ 25) × (d.around.traps ≤ depth)

-- The lowest number first. The tests of a record need one: some byte is left. SHAPE: none is.
module _ (b : List ℕ) (h : Header) (d : Due) (r : Sofar) where
  abbrev of_record : ℕ → Type 0 → Test
  of_record n Wrong = record { number = n; Applies = (r.place < length b) × Wrong }

  abbrev pub statement_tests : List Test
  statement_tests =
      of_record BROKEN (Broken b r.place)
      ∷ of_record KIND (WrongKind b r.place)
      ∷ of_record LIMIT (OverLimit d r (kind_at b r.place))
      ∷ of_record SIGNAL (WrongSignal h d r (kind_at b r.place) (operand_at b r.place))
      ∷ of_record EXIT (WrongExit d (kind_at b r.place) (operand_at b r.place))
      ∷ record { number = SHAPE; Applies = length b ≤ r.place } ∷ []

-- The children of a good record that are due next: none, one or two, with one statement less to stand on the path.
abbrev pub so_many : ℕ → Due → List Due
so_many zero c = []
so_many (suc zero) c = c ∷ []
so_many (suc (suc n)) c = c ∷ c ∷ []

abbrev pub one_less : ℕ → ℕ
one_less zero = 0
one_less (suc n) = n

abbrev pub children_due : List ℕ → Due → Sofar → List Due
children_due b d r =
    so_many (children_of (kind_at b r.place)) (record { room = one_less d.room; around = inside (kind_at b r.place) (operand_at b r.place) d.around })

-- Records read from the front: good ones, one after the other, lead from the statements due and what has been read to others. A statement is
-- directly followed by its children, so these are due before what was due behind it.
pub data GoodRecords (b : List ℕ) (h : Header) : List Due → Sofar → List Due → Sofar → Type 0 where
  no_record : {ds : List Due} {r : Sofar} → GoodRecords b h ds r ds r
  one_good : {d : Due} {ds es : List Due} {r r' : Sofar} → First (statement_tests b h d r) 0
      → GoodRecords b h (children_due b d r ++ ds) (past (kind_at b r.place) r) es r' → GoodRecords b h (d ∷ ds) r es r'

-- After good records one is at fault, and the lowest number that applies to it is n.
pub record FirstAtFault (b : List ℕ) (h : Header) (ds : List Due) (r : Sofar) (n at : ℕ) : Type 0 where
  pub due : Due
  pub behind : List Due
  pub read_before : Sofar
  pub all_good_before : GoodRecords b h ds r (due ∷ behind) read_before
  pub its_number : First (statement_tests b h due read_before) n
  pub a_fault : n ≢ 0
  pub its_place : at ≡ read_before.place

-- At first the root is due.
abbrev pub root : Due
root = record { room = 64; around = outermost }

-- A block within its size, with a good header, all of whose records are good: its tree, and what was read.
pub record WholeTree (b : List ℕ) (p : Stmt) (r : Sofar) : Type 0 where
  pub in_size : length b ≤ 3086
  pub good_header : First (header_tests b) 0
  pub good_records : GoodRecords b (header b) (root ∷ []) begun [] r
  pub its_tree : read 64 b (header b) outermost begun ≡ got p r

pub record EndsRight (b : List ℕ) (r : Sofar) : Type 0 where
  pub no_byte_left : r.place ≡ length b
  pub all_locals : r.locals ≡ (header b).locals

-- What turns a block down, in the written order: its number and its place.
pub data Decides (b : List ℕ) : ℕ → ℕ → Type 0 where
  too_large : 3086 < length b → Decides b LIMIT 0
  header_at_fault : {n : ℕ} → length b ≤ 3086 → First (header_tests b) n → n ≢ 0 → Decides b n 0
  record_at_fault : {n at : ℕ} → length b ≤ 3086 → First (header_tests b) 0 → FirstAtFault b (header b) (root ∷ []) begun n at → Decides b n at
  wrong_end : {p : Stmt} {r : Sofar} → WholeTree b p r → (EndsRight b r → ⊥) → Decides b SHAPE r.place
  loop : {p : Stmt} {r : Sofar} → WholeTree b p r → EndsRight b r → (n : ℕ) → n < statements p → T (endless (numbered p n))
      → ((m : ℕ) → m < n → T (endless (numbered p m)) → ⊥) → Decides b LOOP (offset p n)

-- A good block: nothing turned it down.
pub record AllGood (b : List ℕ) (g : Good) : Type 0 where
  pub read_to : Sofar
  pub whole : WholeTree b g.body read_to
  pub ends_right : EndsRight b read_to
  pub no_loop : (n : ℕ) → n < statements g.body → T (endless (numbered g.body n)) → ⊥

-- What a reading comes to, in the written order.
unfoldable pub InOrder : List ℕ → Reading → Type 0
InOrder b (good g) = AllGood b g
InOrder b (turned_down n at) = Decides b n at
