-- The walk that writes: a statement's records among the bytes of edition 2, what is written for each of them, what the walk asks for and what it leaves.
-- Assumes nothing.
use Rattle.std.specs.Prelude.{◌≡◌, List, [], ◌∷◌, ◌++◌, ℕ, ◌+◌, ◌^◌, ◌≤◌, ◌<◌}
use Rattle.std.proofs.Math.Option.{Option, some}
use Rattle.std.proofs.lemmas.List.Edits.{sets}
use Rattle.rules.specs.Statements.{Depth}
use Rattle.block.specs.Format.{kind_at, operand_at}
use Rattle.writing.specs.Written.{record_bytes}
use Rattle.everyday.specs.Statements.{suspend_on, loop, trap, local, abort_when, present_then_else, in_sequence, in_parallel, Everyday, alone, around, between}
use Rattle.everyday.specs.Conversion.{out_of}
use Rattle.everyday.specs.Check.{Trapped₂}
use Rattle.converting.specs.Format.{Sort, of_none, of_one, of_two, sort_of, record_length, bytes₂}
use Rattle.converting.specs.Sizes.{alone_size, size₂}
use Rattle.converting.specs.Records.{alone_bytes, bytes_before, bytes_behind, bytes_between, made_bytes, out_by}
use Rattle.convert.specs.Marks.{marks_of}
use Rattle.convert.specs.declared.walk.Head.{Head}
use Rattle.convert.specs.declared.walk.Marks.{Marks}
use Rattle.convert.specs.declared.walk.Spot.{Spot}

-- What the record at a place stands for.
abbrev pub sort_at : List ℕ → ℕ → Option Sort
sort_at b at = sort_of (kind_at b at) (operand_at b at)

-- The records of a statement and of those below it stand from a place on.
unfoldable pub Recorded : List ℕ → ℕ → Everyday → Type 0
unfolding sort_of bytes₂
Recorded b at (alone a) = sort_at b at ≡ some (of_none a)
Recorded b at (around f p) = (sort_at b at ≡ some (of_one f)) × Recorded b (at + record_length (of_one f)) p
Recorded b at (between o p q) =
    (sort_at b at ≡ some (of_two o)) × Recorded b (at + record_length (of_two o)) p × Recorded b (at + record_length (of_two o) + bytes₂ p) q

abbrev pub own_sort : Everyday → Sort
own_sort (alone a) = of_none a
own_sort (around f p) = of_one f
own_sort (between o p q) = of_two o

abbrev pub children : Sort → ℕ
children (of_none a) = 0
children (of_one f) = 1
children (of_two o) = 2

-- What the code reads of a record: its kind and operand, the place behind it, and how many statements stand below.
pub record HeadAt (b : List ℕ) (at : ℕ) (h : Head) : Type 0 where
  pub its_kind : h.kind ≡ kind_at b at
  pub its_operand : h.operand ≡ operand_at b at
  pub its_behind : (s : Sort) → sort_at b at ≡ some s → h.behind ≡ at + record_length s
  pub its_children : (s : Sort) → sort_at b at ≡ some s → h.children ≡ children s

-- What is written for a record before the statements below it, and behind them; and how many bytes these are.
abbrev pub first_bytes : (Depth → Depth) → Sort → List ℕ
first_bytes out (of_none a) = alone_bytes out a
first_bytes out (of_one f) = bytes_before f
first_bytes out (of_two o) = bytes_between o

abbrev pub last_bytes : Sort → List ℕ
last_bytes (of_none a) = []
last_bytes (of_one f) = bytes_behind f
last_bytes (of_two o) = []

unfoldable pub first_size : Sort → ℕ
first_size (of_none a) = (alone_size a).bytes
first_size (of_one (suspend_on s)) = 6
first_size (of_one loop) = 4
first_size (of_one trap) = 4
first_size (of_one (local s)) = 6
first_size (of_one (abort_when s)) = 18
first_size (of_two (present_then_else s)) = 6
first_size (of_two in_sequence) = 4
first_size (of_two in_parallel) = 4

unfoldable pub last_size : Sort → ℕ
last_size (of_none a) = 0
last_size (of_one (suspend_on s)) = 0
last_size (of_one loop) = 0
last_size (of_one trap) = 0
last_size (of_one (local s)) = 0
last_size (of_one (abort_when s)) = 34
last_size (of_two o) = 0

-- Where the exits go that leave a statement, by the marks around it.
abbrev pub sends : Marks → Depth → Depth
sends m = out_by (marks_of m.word m.count)

-- A trap and an abort are one mark more around what stands below them.
abbrev pub out_inside : Sort → (Depth → Depth) → Depth → Depth
out_inside (of_none a) out = out
out_inside (of_one f) out = out_of f out
out_inside (of_two o) out = out

unfoldable pub marks_by : Sort → ℕ
marks_by (of_none a) = 0
marks_by (of_one (suspend_on s)) = 0
marks_by (of_one loop) = 0
marks_by (of_one trap) = 1
marks_by (of_one (local s)) = 0
marks_by (of_one (abort_when s)) = 1
marks_by (of_two o) = 0

-- At most 16 marks, and no bit beyond them.
pub record FewMarks (m : Marks) : Type 0 where
  pub few : m.count ≤ 16
  pub none_beyond : m.word < 2 ^ m.count

pub record MarksInside (s : Sort) (m inner : Marks) : Type 0 where
  pub sent : sends inner ≡ out_inside s (sends m)
  pub counted : inner.count ≡ m.count + marks_by s
  pub none_beyond : inner.word < 2 ^ inner.count

-- There is room for what is written first, and for what is written last.
pub record RoomFirst (k x to lent : ℕ) (m : Marks) : Type 0 where
  pub sort : Sort
  pub its_sort : sort_of k x ≡ some sort
  pub room : to + first_size sort ≤ lent
  pub exits : k ≡ 25 → x < 1024
  pub few : m.count ≤ 16

pub record RoomLast (k x to lent : ℕ) : Type 0 where
  pub sort : Sort
  pub its_sort : sort_of k x ≡ some sort
  pub room : to + last_size sort ≤ lent

-- Bytes were stored at a place, and all others stayed; the place behind them.
pub record Puts (bs : List ℕ) (size at behind : ℕ) (before now : List ℕ) : Type 0 where
  pub stored : now ≡ sets before at bs
  pub ends : behind ≡ at + size

-- What the walk asks for: the statement's records stand where it is to read them, there is room where it is to write, every exit finds its trap, and the
-- conversion nests at most 16 traps.
pub record Walks (b : List ℕ) (spot : Spot) (m : Marks) (lent : ℕ) (p : Everyday) : Type 0 where
  pub recorded : Recorded b spot.at p
  pub within : spot.at + bytes₂ p ≤ 3086
  pub room : spot.to + (size₂ p).bytes ≤ lent
  pub nested : m.count + (size₂ p).traps ≤ 16
  pub none_beyond : m.word < 2 ^ m.count
  pub traps : ℕ
  pub trapped : Trapped₂ traps p
  pub fewer : traps ≤ m.count

-- The conversion's records stand where they were to be written, and nothing else changed; the first byte not read yet, and the next place to write.
pub record WrittenOut (p : Everyday) (m : Marks) (spot after : Spot) (before now : List ℕ) : Type 0 where
  pub stored : now ≡ sets before spot.to (made_bytes (sends m) p)
  pub ends : after.to ≡ spot.to + (size₂ p).bytes
  pub read : after.at ≡ spot.at + bytes₂ p

-- Records one after the other, each by its kind and operand.
unfoldable pub bytes_of : List (ℕ × ℕ) → List ℕ
bytes_of [] = []
bytes_of (r ∷ rs) = record_bytes r.0 r.1 ++ bytes_of rs
