-- What the code's reading of edition 2 tells, in the words of Format and Sizes. Assumes nothing.
use Rattle.std.specs.Prelude.{◌≡◌, Bool, true, cond, ◌&&◌, ◌||◌, List, ℕ, ◌+◌, ◌≤◌, ◌<◌, max, eqb, ltb, length, Option, Some, None, Result, Ok, Err, OnOk, IfErr}
use Rattle.std.specs.Option.{option_or}
use Rattle.std.proofs.Math.Option.{Option as Found, none, some}
use Rattle.sets.specs.Words.{bits}
use Rattle.refusals.specs.Refusals.{number}
use Rattle.refusals.specs.declared.Refused.{Refused}
use Rattle.tables.specs.Codes.{codes_for}
use Rattle.block.specs.Format.{Header, header, Sofar, outermost, begun}
use Rattle.block.specs.Told.{header_of, cursor_of}
use Rattle.block.specs.declared.Declared.{Declared}
use Rattle.block.specs.declared.Cursor.{Cursor}
use Rattle.writing.specs.Written.{block_bytes}
use Rattle.writing.specs.Answers.{writes, refuses}
use Rattle.doubled.specs.Copies.{within_limits}
use Rattle.everyday.specs.Statements.{Everyday, alone, around, between}
use Rattle.everyday.specs.Check.{codes₂}
use Rattle.everyday.specs.Conversion.{pauses_made, converted}
use Rattle.converting.specs.Format.{Due, at_fault, stands, Got₂, got₂, refused₂, read₂, bytes₂, lowest_endless₂, good₂, ended₂, reading₂}
use Rattle.converting.specs.Conversions.{converting_of, converting}
use Rattle.converting.specs.Sizes.{size₂}
use Rattle.convert.specs.declared.scan.Sizes.{Sizes}
use Rattle.convert.specs.declared.scan.Measured.{Measured}
use Rattle.convert.specs.declared.scan.Scanned.{Scanned}

-- The kind of edition 1 by whose rules a record is tested, and the one whose codes its statement has. The four have the rules of their forms.
unfoldable pub tested_as : ℕ → ℕ
tested_as k = cond (eqb k 32) 16 (cond (eqb k 33) 18 (cond (eqb k 34) 19 (cond (eqb k 35) 20 k)))

unfoldable pub coded_as : ℕ → ℕ
coded_as k = cond (eqb k 32) 17 (cond (eqb k 33) 17 (cond (eqb k 34) 17 (cond (eqb k 35) 20 k)))

-- The number that a record gets; 0 where it stands.
unfoldable pub fault_of : Due → ℕ
fault_of (at_fault n) = n
fault_of (stands s) = 0

-- What the tests of a due record tell: that it stands, or its refusal, at its place.
pub record FaultTold (x : Due) (at : ℕ) (r : Result (Unit {0}) Refused) : Type 0 where
  pub passed : OnOk r (fault_of x ≡ 0)
  pub its_number : IfErr r (λ e. number e.why ≡ fault_of x)
  pub its_place : IfErr r (λ e. e.place ≡ at)

-- What a conversion takes, by the kind and by what those of the statements below take.
abbrev pub sized_as : ℕ → ℕ → ℕ → ℕ → ℕ → Sizes
sized_as statements pauses path traps bytes =
    record { statements = statements; pauses = pauses; path = path; traps = traps; nested = 0; bytes = bytes }

unfoldable pub alone_sizes : ℕ → Sizes
alone_sizes k =
    cond (eqb k 17) (sized_as 1 1 1 0 4)
    (cond (eqb k 18) (sized_as 1 0 1 0 6)
    (cond (eqb k 25) (sized_as 1 0 1 0 6)
    (cond (eqb k 32) (sized_as 2 1 2 0 8)
    (cond (eqb k 33) (sized_as 4 1 3 0 18)
    (cond (eqb k 34) (sized_as 7 1 5 1 32)
    (sized_as 1 0 1 0 4))))))

abbrev pub onto_sizes : Sizes → ℕ → ℕ → ℕ → Sizes
onto_sizes p traps nested bytes = record {
  statements = 1 + p.statements;
  pauses = p.pauses;
  path = 1 + p.path;
  traps = traps + p.traps;
  nested = nested + p.nested;
  bytes = bytes + p.bytes;
}

abbrev pub abort_sizes : Sizes → Sizes
abort_sizes p = record {
  statements = 11 + p.statements;
  pauses = 1 + p.pauses;
  path = max (4 + p.path) 6;
  traps = 1 + p.traps;
  nested = p.nested;
  bytes = 52 + p.bytes;
}

unfoldable pub around_sizes : ℕ → Sizes → Sizes
around_sizes k p =
    cond (eqb k 20) (onto_sizes p 0 0 6)
    (cond (eqb k 24) (onto_sizes p 1 0 4)
    (cond (eqb k 26) (onto_sizes p 0 1 6)
    (cond (eqb k 35) (abort_sizes p)
    (onto_sizes p 0 0 4))))

abbrev pub both_sizes : ℕ → Sizes → Sizes → Sizes
both_sizes own p q = record {
  statements = 1 + p.statements + q.statements;
  pauses = p.pauses + q.pauses;
  path = 1 + max p.path q.path;
  traps = max p.traps q.traps;
  nested = max p.nested q.nested;
  bytes = own + p.bytes + q.bytes;
}

unfoldable pub between_sizes : ℕ → Sizes → Sizes → Sizes
between_sizes k p q = cond (eqb k 19) (both_sizes 6 p q) (both_sizes 4 p q)

-- No sum of such numbers wraps: at most 52 bytes for each of 512 records.
pub record SmallSizes (s : Sizes) : Type 0 where
  pub few_statements : s.statements ≤ 26624
  pub few_pauses : s.pauses ≤ 26624
  pub short_path : s.path ≤ 26624
  pub few_traps : s.traps ≤ 26624
  pub few_nested : s.nested ≤ 26624
  pub few_bytes : s.bytes ≤ 26624

-- A statement is measured from those below it. An exit's code is known where its depth is below 16.
pub record OfNone (k x : ℕ) (after : Cursor) (m : Measured) : Type 0 where
  pub its_end : m.after ≡ after
  pub its_codes : (coded_as k ≡ 25 → x < 16) → bits m.codes ≡ codes_for (coded_as k) x (bits 0) (bits 0)
  pub its_loops : m.endless ≡ None
  pub its_sizes : m.sizes ≡ alone_sizes k

pub record OfOne (k x at : ℕ) (p m : Measured) : Type 0 where
  pub its_end : m.after ≡ p.after
  pub its_codes : (coded_as k ≡ 25 → x < 16) → bits m.codes ≡ codes_for (coded_as k) x (bits p.codes) (bits 0)
  pub its_loops : m.endless ≡ cond (eqb k 22 && bits p.codes 0) (Some at) p.endless
  pub its_sizes : m.sizes ≡ around_sizes k p.sizes

pub record OfTwo (k x : ℕ) (p q m : Measured) : Type 0 where
  pub its_end : m.after ≡ q.after
  pub its_codes : (coded_as k ≡ 25 → x < 16) → bits m.codes ≡ codes_for (coded_as k) x (bits p.codes) (bits q.codes)
  pub its_loops : m.endless ≡ option_or p.endless q.endless
  pub its_sizes : m.sizes ≡ between_sizes k p.sizes q.sizes

-- What the conversion of a tree takes.
pub record Takes (s : Sizes) (p : Everyday) : Type 0 where
  pub its_statements : s.statements ≡ (size₂ p).statements
  pub its_pauses : s.pauses ≡ pauses_made p
  pub its_path : s.path ≡ (size₂ p).path
  pub its_traps : s.traps ≡ (size₂ p).traps
  pub its_nested : s.nested ≡ (size₂ p).nested
  pub its_bytes : s.bytes ≡ (size₂ p).bytes

-- How many records a statement has with those below it.
unfoldable pub records_in : Everyday → ℕ
records_in (alone a) = 1
records_in (around f p) = 1 + records_in p
records_in (between o p q) = 1 + (records_in p + records_in q)

-- The code's answer to a look for an offset.
abbrev pub answer_of : Found ℕ → Option ℕ
answer_of none = None
answer_of (some n) = Some n

-- A tree that was read from r to r₁, and its measures.
pub record Taken (h : Header) (r : Sofar) (p : Everyday) (r₁ : Sofar) (m : Measured) : Type 0 where
  pub its_end : m.after ≡ cursor_of r₁
  pub its_codes : bits m.codes ≡ codes₂ p
  pub its_loops : m.endless ≡ answer_of (lowest_endless₂ r.place p)
  pub its_sizes : Takes m.sizes p
  pub ends_at : r₁.place ≡ r.place + bytes₂ p
  pub counted : r₁.statements ≡ r.statements + records_in p
  pub few_statements : r₁.statements ≤ 512
  pub few_pauses : r₁.pauses ≤ 128
  pub few_locals : r₁.locals ≤ h.locals

-- The code's answer to the reading of a statement.
pub data Scans (h : Header) (r : Sofar) : Got₂ → Result Measured Refused → Type 0 where
  got_to : {p : Everyday} {r₁ : Sofar} {m : Measured} → Taken h r p r₁ m → Scans h r (got₂ p r₁) (Ok m)
  refused_at : {e : Refused} → Scans h r (refused₂ (number e.why) e.place) (Err e)

unfoldable pub over_limits : Sizes → Bool
over_limits s = ltb 512 s.statements || (ltb 128 s.pauses || (ltb 16 s.traps || (ltb 6 s.nested || ltb 64 s.path)))

-- After the tree p.
unfoldable pub EndsAs : List ℕ → Declared → Everyday → Sofar → Result Scanned Refused → Type 0
EndsAs b d p r₁ (Ok s) =
    (s.declared ≡ d) × (ended₂ b (header_of d) (got₂ p r₁) ≡ good₂ (header_of d) p) × (within_limits (header_of d) (converted p) ≡ true) × (s.size ≡ 14 + (size₂ p).bytes)
EndsAs b d p r₁ (Err e) = converting_of (ended₂ b (header_of d) (got₂ p r₁)) ≡ refuses (number e.why) e.place

pub record Ends (b : List ℕ) (d : Declared) (m : Measured) (q : Result Scanned Refused) : Type 0 where
  pub of_tree : (p : Everyday) (r₁ : Sofar) → Taken (header_of d) begun p r₁ m → EndsAs b d p r₁ q

-- A block that can be converted: its tree, and what is to be written for it.
pub record Convertible (b : List ℕ) (d : Declared) (size : ℕ) : Type 0 where
  pub tree : Everyday
  pub after : Sofar
  pub its_header : header_of d ≡ header b
  pub short : length b ≤ 3086
  pub read : read₂ 64 b (header_of d) outermost begun ≡ got₂ tree after
  pub good : reading₂ b ≡ good₂ (header_of d) tree
  pub within : within_limits (header_of d) (converted tree) ≡ true
  pub sized : size ≡ 14 + (size₂ tree).bytes
  pub written : converting b ≡ writes (block_bytes (header_of d) (converted tree))

-- The code's answer to a whole block: that, or the number and the place that the conversion is refused with.
unfoldable pub ScanTold : List ℕ → Result Scanned Refused → Type 0
ScanTold b (Ok s) = Convertible b s.declared s.size
ScanTold b (Err e) = converting b ≡ refuses (number e.why) e.place
