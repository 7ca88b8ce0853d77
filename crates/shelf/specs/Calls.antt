-- The calls on a shelf: what each is told, and the shelf that it leaves. Assumes nothing.
use Rattle.std.specs.Prelude.{not, cond, List, [], ◌∷◌, ◌++◌, ℕ, ◌+◌, eqb, ltb}
use Rattle.std.proofs.Math.Option.{Option, none, some}
use Rattle.block.specs.Format.{Reading, good, turned_down, reading}
use Rattle.shelf.specs.Entries.{QUOTA_SIZE, Entry, size, in_use, shelf_of, those, own, is_named, taken, find, entries}

-- The numbers given back.
abbrev pub PARTY : ℕ
PARTY = 18

abbrev pub SHELF : ℕ
SHELF = 19

abbrev pub TAKEN : ℕ
TAKEN = 20

abbrev pub QUOTA : ℕ
QUOTA = 21

abbrev pub ABSENT : ℕ
ABSENT = 22

-- A call with its arguments: the party, the name, and for an install the block.
pub data Call : Type 0 where
  install : ℕ → ℕ → List ℕ → Call
  fetch : ℕ → ℕ → Call
  withdraw : ℕ → ℕ → Call

abbrev pub party_of : Call → ℕ
party_of (install p n b) = p
party_of (fetch p n) = p
party_of (withdraw p n) = p

abbrev pub name_of : Call → ℕ
name_of (install p n b) = n
name_of (fetch p n) = n
name_of (withdraw p n) = n

-- What a call is told: the number and the place of a refusal, or 0 and 0; and the block that is handed back. Where in the shelf it
-- lies is not told.
pub record ShelfAnswer : Type 0 where
  pub number : ℕ
  pub place : ℕ
  pub part : List ℕ

-- A refused part is empty.
abbrev pub refused : ℕ → ℕ → ShelfAnswer
refused n at = record { number = n; place = at; part = [] }

abbrev pub done : ShelfAnswer
done = refused 0 0

-- The entry that an install puts on the shelf.
abbrev pub entry : ℕ → ℕ → List ℕ → Entry
entry p n b = record { party = p; name = n; block = b }

-- An install gets 1 to 8, then TAKEN for one's own name, then QUOTA.
unfoldable pub installed : Reading → List Entry → ℕ → ℕ → ShelfAnswer
installed (turned_down k at) mine n more = refused k at
installed (good g) mine n more = cond (taken n mine) (refused TAKEN 0) (cond (ltb QUOTA_SIZE (in_use mine + more)) (refused QUOTA 0) done)

-- A fetch gets ABSENT, or the block of one's own entry of that name.
unfoldable pub fetched : Option Entry → ShelfAnswer
fetched none = refused ABSENT 0
fetched (some e) = record { number = 0; place = 0; part = e.block }

-- A withdrawal gets ABSENT. How much was freed is not told.
unfoldable pub withdrawn : Option Entry → ShelfAnswer
withdrawn none = refused ABSENT 0
withdrawn (some e) = done

-- What a call is told by one's own entries alone: all that is tested after PARTY and SHELF.
unfoldable pub told_by : List Entry → Call → ShelfAnswer
unfolding installed fetched withdrawn
told_by mine (install p n b) = installed (reading b) mine n (size (entry p n b))
told_by mine (fetch p n) = fetched (find n mine)
told_by mine (withdraw p n) = withdrawn (find n mine)

unfoldable pub told_on : Option (List Entry) → Call → ShelfAnswer
unfolding told_by
told_on none c = refused SHELF 0
told_on (some es) c = told_by (own (party_of c) es) c

-- PARTY above 1, then SHELF, then the tests of the call.
unfoldable pub told : List ℕ → Call → ShelfAnswer
unfolding told_on
told s c = cond (ltb 1 (party_of c)) (refused PARTY 0) (told_on (entries s) c)

-- All entries but the party's of that name, in their order.
abbrev pub taken_out : ℕ → ℕ → List Entry → List Entry
taken_out p n es = those (λ e. not (is_named p n e)) es

-- The entries after a call that was not refused: an install goes in after the last entry, and a withdrawal leaves no gap.
unfoldable pub after : List Entry → Call → List Entry
after es (install p n b) = es ++ (entry p n b ∷ [])
after es (fetch p n) = es
after es (withdraw p n) = taken_out p n es

-- The shelf's bytes after a call that was not refused. A fetch has the shelf lent for reading alone.
unfoldable pub put : Option (List Entry) → List ℕ → Call → List ℕ
unfolding after shelf_of
put none s c = s
put (some es) s (install p n b) = shelf_of (after es (install p n b))
put (some es) s (fetch p n) = s
put (some es) s (withdraw p n) = shelf_of (after es (withdraw p n))

-- The shelf that a call leaves: a refusal leaves every byte.
unfoldable pub left : List ℕ → Call → List ℕ
unfolding put told
left s c = cond (eqb (told s c).number 0) (put (entries s) s c) s
