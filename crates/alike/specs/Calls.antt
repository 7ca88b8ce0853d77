-- The call on the bytes of two blocks and the lent bytes of a run: the tests in their order, the answer, and every lent byte. Assumes nothing.
use Rattle.std.specs.Prelude.{◌≡◌, cond, ◌&&◌, List, ◌++◌, ℕ, Option, None, Some, Result, Ok, Err, eqb, ltb, length, drop}
use Rattle.refusals.specs.Refusals.{why_of}
use Rattle.block.specs.Format.{Good, Reading, good, turned_down, reading}
use Rattle.reaction.specs.Instants.{ROOM, block_of}
use Rattle.pairs.specs.Runs.{Run, size, bytes_of, Comparison, First, Over, Same}
use Rattle.pairs.specs.Blocks.{comparison}
use Rattle.alike.specs.Ends.{most}
use Rattle.alike.specs.declared.NotCompared.{NotCompared}
use Rattle.alike.specs.declared.NotCompared.TheVariants.{First as TheFirst, Second as TheSecond, Both}

abbrev pub INTERFACE : ℕ
INTERFACE = 23

abbrev pub WIDE : ℕ
WIDE = 24

abbrev pub PAIRS : ℕ
PAIRS = 25

-- What the tests come to: a block is turned down with a number and a place, or the call with a number, or two blocks are compared.
pub data Front : Type 0 where
  first_stopped : ℕ → ℕ → Front
  second_stopped : ℕ → ℕ → Front
  stopped : ℕ → Front
  ready : Good → Good → Front

-- Equal inputs and outputs, at most 6 inputs, 1,024 lent bytes.
unfoldable pub try_both : Good → Good → ℕ → Front
try_both g h lent =
    cond (eqb g.header.inputs h.header.inputs && eqb g.header.outputs h.header.outputs)
    (cond (ltb 6 g.header.inputs) (stopped WIDE)
    (cond (ltb lent most) (stopped ROOM)
    (ready g h)))
    (stopped INTERFACE)

-- 1 to 8 for the first block, then for the second.
unfoldable pub try_second : Good → Reading → ℕ → Front
try_second g (turned_down n at) lent = second_stopped n at
try_second g (good h) lent = try_both g h lent

unfoldable pub try_first : Reading → Reading → ℕ → Front
try_first (turned_down n at) x lent = first_stopped n at
try_first (good g) x lent = try_second g x lent

abbrev pub front : List ℕ → List ℕ → List ℕ → Front
front first second run = try_first (reading first) (reading second) (length run)

-- Two blocks compared: alike, or different with the first of the shortest runs written in front of the lent bytes, or over 1,024 pairs.
unfoldable pub Compared : Comparison → Result (Option ℕ) NotCompared → List ℕ → List ℕ → Type 0
Compared m (Ok None) before after = Same m × (Over most m → ⊥) × (after ≡ before)
Compared m (Ok (Some n)) before after =
    (w : Run) × First m w × (Over most m → ⊥) × (n ≡ size w) × (after ≡ bytes_of w ++ drop (size w) before)
Compared m (Err e) before after = (e ≡ Both (why_of PAIRS)) × Over most m × (after ≡ before)

-- The answer and the lent bytes afterwards: a refusal leaves every byte.
unfoldable pub Owed : Front → Result (Option ℕ) NotCompared → List ℕ → List ℕ → Type 0
Owed (first_stopped n at) a before after = (a ≡ Err (TheFirst (record { why = why_of n; place = at }))) × (after ≡ before)
Owed (second_stopped n at) a before after = (a ≡ Err (TheSecond (record { why = why_of n; place = at }))) × (after ≡ before)
Owed (stopped n) a before after = (a ≡ Err (Both (why_of n))) × (after ≡ before)
Owed (ready g h) a before after = Compared (comparison (block_of g) (block_of h)) a before after
