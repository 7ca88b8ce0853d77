-- The reading of a whole text: the header's tokens, then those of the statement; and what a text gets. Nobody has to believe the steps:
-- theorems tie them to Grammar and Meaning. Assumes nothing.
use Rattle.std.specs.Prelude.{Bool, false, cond, List, [], ◌∷◌, ◌++◌, ℕ, suc, ◌+◌, ◌-◌, eqb, ltb, length}
use Rattle.std.proofs.Math.Option.{Option, none, some}
use Rattle.block.specs.Format.{Reading, good, turned_down, reading}
use Rattle.writing.specs.Written.{header_bytes}
use Rattle.writing.specs.Answers.{Writing, writes, refuses}
use Rattle.text.specs.Tokens.{Token, sign, name, number, no_token, VERSION, INPUT, OUTPUT, COMMA, SEMICOLON, Placed, tokens_placed}
use Rattle.text.specs.Meaning.{Declaration, signal_named, declared, go_on, if_new, Blocked}
use Rattle.text.specs.Machine.{at_the_end, Level, level_at, due, State, state, step, complete}

-- What may stand next in the header: `version`, its number, its semicolon; `input`, `output` or the statement; `output` or the
-- statement; a name; a comma or a semicolon behind it; and then the statement.
pub data Due : Type 0 where
  version_due : Due
  number_due : Due
  version_closed : Due
  inputs_due : Due
  outputs_due : Due
  input_name : Due
  input_named : Due
  output_name : Due
  output_named : Due
  body_due : Due

-- The version, how many inputs there are, the names so far, and the number of the next.
pub record Heading : Type 0 where
  pub awaits : Due
  pub version : ℕ
  pub inputs : ℕ
  pub names : List Declaration
  pub next : ℕ

abbrev pub heading : Due → ℕ → ℕ → List Declaration → ℕ → Heading
heading m v i ds n = record { awaits = m; version = v; inputs = i; names = ds; next = n }

pub data Reader : Type 0 where
  in_header : Heading → Reader
  in_body : Heading → State → Reader

abbrev pub now : Heading → Due → Option Reader
now g m = some (in_header (heading m g.version g.inputs g.names g.next))

-- All names so far are inputs.
abbrev pub inputs_end : Heading → Option Reader
inputs_end g = some (in_header (heading outputs_due g.version g.next g.names g.next))

abbrev pub named : Heading → Due → List ℕ → Option Reader
named g m x = if_new (declared g.names x) (some (in_header (heading m g.version g.inputs (signal_named x g.next ∷ g.names) (suc g.next))))

-- The first statement is due, at the outermost level.
abbrev pub body_start : Heading → State
body_start g = state g.names due (level_at at_the_end [] 0) [] [] g.next

unfoldable pub body_step : Heading → State → Token → Option Reader
unfolding step
body_step g s t = go_on (step s t) λ u. some (in_body g u)

unfoldable pub heading_sign : Due → Heading → ℕ → Option Reader
unfolding body_step
heading_sign version_due g k = cond (eqb k VERSION) (now g number_due) none
heading_sign number_due g k = none
heading_sign version_closed g k = cond (eqb k SEMICOLON) (now g inputs_due) none
heading_sign inputs_due g k = cond (eqb k INPUT) (now g input_name) (cond (eqb k OUTPUT) (now g output_name) (body_step g (body_start g) (sign k)))
heading_sign outputs_due g k = cond (eqb k OUTPUT) (now g output_name) (body_step g (body_start g) (sign k))
heading_sign input_name g k = none
heading_sign input_named g k = cond (eqb k COMMA) (now g input_name) (cond (eqb k SEMICOLON) (inputs_end g) none)
heading_sign output_name g k = none
heading_sign output_named g k = cond (eqb k COMMA) (now g output_name) (cond (eqb k SEMICOLON) (now g body_due) none)
heading_sign body_due g k = body_step g (body_start g) (sign k)

unfoldable pub heading_name : Due → Heading → List ℕ → Option Reader
unfolding declared
heading_name version_due g x = none
heading_name number_due g x = none
heading_name version_closed g x = none
heading_name inputs_due g x = none
heading_name outputs_due g x = none
heading_name input_name g x = named g input_named x
heading_name input_named g x = none
heading_name output_name g x = named g output_named x
heading_name output_named g x = none
heading_name body_due g x = none

unfoldable pub heading_number : Due → Heading → ℕ → Option Reader
heading_number version_due g v = none
heading_number number_due g v = some (in_header (heading version_closed v g.inputs g.names g.next))
heading_number version_closed g v = none
heading_number inputs_due g v = none
heading_number outputs_due g v = none
heading_number input_name g v = none
heading_number input_named g v = none
heading_number output_name g v = none
heading_number output_named g v = none
heading_number body_due g v = none

unfoldable pub heading_step : Heading → Token → Option Reader
unfolding heading_sign heading_name heading_number
heading_step g (sign k) = heading_sign g.awaits g k
heading_step g (name x) = heading_name g.awaits g x
heading_step g (number v) = heading_number g.awaits g v
heading_step g no_token = none

unfoldable pub read_step : Reader → Token → Option Reader
unfolding heading_step body_step
read_step (in_header g) t = heading_step g t
read_step (in_body g s) t = body_step g s t

unfoldable pub read_all : Reader → List Token → Option Reader
unfolding read_step
read_all r [] = some r
read_all r (t ∷ ts) = go_on (read_step r t) λ q. read_all q ts

abbrev pub begun_with : List Declaration → Reader
begun_with ds = in_header (heading version_due 0 0 ds 0)

abbrev pub begun : Reader
begun = begun_with []

-- The block that a text stands for, where it may end here.
unfoldable pub finish : Reader → Option Blocked
unfolding complete
finish (in_header g) = none
finish (in_body g s) =
    let b : Blocked = record { header = record { version = g.version; inputs = g.inputs; outputs = g.next - g.inputs; locals = s.next - g.next }; records = s.block } in
    cond (complete s.mode s.top.closer) (some b) none

-- Places that are open at once, each with statements of its own: levels that begin at one place in the block are one.
unfoldable pub places : ℕ → List Level → ℕ
places at [] = 1
places at (l ∷ ls) = cond (eqb l.start at) (places at ls) (1 + places l.start ls)

unfoldable pub too_deep : Reader → Bool
unfolding places
too_deep (in_header g) = false
too_deep (in_body g s) = ltb 1025 (places s.top.start s.below)

-- What a text gets: it stands for a block; it is outside the grammar or has a name at fault, at a place; or over 1,024 places are open
-- at once, so that it stands for a block over its limits whatever follows.
pub data Outcome : Type 0 where
  stands : Blocked → Outcome
  outside : ℕ → Outcome
  over : Outcome

abbrev pub at_end : ℕ → Option Blocked → Outcome
at_end end none = outside end
at_end end (some b) = stands b

abbrev pub unless_refused : ℕ → Option Reader → (Reader → Outcome) → Outcome
unless_refused at none f = outside at
unless_refused at (some q) f = f q

unfoldable pub read_placed : Reader → List Placed → ℕ → Outcome
unfolding finish read_step too_deep
read_placed r [] end = at_end end (finish r)
read_placed r (p ∷ ps) end = unless_refused p.place (read_step r p.token) λ q. cond (too_deep q) over (read_placed q ps end)

-- At most 64 signals; then 1 to 8 on the block.
abbrev pub checked : List ℕ → Reading → Writing
checked b (good g) = writes b
checked b (turned_down n at) = refuses n at

unfoldable pub block_of : Blocked → Writing
unfolding header_bytes reading
block_of b =
    let h = b.header in
    let bytes = header_bytes h ++ b.records in
    cond (ltb 64 (h.inputs + h.outputs + h.locals)) (refuses 4 0) (checked bytes (reading bytes))

unfoldable pub owed : Outcome → Writing
unfolding block_of
owed (stands b) = block_of b
owed (outside at) = refuses 15 at
owed over = refuses 4 0

-- What is to be written for a text.
unfoldable pub text_read : List ℕ → Writing
unfolding read_placed owed
text_read text = owed (read_placed begun (tokens_placed text) (length text))
