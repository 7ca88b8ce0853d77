-- What the code holds of a reader of a whole text, and what it does with a token. Assumes nothing.
use Rattle.std.specs.Prelude.{◌≡◌, Bool, true, false, cond, List, [], ℕ, ◌+◌, ◌≤◌, ◌<◌, length, Result, Ok, Err, Option as Returned, Some, None}
use Rattle.std.proofs.Math.Option.{Option, none, some}
use Rattle.text.specs.Tokens.{Token}
use Rattle.text.specs.Machine.{due}
use Rattle.text.specs.Reader.{Heading, Reader, in_header, in_body, body_step, read_step, too_deep, Outcome, stands, outside, over}
use Rattle.text.specs.Coded.{from_kind, FrontAt, past_spaces, tokens_from}
use Rattle.text.specs.declared.tokens.Token.{Token as CodedToken}
use Rattle.text.specs.declared.tokens.Kind.TheVariants.{Sign}
use Rattle.read_steps.specs.Levels.{outermost}
use Rattle.read_steps.specs.Found.{word_at, names_until, header_names}
use Rattle.read_steps.specs.Records.{Written}
use Rattle.read_text.specs.Heads.{awaits_of, headed}
use Rattle.read_text.specs.Ending.{blocked}
use Rattle.read_steps.specs.Holding.{Course, course, state_of, Holds, closer_in}
use Rattle.read_steps.specs.declared.levels.Level.{Level as CodeLevel}
use Rattle.read_steps.specs.declared.steps.Stage.{Stage}
use Rattle.read_steps.specs.declared.modes.Mode.{Mode as CodeMode}
use Rattle.read_steps.specs.declared.modes.Mode.TheVariants.{Due, After, EmitName, ExitName, PresentName, TrapName, SignalName, WhenName, ThenDue, InDue}
use Rattle.read_steps.specs.declared.levels.Scope.{Scope}
use Rattle.read_steps.specs.declared.levels.Scope.TheVariants.{Outermost, ThenPart, EndPart, SuspendBody, InBrackets, TrapBody, SignalBody}
use Rattle.read_text.specs.declared.heading.Awaits.{Awaits}
use Rattle.read_text.specs.declared.heading.Awaits.TheVariants.{VersionDue, NumberDue, VersionClosed, InputsDue, OutputsDue, InputName, InputNamed, OutputName, OutputNamed, BodyDue, Statement}
use Rattle.read_text.specs.declared.heading.Lead.{Lead}
use Rattle.read_text.specs.declared.heading.Reader.{Reader as CodeReader}
use Rattle.read_steps.specs.declared.steps.Fault.{Fault}
use Rattle.read_steps.specs.declared.steps.Fault.TheVariants.{Grammar, Deep}
use Rattle.refusals.specs.declared.Refused.{Refused}
use Rattle.refusals.specs.declared.Why.TheVariants.{Text, Limit}

-- The code's token is the first from a place on, and there is one.
pub record Ahead (text : List ℕ) (at : ℕ) (t : CodedToken) : Type 0 where
  pub front : FrontAt text (past_spaces text at) t
  pub inside : t.start < length text

abbrev pub token_of : List ℕ → CodedToken → Token
token_of text t = from_kind t.kind (word_at text t.start)

-- The header's numbers: inputs are among the names.
pub record Headed (r : CodeReader) (g : Heading) : Type 0 where
  pub its_version : r.version ≡ g.version
  pub its_inputs : r.inputs ≡ g.inputs
  pub its_signals : r.signals ≡ g.next
  pub few_inputs : g.inputs ≤ g.next

-- The code is in the header, where so many bytes of the text were read: its names are those of the tokens before, whatever follows.
pub record InHeader (text : List ℕ) (levels : List CodeLevel) (out : List ℕ) (at : ℕ) (r : CodeReader) (g : Heading) : Type 0 where
  pub its_room : length out ≡ 3092
  pub its_awaits : r.awaits ≡ awaits_of g.awaits
  pub numbers : Headed r g
  pub few_signals : g.next ≤ at
  pub names_so_far : (to : ℕ) → at ≤ to → header_names text to ≡ names_until to g.names g.next (tokens_from text at)

-- The code is in the statement: the header's names end before a place.
pub record InBody (text : List ℕ) (levels : List CodeLevel) (out : List ℕ) (at : ℕ) (r : CodeReader) (g : Heading) (c : Course) : Type 0 where
  pub its_awaits : r.awaits ≡ Statement
  pub numbers : Headed r g
  pub more_signals : g.next ≤ c.next
  pub its_names : c.header ≡ header_names text r.end
  pub holds : Holds levels out at r.stage c

pub data Reads (text : List ℕ) (levels : List CodeLevel) (out : List ℕ) (at : ℕ) (r : CodeReader) : Reader → Type 0 where
  of_header : (g : Heading) → InHeader text levels out at r g → Reads text levels out at r (in_header g)
  of_body : (g : Heading) (c : Course) → InBody text levels out at r g c → Reads text levels out at r (in_body g (state_of text c))

-- What a token gives: no reader, one that is held, or one with over 1,024 places open.
pub data Goes (q : Result CodeReader Fault) (reads : CodeReader → Reader → Type 0) : Option Reader → Type 0 where
  turned_away : q ≡ Err Grammar → Goes q reads none
  went_on : {r : CodeReader} (x : Reader) → q ≡ Ok r → reads r x → Goes q reads (some x)
  overflowed : (x : Reader) → q ≡ Err Deep → too_deep x ≡ true → Goes q reads (some x)

-- The first state of the statement, at the outermost place.
abbrev pub first_stage : ℕ → Stage
first_stage next = record { mode = Due; fresh = true; size = 0; depth = 0; next = next; top = outermost }

abbrev pub first_course : Heading → Course
first_course g = course due g.names (record { code = outermost; start = 0; arm = 0; link = 0 }) [] [] g.next

abbrev pub first_reader : CodeReader
first_reader = record { awaits = VersionDue; version = 0; inputs = 0; signals = 0; end = 0; stage = first_stage 0 }

-- The code takes a token in the header; a name, a number or a sign; a sign by the number that the header's table has for it.
pub record HeadTakes (text : List ℕ) (r : CodeReader) (t : CodedToken) (q : Result CodeReader Fault) : Type 0 where
  pub takes : {levels : List CodeLevel} {out : List ℕ} (at : ℕ) (g : Heading) → InHeader text levels out at r g → Ahead text at t
      → Goes q (Reads text levels out t.end) (read_step (in_header g) (token_of text t))

pub record Leads (r : CodeReader) (n : Lead) (q : Result CodeReader Fault) : Type 0 where
  pub leads : {text : List ℕ} {levels : List CodeLevel} {out : List ℕ} (at : ℕ) (g : Heading) (t : CodedToken) {k : ℕ} → InHeader text levels out at r g → Ahead text at t
      → t.kind ≡ Sign k → Goes q (Reads text levels out t.end) (headed g k n)

-- What is awaited behind a name, where one may stand.
unfoldable pub after_name : Awaits → Returned Awaits
after_name VersionDue = None
after_name NumberDue = None
after_name VersionClosed = None
after_name InputsDue = None
after_name OutputsDue = None
after_name InputName = Some InputNamed
after_name InputNamed = None
after_name OutputName = Some OutputNamed
after_name OutputNamed = None
after_name BodyDue = None
after_name Statement = None

-- The reader in the statement, behind the header's names.
abbrev pub in_statement : CodeReader → ℕ → Stage → CodeReader
in_statement r to s = record { awaits = Statement; version = r.version; inputs = r.inputs; signals = r.signals; end = to; stage = s }

-- The code takes a token in the statement, and a token wherever it is.
pub record BodyTakes (text : List ℕ) (levels : List CodeLevel) (out : List ℕ) (r : CodeReader) (t : CodedToken) (levels' : List CodeLevel) (out' : List ℕ) (q : Result CodeReader Fault) : Type 0 where
  pub takes : (at to : ℕ) (g : Heading) (c : Course) → InBody text levels out at r g c → at + 1 ≤ to
      → Goes q (Reads text levels' out' to) (body_step g (state_of text c) (token_of text t))

pub record TakesAny (text : List ℕ) (levels : List CodeLevel) (out : List ℕ) (r : CodeReader) (t : CodedToken) (levels' : List CodeLevel) (out' : List ℕ) (q : Result CodeReader Fault) : Type 0 where
  pub takes : (at : ℕ) (x : Reader) → Reads text levels out at r x → Ahead text at t
      → Goes q (Reads text levels' out' t.end) (read_step x (token_of text t))

-- What the code needs to take a token: it holds some reader.
pub record Ready (text : List ℕ) (levels : List CodeLevel) (out : List ℕ) (r : CodeReader) (t : CodedToken) : Type 0 where
  pub at : ℕ
  pub reader : Reader
  pub reads : Reads text levels out at r reader
  pub ahead : Ahead text at t

-- A text may end after a statement, where every level but the outermost is closed.
unfoldable pub begun_already : Awaits → Bool
begun_already VersionDue = false
begun_already NumberDue = false
begun_already VersionClosed = false
begun_already InputsDue = false
begun_already OutputsDue = false
begun_already InputName = false
begun_already InputNamed = false
begun_already OutputName = false
begun_already OutputNamed = false
begun_already BodyDue = false
begun_already Statement = true

unfoldable pub behind_one : CodeMode → Bool
behind_one Due = false
behind_one After = true
behind_one EmitName = false
behind_one ExitName = false
behind_one PresentName = false
behind_one TrapName = false
behind_one SignalName = false
behind_one WhenName = false
behind_one ThenDue = false
behind_one InDue = false

unfoldable pub all_closed : Scope → Bool
all_closed Outermost = true
all_closed ThenPart = false
all_closed EndPart = false
all_closed SuspendBody = false
all_closed InBrackets = false
all_closed TrapBody = false
all_closed SignalBody = false

unfoldable pub may_end : CodeReader → Bool
unfolding closer_in begun_already behind_one all_closed
may_end r = cond (begun_already r.awaits) (cond (behind_one r.stage.mode) (all_closed (closer_in r.stage.top)) false) false

-- Why a text is refused: at the place of its fault, or as a whole where over 1,024 places are open.
unfoldable pub refused_as : Fault → ℕ → Refused
refused_as Grammar at = record { why = Text; place = at }
refused_as Deep at = record { why = Limit; place = 0 }

-- What the code says of a whole text: its block by its numbers and the records in the lent bytes; or where it is outside; or that over
-- 1,024 places are open.
pub data Scanned (out : List ℕ) (e : Result CodeReader Refused) : Outcome → Type 0 where
  stood : {r : CodeReader} (rs : List ℕ) → e ≡ Ok r → r.inputs ≤ r.signals → r.signals ≤ r.stage.next → Written out r.stage.size rs
      → Scanned out e (stands (blocked r.version r.inputs r.signals r.stage.next rs))
  was_outside : (at : ℕ) → e ≡ Err (refused_as Grammar at) → Scanned out e (outside at)
  was_over : (at : ℕ) → e ≡ Err (refused_as Deep at) → Scanned out e over
