-- What the code holds of a state of Machine. Assumes nothing.
use Rattle.std.specs.Prelude.{◌≡◌, Bool, true, false, cond, List, [], ◌∷◌, ℕ, zero, suc, ◌+◌, ◌≤◌, ◌<◌, eqb, length, Result, Ok, Err}
use Rattle.std.proofs.Math.Option.{Option, none, some}
use Rattle.text.specs.Meaning.{Declaration}
use Rattle.text.specs.Machine.{by_bracket, Level, Mode, due, after, emit_name, exit_name, present_name, trap_name, signal_name, when_name, then_due, in_due, State, state, step}
use Rattle.text.specs.Reader.{places}
use Rattle.text.specs.Coded.{from_kind}
use Rattle.text.specs.declared.tokens.Token.{Token as CodedToken}
use Rattle.read_steps.specs.Levels.{levels_in}
use Rattle.read_steps.specs.Found.{level_declares, word_at, header_names}
use Rattle.read_steps.specs.Records.{Sized, Written}
use Rattle.read_steps.specs.Moves.{mode_of, closer_of, made}
use Rattle.read_steps.specs.declared.levels.Level.{Level as CodeLevel}
use Rattle.read_steps.specs.declared.levels.Scope.{Scope}
use Rattle.read_steps.specs.declared.levels.Scope.TheVariants.{InBrackets}
use Rattle.read_steps.specs.declared.steps.Stage.{Stage}
use Rattle.read_steps.specs.declared.steps.Fault.{Fault as Refused}
use Rattle.read_steps.specs.declared.steps.Fault.TheVariants.{Grammar, Deep}
use Rattle.read_steps.specs.declared.moves.Move.{Move}
use Rattle.read_steps.specs.declared.moves.Move.TheVariants.{Fault, To, Put, Open, Bracket, Close, Sequence, Parallel, Turn, When}

-- A place where statements are open: the level that the code has for it, and where in the block it begins, its last arm begins, and its
-- last basic statement begins.
pub record Place : Type 0 where
  pub code : CodeLevel
  pub start : ℕ
  pub arm : ℕ
  pub link : ℕ

-- The levels of a place: the innermost of its brackets has the arm and the link; those around it are as they were opened.
unfoldable pub level_of : List ℕ → Place → ℕ → ℕ → ℕ → Level
level_of text p zero a k = record { closer = closer_of p.code.kind; declares = level_declares text p.code; start = p.start; arm = a; link = k }
level_of text p (suc n) a k = record { closer = by_bracket; declares = []; start = p.start; arm = a; link = k }

unfoldable pub around_it : List ℕ → Place → ℕ → List Level → List Level
unfolding level_of
around_it text p zero ls = ls
around_it text p (suc n) ls = level_of text p n p.start p.start ∷ around_it text p n ls

unfoldable pub levels_of : List ℕ → List Place → List Level
unfolding around_it
levels_of text [] = []
levels_of text (p ∷ ps) = level_of text p p.code.brackets p.arm p.link ∷ around_it text p p.code.brackets (levels_of text ps)

-- A state by its places.
pub record Course : Type 0 where
  pub mode : Mode
  pub header : List Declaration
  pub here : Place
  pub under : List Place
  pub block : List ℕ
  pub next : ℕ

abbrev pub course : Mode → List Declaration → Place → List Place → List ℕ → ℕ → Course
course m h p ps b n = record { mode = m; header = h; here = p; under = ps; block = b; next = n }

unfoldable pub state_of : List ℕ → Course → State
unfolding levels_of
state_of text g =
    let p = g.here in
    state g.header g.mode (level_of text p p.code.brackets p.arm p.link) (around_it text p p.code.brackets (levels_of text g.under)) g.block g.next

-- Each place begins behind the one around it.
unfoldable pub Rising : ℕ → List Place → Type 0
Rising at [] = Unit {0}
Rising at (p ∷ ps) = (p.start < at) × Rising p.start ps

-- The code's marks are right as long as the records are kept, and brackets are no more than the bytes of the text that were read.
pub record Kept (size at : ℕ) (p : Place) : Type 0 where
  pub start_is : size ≤ 3072 → p.code.start ≡ p.start
  pub arm_is : size ≤ 3072 → p.code.arm ≡ p.arm
  pub link_is : size ≤ 3072 → p.code.link ≡ p.link
  pub few_brackets : p.code.brackets ≤ at

unfoldable pub KeptAll : ℕ → ℕ → List Place → Type 0
KeptAll size at [] = Unit {0}
KeptAll size at (p ∷ ps) = Kept size at p × KeptAll size at ps

unfoldable pub codes : List Place → List CodeLevel
codes [] = []
codes (p ∷ ps) = p.code ∷ codes ps

-- Nothing stands yet where the innermost level begins, or something does; it matters only where a statement may be due next.
unfoldable pub FreshAt : Bool → Place → ℕ → Type 0
FreshAt true p end = (p.start ≡ end) × (p.arm ≡ p.start) × (p.link ≡ p.start)
FreshAt false p end = p.start < end

unfoldable pub FreshIn : Mode → Bool → Place → ℕ → Type 0
unfolding FreshAt
FreshIn due f p end = FreshAt f p end
FreshIn after f p end = Unit {0}
FreshIn emit_name f p end = Unit {0}
FreshIn exit_name f p end = Unit {0}
FreshIn present_name f p end = Unit {0}
FreshIn trap_name f p end = Unit {0}
FreshIn signal_name f p end = Unit {0}
FreshIn when_name f p end = Unit {0}
FreshIn then_due f p end = FreshAt f p end
FreshIn in_due f p end = FreshAt f p end

-- The code's state and lent arrays hold a state, where so many bytes of the text were read.
pub record Holds (levels : List CodeLevel) (out : List ℕ) (at : ℕ) (s : Stage) (g : Course) : Type 0 where
  pub its_mode : mode_of s.mode ≡ g.mode
  pub its_next : s.next ≡ g.next
  pub few_locals : s.next ≤ at
  pub its_top : g.here.code ≡ s.top
  pub its_levels : codes g.under ≡ levels_in levels s.depth
  pub few_levels : s.depth ≤ 1024
  pub rising : Rising g.here.start g.under
  pub begun : g.here.start ≤ length g.block
  pub its_fresh : FreshIn g.mode s.fresh g.here (length g.block)
  pub written : Written out s.size g.block
  pub kept : KeptAll s.size at (g.here ∷ g.under)

-- What a step gives: no state, a state that is held, or one with over 1,024 places open.
pub data Steps (text : List ℕ) (r : Result Stage Refused) (holds : Stage → Course → Type 0) : Option State → Type 0 where
  faulted : r ≡ Err Grammar → Steps text r holds none
  went : {t : Stage} (g : Course) → r ≡ Ok t → holds t g → Steps text r holds (some (state_of text g))
  burst : {q : State} → r ≡ Err Deep → 1025 < places q.top.start q.below → Steps text r holds (some q)

-- What a move needs of the state that it is made in: the mode that follows it has what it says of the innermost level, and `else` closes a
-- level that no bracket is open in.
unfoldable pub Valid : Course → Move → Type 0
unfolding FreshIn
Valid g Fault = Unit {0}
Valid g (To m) = (f : Bool) → FreshIn g.mode f g.here (length g.block) → FreshIn (mode_of m) f g.here (length g.block)
Valid g (Put k v) = Unit {0}
Valid g (Open k v l m) = (p : Place) (end : ℕ) → FreshAt true p end → FreshIn (mode_of m) true p end
Valid g Bracket = (f : Bool) → FreshIn g.mode f g.here (length g.block) → FreshAt f g.here (length g.block)
Valid g (Close m) = (f : Bool) (p : Place) (end : ℕ) → FreshIn (mode_of m) f p end
Valid g Sequence = Unit {0}
Valid g Parallel = Unit {0}
Valid g Turn = g.here.code.brackets ≡ 0
Valid g (When v) = Unit {0}

-- The code makes a move: from what it held before, it holds what the move gives.
pub record Does (levels : List CodeLevel) (out : List ℕ) (s : Stage) (name : ℕ) (m : Move) (levels' : List CodeLevel) (out' : List ℕ) (r : Result Stage Refused) : Type 0 where
  pub does : (text : List ℕ) (at : ℕ) (g : Course) → Holds levels out at s g → Valid g m
      → Steps text r (Holds levels' out' (at + 1)) (made (word_at text name) (state_of text g) m)

-- The kinds of records that a move writes are such.
unfoldable pub Safe : Move → Type 0
Safe Fault = Unit {0}
Safe (To m) = Unit {0}
Safe (Put k v) = Sized k
Safe (Open k v l m) = Sized k
Safe Bracket = Unit {0}
Safe (Close m) = Unit {0}
Safe Sequence = Unit {0}
Safe Parallel = Unit {0}
Safe Turn = Unit {0}
Safe (When v) = Unit {0}

-- What closes the innermost level of a place.
unfoldable pub closer_in : CodeLevel → Scope
closer_in l = cond (eqb l.brackets 0) l.kind InBrackets

-- The code takes a token of the statement: from what it held before, it holds what the token's step gives.
pub record Takes (text : List ℕ) (end : ℕ) (levels : List CodeLevel) (out : List ℕ) (s : Stage) (t : CodedToken) (levels' : List CodeLevel) (out' : List ℕ) (r : Result Stage Refused) : Type 0 where
  pub takes : (at : ℕ) (g : Course) → Holds levels out at s g → g.header ≡ header_names text end
      → Steps text r (Holds levels' out' (at + 1)) (step (state_of text g) (from_kind t.kind (word_at text t.start)))
