-- The reading of a text, one token a step, as the code does it. Nobody has to believe it: theorems tie it to Grammar and Meaning.
-- Assumes nothing.
use Rattle.std.specs.Prelude.{Bool, true, false, cond, List, [], ◌∷◌, ◌++◌, ℕ, suc, ◌+◌, eqb, length, take, drop}
use Rattle.std.proofs.Math.Option.{Option, none, some}
use Rattle.std.proofs.lemmas.List.Edits.{sets}
use Rattle.records.specs.Numerals.{in_bytes}
use Rattle.writing.specs.Written.{record_bytes}
use Rattle.text.specs.Tokens.{Token, sign, name, number, no_token, NOTHING, PAUSE, EMIT, PRESENT, THEN, ELSE, END, SUSPEND, WHEN, LOOP, TRAP, IN, EXIT, SIGNAL}
use Rattle.text.specs.Tokens.{SEMICOLON, BRACKET, CLOSED, BESIDE}
use Rattle.text.specs.Meaning.{Declaration, signal_named, trap_named, signal_in, depth_in, declared, go_on, if_new}

-- What closes a level: nothing closes the outermost; `else`, `end`, `when` or `]` the others.
pub data Closer : Type 0 where
  at_the_end : Closer
  by_else : Closer
  by_end : Closer
  by_when : Closer
  by_bracket : Closer

-- A level of open statements: what closes it, what it declares, and where in the block it begins, its last arm begins, and its
-- last basic statement begins.
pub record Level : Type 0 where
  pub closer : Closer
  pub declares : List Declaration
  pub start : ℕ
  pub arm : ℕ
  pub link : ℕ

abbrev pub level_at : Closer → List Declaration → ℕ → Level
level_at c ds at = record { closer = c; declares = ds; start = at; arm = at; link = at }

abbrev pub moved : Level → ℕ → ℕ → Level
moved l a b = record { closer = l.closer; declares = l.declares; start = l.start; arm = a; link = b }

-- What may stand next.
pub data Mode : Type 0 where
  due : Mode
  after : Mode
  emit_name : Mode
  exit_name : Mode
  present_name : Mode
  trap_name : Mode
  signal_name : Mode
  when_name : Mode
  then_due : Mode
  in_due : Mode

-- The innermost level, those around it, the records so far, and the number of the next local. The header's names stand around all.
pub record State : Type 0 where
  pub mode : Mode
  pub header : List Declaration
  pub top : Level
  pub below : List Level
  pub block : List ℕ
  pub next : ℕ

abbrev pub state : List Declaration → Mode → Level → List Level → List ℕ → ℕ → State
state h m l ls b n = record { mode = m; header = h; top = l; below = ls; block = b; next = n }

unfoldable pub declared_by : List Declaration → List Level → List Declaration
declared_by h [] = h
declared_by h (l ∷ ls) = l.declares ++ declared_by h ls

abbrev pub around : State → List Declaration
around s = s.top.declares ++ declared_by s.header s.below

-- The same, with another mode; with one record more at the end; with a new level at the end; without the innermost level.
abbrev pub to : State → Mode → State
to s m = state s.header m s.top s.below s.block s.next

abbrev pub put : State → ℕ → ℕ → Mode → State
put s k x m = state s.header m s.top s.below (s.block ++ record_bytes k x) s.next

abbrev pub opened : State → Closer → List Declaration → ℕ → Mode → State
opened s c ds n m = state s.header m (level_at c ds (length s.block)) (s.top ∷ s.below) s.block n

unfoldable pub popped : List Level → State → Mode → Option State
popped [] s m = none
popped (l ∷ ls) s m = some (state s.header m l ls s.block s.next)

-- A record put in before what begins at a place.
abbrev pub inserted : ℕ → ℕ → List ℕ → List ℕ
inserted k at b = take at b ++ (record_bytes k 0 ++ drop at b)

-- A sequence record goes before the last basic statement, a parallel record before the last arm.
abbrev pub sequenced : State → State
sequenced s =
    let b = inserted 21 s.top.link s.block in
    state s.header due (moved s.top s.top.arm (length b)) s.below b s.next

abbrev pub paralleled : State → State
paralleled s =
    let b = inserted 23 s.top.arm s.block in
    state s.header due (moved s.top (length b) (length b)) s.below b s.next

-- The second part of a present begins where its first ends.
abbrev pub turned : State → State
turned s = state s.header due (level_at by_end [] (length s.block)) s.below s.block s.next

unfoldable pub due_step : State → ℕ → Option State
due_step s k =
    cond (eqb k NOTHING) (some (put s 16 0 after))
    (cond (eqb k PAUSE) (some (put s 17 0 after))
    (cond (eqb k EMIT) (some (to s emit_name))
    (cond (eqb k EXIT) (some (to s exit_name))
    (cond (eqb k PRESENT) (some (to s present_name))
    (cond (eqb k TRAP) (some (to s trap_name))
    (cond (eqb k SIGNAL) (some (to s signal_name))
    (cond (eqb k SUSPEND) (some (opened (put s 20 0 due) by_when [] s.next due))
    (cond (eqb k LOOP) (some (opened (put s 22 0 due) by_end [] s.next due))
    (cond (eqb k BRACKET) (some (opened s by_bracket [] s.next due))
    none)))))))))

unfoldable pub closed : Closer → State → ℕ → Option State
unfolding popped
closed at_the_end s k = none
closed by_else s k = cond (eqb k ELSE) (some (turned s)) none
closed by_end s k = cond (eqb k END) (popped s.below s after) none
closed by_when s k = cond (eqb k WHEN) (popped s.below s when_name) none
closed by_bracket s k = cond (eqb k CLOSED) (popped s.below s after) none

unfoldable pub after_step : State → ℕ → Option State
unfolding closed
after_step s k =
    cond (eqb k SEMICOLON) (some (sequenced s))
    (cond (eqb k BESIDE) (some (paralleled s))
    (closed s.top.closer s k))

unfoldable pub by_sign : Mode → State → ℕ → Option State
unfolding due_step after_step
by_sign due s k = due_step s k
by_sign after s k = after_step s k
by_sign emit_name s k = none
by_sign exit_name s k = none
by_sign present_name s k = none
by_sign trap_name s k = none
by_sign signal_name s k = none
by_sign when_name s k = none
by_sign then_due s k = cond (eqb k THEN) (some (to s due)) none
by_sign in_due s k = cond (eqb k IN) (some (to s due)) none

-- A suspend's signal comes last: its record was written with 0, and its operand is stored now.
unfoldable pub operand_set : ℕ → ℕ → List ℕ → List ℕ
unfolding in_bytes
operand_set x at b = sets b (at + 4) (in_bytes 2 x)

abbrev pub whened : State → ℕ → State
whened s x = state s.header after s.top s.below (operand_set x s.top.link s.block) s.next

unfoldable pub by_name : Mode → State → List ℕ → Option State
unfolding signal_in depth_in declared declared_by
by_name due s x = none
by_name after s x = none
by_name emit_name s x = go_on (signal_in (around s) x) λ k. some (put s 18 k after)
by_name exit_name s x = go_on (depth_in (around s) x) λ d. some (put s 25 d after)
by_name present_name s x = go_on (signal_in (around s) x) λ k. some (opened (put s 19 k due) by_else [] s.next then_due)
by_name trap_name s x = if_new (declared (around s) x) (some (opened (put s 24 0 due) by_end (trap_named x ∷ []) s.next in_due))
by_name signal_name s x =
    if_new (declared (around s) x) (some (opened (put s 26 s.next due) by_end (signal_named x s.next ∷ []) (suc s.next) in_due))
by_name when_name s x = go_on (signal_in (around s) x) λ k. some (whened s k)
by_name then_due s x = none
by_name in_due s x = none

unfoldable pub step : State → Token → Option State
unfolding by_sign by_name
step s (sign k) = by_sign s.mode s k
step s (name x) = by_name s.mode s x
step s (number v) = none
step s no_token = none

unfoldable pub run : State → List Token → Option State
unfolding step
run s [] = some s
run s (t ∷ ts) = go_on (step s t) λ u. run u ts

-- A text may end after a statement, where every level but the outermost is closed.
abbrev pub is_outermost : Closer → Bool
is_outermost at_the_end = true
is_outermost by_else = false
is_outermost by_end = false
is_outermost by_when = false
is_outermost by_bracket = false

unfoldable pub complete : Mode → Closer → Bool
complete due c = false
complete after c = is_outermost c
complete emit_name c = false
complete exit_name c = false
complete present_name c = false
complete trap_name c = false
complete signal_name c = false
complete when_name c = false
complete then_due c = false
complete in_due c = false
