-- The moves of the reader as the code has them, and what each does to the state of Machine. Assumes nothing.
use Rattle.std.specs.Prelude.{cond, List, [], ℕ, suc, eqb}
use Rattle.std.proofs.Math.Option.{Option, none, some}
use Rattle.text.specs.Tokens.{NOTHING, PAUSE, EMIT, PRESENT, THEN, ELSE, END, SUSPEND, WHEN, LOOP, TRAP, IN, EXIT, SIGNAL, SEMICOLON, BRACKET, CLOSED, BESIDE}
use Rattle.text.specs.Machine.{Closer, at_the_end, by_else, by_end, by_when, by_bracket, Mode, due, after, emit_name, exit_name, present_name, trap_name, signal_name, when_name}
use Rattle.text.specs.Machine.{then_due, in_due, State, to, put, opened, popped, sequenced, paralleled, turned, whened}
use Rattle.read_steps.specs.Found.{opens}
use Rattle.read_steps.specs.declared.modes.Mode.{Mode as CodeMode}
use Rattle.read_steps.specs.declared.modes.Mode.TheVariants.{Due, After, EmitName, ExitName, PresentName, TrapName, SignalName, WhenName, ThenDue, InDue}
use Rattle.read_steps.specs.declared.levels.Scope.{Scope}
use Rattle.read_steps.specs.declared.levels.Scope.TheVariants.{Outermost, ThenPart, EndPart, SuspendBody, InBrackets, TrapBody, SignalBody}
use Rattle.read_steps.specs.declared.found.Found.{Found}
use Rattle.read_steps.specs.declared.found.Found.TheVariants.{Nothing, Signal, Trap}
use Rattle.read_steps.specs.declared.moves.Move.{Move}
use Rattle.read_steps.specs.declared.moves.Move.TheVariants.{Fault, To, Put, Open, Bracket, Close, Sequence, Parallel, Turn, When}

-- The modes and closers of Machine: what declares a trap or a signal is closed by `end` too.
unfoldable pub mode_of : CodeMode → Mode
mode_of Due = due
mode_of After = after
mode_of EmitName = emit_name
mode_of ExitName = exit_name
mode_of PresentName = present_name
mode_of TrapName = trap_name
mode_of SignalName = signal_name
mode_of WhenName = when_name
mode_of ThenDue = then_due
mode_of InDue = in_due

unfoldable pub closer_of : Scope → Closer
closer_of Outermost = at_the_end
closer_of ThenPart = by_else
closer_of EndPart = by_end
closer_of SuspendBody = by_when
closer_of InBrackets = by_bracket
closer_of TrapBody = by_end
closer_of SignalBody = by_end

-- The tables.
unfoldable pub due_move : ℕ → Move
due_move k =
    cond (eqb k NOTHING) (Put 16 0) (cond (eqb k PAUSE) (Put 17 0) (cond (eqb k EMIT) (To EmitName) (cond (eqb k EXIT) (To ExitName) (cond (eqb k PRESENT) (To PresentName)
    (cond (eqb k TRAP) (To TrapName) (cond (eqb k SIGNAL) (To SignalName) (cond (eqb k SUSPEND) (Open 20 0 SuspendBody Due) (cond (eqb k LOOP) (Open 22 0 EndPart Due) (cond (eqb k BRACKET)
    Bracket Fault)))))))))

abbrev pub expected : ℕ → ℕ → Move → Move
expected k key m = cond (eqb k key) m Fault

unfoldable pub closed_move : Scope → ℕ → Move
closed_move Outermost k = Fault
closed_move ThenPart k = expected k ELSE Turn
closed_move EndPart k = expected k END (Close After)
closed_move SuspendBody k = expected k WHEN (Close WhenName)
closed_move InBrackets k = expected k CLOSED (Close After)
closed_move TrapBody k = expected k END (Close After)
closed_move SignalBody k = expected k END (Close After)

unfoldable pub after_move : Scope → ℕ → Move
unfolding closed_move
after_move c k = cond (eqb k SEMICOLON) Sequence (cond (eqb k BESIDE) Parallel (closed_move c k))

unfoldable pub sign_move : CodeMode → Scope → ℕ → Move
unfolding due_move after_move
sign_move Due c k = due_move k
sign_move After c k = after_move c k
sign_move EmitName c k = Fault
sign_move ExitName c k = Fault
sign_move PresentName c k = Fault
sign_move TrapName c k = Fault
sign_move SignalName c k = Fault
sign_move WhenName c k = Fault
sign_move ThenDue c k = expected k THEN (To Due)
sign_move InDue c k = expected k IN (To Due)

unfoldable pub signal_move : CodeMode → ℕ → Move
signal_move Due n = Fault
signal_move After n = Fault
signal_move EmitName n = Put 18 n
signal_move ExitName n = Fault
signal_move PresentName n = Open 19 n ThenPart ThenDue
signal_move TrapName n = Fault
signal_move SignalName n = Fault
signal_move WhenName n = When n
signal_move ThenDue n = Fault
signal_move InDue n = Fault

unfoldable pub trap_move : CodeMode → ℕ → Move
trap_move Due d = Fault
trap_move After d = Fault
trap_move EmitName d = Fault
trap_move ExitName d = Put 25 d
trap_move PresentName d = Fault
trap_move TrapName d = Fault
trap_move SignalName d = Fault
trap_move WhenName d = Fault
trap_move ThenDue d = Fault
trap_move InDue d = Fault

unfoldable pub new_move : CodeMode → ℕ → Move
new_move Due next = Fault
new_move After next = Fault
new_move EmitName next = Fault
new_move ExitName next = Fault
new_move PresentName next = Fault
new_move TrapName next = Open 24 0 TrapBody InDue
new_move SignalName next = Open 26 next SignalBody InDue
new_move WhenName next = Fault
new_move ThenDue next = Fault
new_move InDue next = Fault

unfoldable pub found_move : CodeMode → Found → ℕ → Move
unfolding signal_move trap_move new_move
found_move m Nothing next = new_move m next
found_move m (Signal n) next = signal_move m n
found_move m (Trap d) next = trap_move m d

-- The number of the next local inside a level.
unfoldable pub next_after : Scope → ℕ → ℕ
next_after Outermost n = n
next_after ThenPart n = n
next_after EndPart n = n
next_after SuspendBody n = n
next_after InBrackets n = n
next_after TrapBody n = n
next_after SignalBody n = suc n

-- The move made, where the name x was read last.
unfoldable pub made : List ℕ → State → Move → Option State
unfolding mode_of closer_of opens next_after popped
made x s Fault = none
made x s (To m) = some (to s (mode_of m))
made x s (Put k v) = some (put s k v after)
made x s (Open k v l m) = some (opened (put s k v due) (closer_of l) (opens l x s.next) (next_after l s.next) (mode_of m))
made x s Bracket = some (opened s by_bracket [] s.next due)
made x s (Close m) = popped s.below s (mode_of m)
made x s Sequence = some (sequenced s)
made x s Parallel = some (paralleled s)
made x s Turn = some (turned s)
made x s (When v) = some (whened s v)
