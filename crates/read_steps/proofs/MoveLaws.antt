-- The tables of moves are those of Machine: each test of one is a test of the other, in the same order. Assumes nothing.
use mathlib.Core.Path.{◌≡◌, refl, sym, ap, ◌∙◌}
use mathlib.Core.Bool.{Bool, true, false, cond, ◌||◌}
use mathlib.Core.List.{List, [], ◌∷◌}
use mathlib.Core.Option.{Option, none, some}
use Prim.Native.Nat.{ℕ, suc}
use borrow.Author.Tests.{ne_eqb}
use lib.Dec.{eqb}
use native.Mathlib.Omega.{arith}
use Rattle.text.specs.Tokens.{same, NOTHING, PAUSE, EMIT, PRESENT, THEN, ELSE, END, SUSPEND, WHEN, LOOP, TRAP, IN, EXIT, SIGNAL, SEMICOLON, BRACKET, CLOSED, BESIDE}
use Rattle.text.specs.Meaning.{Declaration, signal_named, trap_named, its_name, its_signal, its_depth, passed_over, signal_in, depth_in, declared, go_on, if_new}
use Rattle.text.specs.Machine.{Closer, by_else, by_end, put, opened, whened}
use Rattle.text.specs.Machine.{Mode, due, after, emit_name, exit_name, present_name, trap_name, signal_name, when_name, then_due, in_due}
use Rattle.text.specs.Machine.{State, around, due_step, closed, after_step, by_sign, by_name}
use Rattle.read_steps.specs.Found.{opens, beyond_trap, its_found, beyond, found_in}
use Rattle.read_steps.specs.Moves.{mode_of, closer_of, due_move, closed_move, after_move, sign_move, signal_move, trap_move, new_move, found_move, next_after, made}
use Rattle.read_steps.specs.declared.modes.Mode.{Mode as CodeMode}
use Rattle.read_steps.specs.declared.modes.Mode.TheVariants.{Due, After, EmitName, ExitName, PresentName, TrapName, SignalName, WhenName, ThenDue, InDue}
use Rattle.read_steps.specs.declared.levels.Scope.{Scope}
use Rattle.read_steps.specs.declared.levels.Scope.TheVariants.{Outermost, ThenPart, EndPart, SuspendBody, InBrackets, TrapBody, SignalBody}
use Rattle.read_steps.specs.declared.found.Found.{Found}
use Rattle.read_steps.specs.declared.found.Found.TheVariants.{Nothing, Signal, Trap}
use Rattle.read_steps.specs.declared.moves.Move.{Move}
use Rattle.read_steps.specs.declared.moves.Move.TheVariants.{Fault, To, Put, Open, Bracket, Close, Sequence, Parallel, Turn}

-- A choice of moves is made as the chosen one is.
choice : (x : List ℕ) (s : State) (z : Bool) (m n : Move) → made x s (cond z m n) ≡ cond z (made x s m) (made x s n)
choice x s true m n = refl
choice x s false m n = refl

module _ (x : List ℕ) (s : State) where
  -- A first test before other moves of the same table.
  or_else : (z : Bool) (m n : Move) {o : Option State} → made x s n ≡ o → made x s (cond z m n) ≡ cond z (made x s m) o
  or_else z m n e = choice x s z m n ∙ ap (cond z (made x s m)) e

  due_made : (k : ℕ) → made x s (due_move k) ≡ due_step s k
  unfolding due_move due_step made mode_of closer_of opens next_after
  due_made k =
      or_else (eqb k NOTHING) _ _ (or_else (eqb k PAUSE) _ _ (or_else (eqb k EMIT) _ _ (or_else (eqb k EXIT) _ _ (or_else (eqb k PRESENT) _ _ (or_else (eqb k TRAP) _ _
      (or_else (eqb k SIGNAL) _ _ (or_else (eqb k SUSPEND) _ _ (or_else (eqb k LOOP) _ _ (choice x s (eqb k BRACKET) Bracket Fault)))))))))

  closed_made : (c : Scope) (k : ℕ) → made x s (closed_move c k) ≡ closed (closer_of c) s k
  unfolding closed_move closed made mode_of closer_of
  closed_made Outermost k = refl
  closed_made ThenPart k = choice x s (eqb k ELSE) Turn Fault
  closed_made EndPart k = choice x s (eqb k END) (Close After) Fault
  closed_made SuspendBody k = choice x s (eqb k WHEN) (Close WhenName) Fault
  closed_made InBrackets k = choice x s (eqb k CLOSED) (Close After) Fault
  closed_made TrapBody k = choice x s (eqb k END) (Close After) Fault
  closed_made SignalBody k = choice x s (eqb k END) (Close After) Fault

  after_made : (c : Scope) (k : ℕ) → s.top.closer ≡ closer_of c → made x s (after_move c k) ≡ after_step s k
  unfolding after_move after_step made
  after_made c k e = or_else (eqb k SEMICOLON) _ _ (or_else (eqb k BESIDE) _ _ (closed_made c k ∙ sym (ap (λ (d : Closer). closed d s k) e)))

  pub sign_made : (m : CodeMode) (c : Scope) (k : ℕ) → s.top.closer ≡ closer_of c → made x s (sign_move m c k) ≡ by_sign (mode_of m) s k
  unfolding sign_move by_sign made mode_of
  sign_made Due c k e = due_made k
  sign_made After c k e = after_made c k e
  sign_made EmitName c k e = refl
  sign_made ExitName c k e = refl
  sign_made PresentName c k e = refl
  sign_made TrapName c k e = refl
  sign_made SignalName c k e = refl
  sign_made WhenName c k e = refl
  sign_made ThenDue c k e = choice x s (eqb k THEN) (To Due) Fault
  sign_made InDue c k e = choice x s (eqb k IN) (To Due) Fault

-- What a name stands for answers every question of Meaning.
abbrev signal_told : Found → Option ℕ
signal_told Nothing = none
signal_told (Signal n) = some n
signal_told (Trap d) = none

abbrev depth_told : Found → Option ℕ
depth_told Nothing = none
depth_told (Signal n) = none
depth_told (Trap d) = some d

abbrev pub told_some : Found → Bool
told_some Nothing = false
told_some (Signal n) = true
told_some (Trap d) = true

signal_found : (ds : List Declaration) (x : List ℕ) → signal_in ds x ≡ signal_told (found_in ds x)
unfolding signal_in found_in beyond_trap
signal_found [] x = refl
signal_found (d ∷ ds) x = go d (same (its_name d) x) (signal_found ds x)
  where
    beyond_told : (f : Found) → signal_told f ≡ signal_told (beyond_trap f)
    beyond_told Nothing = refl
    beyond_told (Signal n) = refl
    beyond_told (Trap e) = refl

    go : (d : Declaration) (z : Bool) → signal_in ds x ≡ signal_told (found_in ds x) → cond z (its_signal d) (signal_in ds x) ≡ signal_told (cond z (its_found d) (beyond d (found_in ds x)))
    go (signal_named y n) true e = refl
    go (signal_named y n) false e = e
    go (trap_named y) true e = refl
    go (trap_named y) false e = e ∙ beyond_told (found_in ds x)

depth_found : (ds : List Declaration) (x : List ℕ) → depth_in ds x ≡ depth_told (found_in ds x)
unfolding depth_in found_in beyond_trap
depth_found [] x = refl
depth_found (d ∷ ds) x = go d (same (its_name d) x) (depth_found ds x)
  where
    over : (f : Found) → go_on (depth_told f) (λ d. some (suc d)) ≡ depth_told (beyond_trap f)
    over Nothing = refl
    over (Signal n) = refl
    over (Trap e) = ap some (omega arith)

    go : (d : Declaration) (z : Bool) → depth_in ds x ≡ depth_told (found_in ds x) → cond z (its_depth d) (passed_over d (depth_in ds x)) ≡ depth_told (cond z (its_found d) (beyond d
        (found_in ds x)))
    go (signal_named y n) true e = refl
    go (signal_named y n) false e = e
    go (trap_named y) true e = refl
    go (trap_named y) false e = ap (λ (o : Option ℕ). go_on o (λ d. some (suc d))) e ∙ over (found_in ds x)

pub declared_found : (ds : List Declaration) (x : List ℕ) → declared ds x ≡ told_some (found_in ds x)
unfolding declared found_in beyond_trap
declared_found [] x = refl
declared_found (d ∷ ds) x = go d (same (its_name d) x) (declared_found ds x)
  where
    beyond_told : (f : Found) → told_some f ≡ told_some (beyond_trap f)
    beyond_told Nothing = refl
    beyond_told (Signal n) = refl
    beyond_told (Trap e) = refl

    go : (d : Declaration) (z : Bool) → declared ds x ≡ told_some (found_in ds x) → (z || declared ds x) ≡ told_some (cond z (its_found d) (beyond d (found_in ds x)))
    go (signal_named y n) true e = refl
    go (signal_named y n) false e = e
    go (trap_named y) true e = refl
    go (trap_named y) false e = e ∙ beyond_told (found_in ds x)

-- A name, by the answers to three questions.
module _ (x : List ℕ) (s : State) where
  abbrev named_by : Mode → Option ℕ → Option ℕ → Bool → Option State
  named_by due o p z = none
  named_by after o p z = none
  named_by emit_name o p z = go_on o λ k. some (put s 18 k after)
  named_by exit_name o p z = go_on p λ d. some (put s 25 d after)
  named_by present_name o p z = go_on o λ k. some (opened (put s 19 k due) by_else [] s.next then_due)
  named_by trap_name o p z = if_new z (some (opened (put s 24 0 due) by_end (trap_named x ∷ []) s.next in_due))
  named_by signal_name o p z = if_new z (some (opened (put s 26 s.next due) by_end (signal_named x s.next ∷ []) (suc s.next) in_due))
  named_by when_name o p z = go_on o λ k. some (whened s k)
  named_by then_due o p z = none
  named_by in_due o p z = none

  asked : (m : Mode) → by_name m s x ≡ named_by m (signal_in (around s) x) (depth_in (around s) x) (declared (around s) x)
  unfolding by_name
  asked due = refl
  asked after = refl
  asked emit_name = refl
  asked exit_name = refl
  asked present_name = refl
  asked trap_name = refl
  asked signal_name = refl
  asked when_name = refl
  asked then_due = refl
  asked in_due = refl

  answered : (m : CodeMode) (f : Found) → made x s (found_move m f s.next) ≡ named_by (mode_of m) (signal_told f) (depth_told f) (told_some f)
  unfolding found_move signal_move trap_move new_move made mode_of closer_of opens next_after
  answered Due Nothing = refl
  answered Due (Signal n) = refl
  answered Due (Trap d) = refl
  answered After Nothing = refl
  answered After (Signal n) = refl
  answered After (Trap d) = refl
  answered EmitName Nothing = refl
  answered EmitName (Signal n) = refl
  answered EmitName (Trap d) = refl
  answered ExitName Nothing = refl
  answered ExitName (Signal n) = refl
  answered ExitName (Trap d) = refl
  answered PresentName Nothing = refl
  answered PresentName (Signal n) = refl
  answered PresentName (Trap d) = refl
  answered TrapName Nothing = refl
  answered TrapName (Signal n) = refl
  answered TrapName (Trap d) = refl
  answered SignalName Nothing = refl
  answered SignalName (Signal n) = refl
  answered SignalName (Trap d) = refl
  answered WhenName Nothing = refl
  answered WhenName (Signal n) = refl
  answered WhenName (Trap d) = refl
  answered ThenDue Nothing = refl
  answered ThenDue (Signal n) = refl
  answered ThenDue (Trap d) = refl
  answered InDue Nothing = refl
  answered InDue (Signal n) = refl
  answered InDue (Trap d) = refl

  pub name_made : (m : CodeMode) → made x s (found_move m (found_in (around s) x) s.next) ≡ by_name (mode_of m) s x
  name_made m =
      answered m (found_in (around s) x)
      ∙ sym (asked (mode_of m) ∙ (λ i. named_by (mode_of m) (signal_found (around s) x i) (depth_found (around s) x i) (declared_found (around s) x i)))

-- What is in no row of a table.
pub due_other : (k : ℕ) → (k ≡ NOTHING → ⊥) → (k ≡ PAUSE → ⊥) → (k ≡ EMIT → ⊥) → (k ≡ EXIT → ⊥) → (k ≡ PRESENT → ⊥) → (k ≡ TRAP → ⊥) → (k ≡ SIGNAL → ⊥) → (k ≡ SUSPEND → ⊥) → (k ≡ LOOP → ⊥)
    → (k ≡ BRACKET → ⊥) → Fault ≡ due_move k
unfolding due_move
due_other k a b c d e f g h j l =
    sym (λ i. cond (ne_eqb k NOTHING a i) (Put 16 0) (cond (ne_eqb k PAUSE b i) (Put 17 0) (cond (ne_eqb k EMIT c i) (To EmitName) (cond (ne_eqb k EXIT d i) (To ExitName) (cond (ne_eqb k PRESENT e i) (To PresentName)
    (cond (ne_eqb k TRAP f i) (To TrapName) (cond (ne_eqb k SIGNAL g i) (To SignalName) (cond (ne_eqb k SUSPEND h i) (Open 20 0 SuspendBody Due) (cond (ne_eqb k LOOP j i) (Open 22 0 EndPart Due) (cond
    (ne_eqb k BRACKET l i) Bracket Fault))))))))))

pub after_other : (c : Scope) (k : ℕ) → (k ≡ SEMICOLON → ⊥) → (k ≡ BESIDE → ⊥) → closed_move c k ≡ after_move c k
unfolding after_move
after_other c k a b = sym (λ i. cond (ne_eqb k SEMICOLON a i) Sequence (cond (ne_eqb k BESIDE b i) Parallel (closed_move c k)))

pub sign_other : (m : CodeMode) (c : Scope) (k : ℕ) → (m ≡ Due → ⊥) → (m ≡ After → ⊥) → (m ≡ ThenDue → ⊥) → (m ≡ InDue → ⊥) → Fault ≡ sign_move m c k
unfolding sign_move
sign_other Due c k p q r t = absurd (p refl)
sign_other After c k p q r t = absurd (q refl)
sign_other EmitName c k p q r t = refl
sign_other ExitName c k p q r t = refl
sign_other PresentName c k p q r t = refl
sign_other TrapName c k p q r t = refl
sign_other SignalName c k p q r t = refl
sign_other WhenName c k p q r t = refl
sign_other ThenDue c k p q r t = absurd (r refl)
sign_other InDue c k p q r t = absurd (t refl)

pub signal_other : (m : CodeMode) (n : ℕ) → (m ≡ EmitName → ⊥) → (m ≡ PresentName → ⊥) → (m ≡ WhenName → ⊥) → Fault ≡ signal_move m n
unfolding signal_move
signal_other Due n p q r = refl
signal_other After n p q r = refl
signal_other EmitName n p q r = absurd (p refl)
signal_other ExitName n p q r = refl
signal_other PresentName n p q r = absurd (q refl)
signal_other TrapName n p q r = refl
signal_other SignalName n p q r = refl
signal_other WhenName n p q r = absurd (r refl)
signal_other ThenDue n p q r = refl
signal_other InDue n p q r = refl

pub trap_other : (m : CodeMode) (d : ℕ) → (m ≡ ExitName → ⊥) → Fault ≡ trap_move m d
unfolding trap_move
trap_other Due d p = refl
trap_other After d p = refl
trap_other EmitName d p = refl
trap_other ExitName d p = absurd (p refl)
trap_other PresentName d p = refl
trap_other TrapName d p = refl
trap_other SignalName d p = refl
trap_other WhenName d p = refl
trap_other ThenDue d p = refl
trap_other InDue d p = refl

pub new_other : (m : CodeMode) (n : ℕ) → (m ≡ TrapName → ⊥) → (m ≡ SignalName → ⊥) → Fault ≡ new_move m n
unfolding new_move
new_other Due n p q = refl
new_other After n p q = refl
new_other EmitName n p q = refl
new_other ExitName n p q = refl
new_other PresentName n p q = refl
new_other TrapName n p q = absurd (p refl)
new_other SignalName n p q = absurd (q refl)
new_other WhenName n p q = refl
new_other ThenDue n p q = refl
new_other InDue n p q = refl

pub next_same : (k : Scope) (n : ℕ) → (k ≡ SignalBody → ⊥) → n ≡ next_after k n
unfolding next_after
next_same Outermost n p = refl
next_same ThenPart n p = refl
next_same EndPart n p = refl
next_same SuspendBody n p = refl
next_same InBrackets n p = refl
next_same TrapBody n p = refl
next_same SignalBody n p = absurd (p refl)
