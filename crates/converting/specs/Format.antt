-- The block file of edition 2 and its reading: as that of edition 1, with four kinds more. What a record's kind and operand stand for is said in one place,
-- and every rule is by the statement. Assumes nothing.
use Rattle.std.specs.Prelude.{Bool, true, false, not, cond, ◌&&◌, ◌||◌, List, ℕ, zero, suc, ◌+◌, eqb, ltb, leb, length}
use Rattle.std.proofs.Math.Option.{Option, none, some}
use Rattle.sets.specs.Numbers.{single, union}
use Rattle.rules.specs.Statements.{depth}
use Rattle.block.specs.Format.{BROKEN, KIND, LIMIT, SIGNAL, EXIT, SHAPE, LOOP, length_at, kind_at, operand_at, is_broken, Header, header, header_fault_in}
use Rattle.block.specs.Format.{Sofar, Around as Surroundings, declared_here, outermost, begun}
use Rattle.everyday.specs.Statements.{Alone, nothing, pause, halt, emit, sustain, await, exit, Around, suspend_on, loop, trap, local, abort_when}
use Rattle.everyday.specs.Statements.{Between, present_then_else, in_sequence, in_parallel, Everyday, alone, around, between}
use Rattle.everyday.specs.Check.{codes₂, may_stand}

-- A statement without those below it: none, one or two.
pub data Sort : Type 0 where
  of_none : Alone → Sort
  of_one : Around → Sort
  of_two : Between → Sort

-- What a record of kind k with the operand x stands for. The kinds of edition 1, and 32 halt, 33 sustain, 34 await, 35 abort.
unfoldable pub sort_of : ℕ → ℕ → Option Sort
sort_of k x =
    cond (eqb k 16) (some (of_none nothing))
    (cond (eqb k 17) (some (of_none pause))
    (cond (eqb k 18) (some (of_none (emit x)))
    (cond (eqb k 19) (some (of_two (present_then_else x)))
    (cond (eqb k 20) (some (of_one (suspend_on x)))
    (cond (eqb k 21) (some (of_two in_sequence))
    (cond (eqb k 22) (some (of_one loop))
    (cond (eqb k 23) (some (of_two in_parallel))
    (cond (eqb k 24) (some (of_one trap))
    (cond (eqb k 25) (some (of_none (exit (depth x))))
    (cond (eqb k 26) (some (of_one (local x)))
    (cond (eqb k 32) (some (of_none halt))
    (cond (eqb k 33) (some (of_none (sustain x)))
    (cond (eqb k 34) (some (of_none (await x)))
    (cond (eqb k 35) (some (of_one (abort_when x)))
    none))))))))))))))

-- Halt has no operand; sustain, await and abort have their signal.
abbrev pub has_operand : Sort → Bool
has_operand (of_none nothing) = false
has_operand (of_none pause) = false
has_operand (of_none halt) = false
has_operand (of_none (emit s)) = true
has_operand (of_none (sustain s)) = true
has_operand (of_none (await s)) = true
has_operand (of_none (exit d)) = true
has_operand (of_one (suspend_on s)) = true
has_operand (of_one loop) = false
has_operand (of_one trap) = false
has_operand (of_one (local s)) = true
has_operand (of_one (abort_when s)) = true
has_operand (of_two (present_then_else s)) = true
has_operand (of_two in_sequence) = false
has_operand (of_two in_parallel) = false

abbrev pub record_length : Sort → ℕ
record_length s = cond (has_operand s) 6 4

-- The limits that a record of its own may pass: every record is a statement; only a pause counts as one, only a trap as one, only a local as one.
abbrev pub own_limit : Surroundings → Sofar → Sort → Bool
own_limit a r (of_none nothing) = false
own_limit a r (of_none pause) = leb 128 r.pauses
own_limit a r (of_none halt) = false
own_limit a r (of_none (emit s)) = false
own_limit a r (of_none (sustain s)) = false
own_limit a r (of_none (await s)) = false
own_limit a r (of_none (exit d)) = false
own_limit a r (of_one (suspend_on s)) = false
own_limit a r (of_one loop) = false
own_limit a r (of_one trap) = leb 16 a.traps
own_limit a r (of_one (local s)) = leb 6 a.nested
own_limit a r (of_one (abort_when s)) = false
own_limit a r (of_two o) = false

unfoldable pub over_limit₂ : ℕ → Surroundings → Sofar → Sort → Bool
over_limit₂ room a r s = eqb room 0 || (leb 512 r.statements || own_limit a r s)

-- The signal rule: sustain as emit, await and abort as present and suspend.
abbrev pub wrong_signal₂ : Header → Surroundings → Sofar → Sort → Bool
wrong_signal₂ h a r (of_none nothing) = false
wrong_signal₂ h a r (of_none pause) = false
wrong_signal₂ h a r (of_none halt) = false
wrong_signal₂ h a r (of_none (emit s)) = not (leb h.inputs s && declared_here h a s)
wrong_signal₂ h a r (of_none (sustain s)) = not (leb h.inputs s && declared_here h a s)
wrong_signal₂ h a r (of_none (await s)) = not (declared_here h a s)
wrong_signal₂ h a r (of_none (exit d)) = false
wrong_signal₂ h a r (of_one (suspend_on s)) = not (declared_here h a s)
wrong_signal₂ h a r (of_one loop) = false
wrong_signal₂ h a r (of_one trap) = false
wrong_signal₂ h a r (of_one (local s)) = not (ltb r.locals h.locals && eqb s (h.inputs + h.outputs + r.locals))
wrong_signal₂ h a r (of_one (abort_when s)) = not (declared_here h a s)
wrong_signal₂ h a r (of_two (present_then_else s)) = not (declared_here h a s)
wrong_signal₂ h a r (of_two in_sequence) = false
wrong_signal₂ h a r (of_two in_parallel) = false

-- Depth at or above the number of enclosing traps; an abort is none.
abbrev pub wrong_exit₂ : Surroundings → Sort → Bool
wrong_exit₂ a (of_none nothing) = false
wrong_exit₂ a (of_none pause) = false
wrong_exit₂ a (of_none halt) = false
wrong_exit₂ a (of_none (emit s)) = false
wrong_exit₂ a (of_none (sustain s)) = false
wrong_exit₂ a (of_none (await s)) = false
wrong_exit₂ a (of_none (exit (depth d))) = leb a.traps d
wrong_exit₂ a (of_one f) = false
wrong_exit₂ a (of_two o) = false

-- The number that a due record gets, or what stands there.
pub data Due : Type 0 where
  at_fault : ℕ → Due
  stands : Sort → Due

abbrev pub sorted : ℕ → Header → Surroundings → Sofar → ℕ → Option Sort → Due
sorted room h a r len none = at_fault KIND
sorted room h a r len (some s) =
    cond (not (eqb (record_length s) len)) (at_fault KIND)
    (cond (over_limit₂ room a r s) (at_fault LIMIT)
    (cond (wrong_signal₂ h a r s) (at_fault SIGNAL)
    (cond (wrong_exit₂ a s) (at_fault EXIT)
    (stands s))))

unfoldable pub due : ℕ → List ℕ → Header → Surroundings → Sofar → Due
unfolding is_broken over_limit₂ sort_of
due room b h a r =
    let at = r.place in
    cond (leb (length b) at) (at_fault SHAPE)
    (cond (is_broken b at) (at_fault BROKEN)
    (sorted room h a r (length_at b at) (sort_of (kind_at b at) (operand_at b at))))

-- What has been read after a good record, and what stands around the statements below it.
abbrev pub counts_pause : Sort → ℕ
counts_pause (of_none nothing) = 0
counts_pause (of_none pause) = 1
counts_pause (of_none halt) = 0
counts_pause (of_none (emit s)) = 0
counts_pause (of_none (sustain s)) = 0
counts_pause (of_none (await s)) = 0
counts_pause (of_none (exit d)) = 0
counts_pause (of_one f) = 0
counts_pause (of_two o) = 0

abbrev pub counts_local : Sort → ℕ
counts_local (of_none a) = 0
counts_local (of_one (suspend_on s)) = 0
counts_local (of_one loop) = 0
counts_local (of_one trap) = 0
counts_local (of_one (local s)) = 1
counts_local (of_one (abort_when s)) = 0
counts_local (of_two o) = 0

abbrev pub past₂ : Sort → Sofar → Sofar
past₂ s r = record {
  place = r.place + record_length s;
  statements = r.statements + 1;
  pauses = r.pauses + counts_pause s;
  locals = r.locals + counts_local s;
}

abbrev pub inside₂ : Around → Surroundings → Surroundings
inside₂ (suspend_on s) a = a
inside₂ loop a = a
inside₂ trap a = record { traps = suc a.traps; nested = a.nested; scope = a.scope }
inside₂ (local s) a = record { traps = a.traps; nested = suc a.nested; scope = union (single s) a.scope }
inside₂ (abort_when s) a = a

-- A statement that was read and what had been read after it, or the first record at fault: its number and place.
pub data Got₂ : Type 0 where
  got₂ : Everyday → Sofar → Got₂
  refused₂ : ℕ → ℕ → Got₂

abbrev pub and_then₂ : Got₂ → (Everyday → Sofar → Got₂) → Got₂
and_then₂ (got₂ p r) f = f p r
and_then₂ (refused₂ n at) f = refused₂ n at

-- A statement directly followed by its children, which `child` reads one after the other.
abbrev pub with_children₂ : (Surroundings → Sofar → Got₂) → Surroundings → Sofar → Due → Got₂
with_children₂ child a r (at_fault n) = refused₂ n r.place
with_children₂ child a r (stands (of_none l)) = got₂ (alone l) (past₂ (of_none l) r)
with_children₂ child a r (stands (of_one f)) = and_then₂ (child (inside₂ f a) (past₂ (of_one f) r)) λ p r₁. got₂ (around f p) r₁
with_children₂ child a r (stands (of_two o)) = and_then₂ (child a (past₂ (of_two o) r)) λ p r₁. and_then₂ (child a r₁) λ q r₂. got₂ (between o p q) r₂

-- Room is how many statements may still stand on the path; with none left every record that is due is at fault.
unfoldable pub read₂ : ℕ → List ℕ → Header → Surroundings → Sofar → Got₂
unfolding due
read₂ zero b h a r = with_children₂ (λ a r. refused₂ LIMIT r.place) a r (due zero b h a r)
read₂ (suc room) b h a r = with_children₂ (read₂ room b h) a r (due (suc room) b h a r)

-- How many bytes the records of a statement and of those below it take.
unfoldable pub bytes₂ : Everyday → ℕ
bytes₂ (alone a) = record_length (of_none a)
bytes₂ (around f p) = record_length (of_one f) + bytes₂ p
bytes₂ (between o p q) = record_length (of_two o) + bytes₂ p + bytes₂ q

-- The offset of the lowest loop whose body may complete with 0 when started; the statement's own record is at `at`.
abbrev pub or_else : Option ℕ → Option ℕ → Option ℕ
or_else none y = y
or_else (some n) y = some n

unfoldable pub lowest_endless₂ : ℕ → Everyday → Option ℕ
unfolding codes₂ bytes₂
lowest_endless₂ at (alone a) = none
lowest_endless₂ at (around f p) = cond (may_stand f (codes₂ p)) (lowest_endless₂ (at + record_length (of_one f)) p) (some at)
lowest_endless₂ at (between o p q) =
    or_else (lowest_endless₂ (at + record_length (of_two o)) p) (lowest_endless₂ (at + record_length (of_two o) + bytes₂ p) q)

-- A good reading has the header and the tree.
pub data Reading₂ : Type 0 where
  good₂ : Header → Everyday → Reading₂
  turned_down₂ : ℕ → ℕ → Reading₂

abbrev pub loops_checked₂ : Header → Everyday → Option ℕ → Reading₂
loops_checked₂ h p none = good₂ h p
loops_checked₂ h p (some at) = turned_down₂ LOOP at

-- After the tree no bytes are left, and as many locals as declared have been read; else SHAPE at the first byte not read.
abbrev pub ended₂ : List ℕ → Header → Got₂ → Reading₂
ended₂ b h (refused₂ n at) = turned_down₂ n at
ended₂ b h (got₂ p r) =
    cond (eqb r.place (length b) && eqb r.locals h.locals) (loops_checked₂ h p (lowest_endless₂ 14 p)) (turned_down₂ SHAPE r.place)

-- The header: as in edition 1, with edition 2.
unfoldable pub header_fault₂ : List ℕ → ℕ
unfolding is_broken header header_fault_in
header_fault₂ b = header_fault_in 2 b

-- The size test, before all else; the header; the statements, at most 64 on a path from the root; the end.
unfoldable pub reading₂ : List ℕ → Reading₂
unfolding header header_fault₂ read₂ lowest_endless₂
reading₂ b =
    let statements_read = ended₂ b (header b) (read₂ 64 b (header b) outermost begun) in
    cond (ltb 3086 (length b)) (turned_down₂ LIMIT 0)
    (cond (eqb (header_fault₂ b) 0) statements_read
    (turned_down₂ (header_fault₂ b) 0))
