-- The codes that LOOP looks at are can's, with every signal held unknown: shown of statements without a loop or a local, since a
-- loop's own codes lose 0 and can may settle a local. By induction on the statement, for both marks at once. Assumes nothing.
use mathlib.Core.Path.{◌≡◌, refl, ap, ap₂}
use mathlib.Core.Bool.{Bool, true, false}
use Prim.Native.Nat.{ℕ}
use Rattle.sets.specs.Numbers.{Numbers, union, without, only_if, maxima, downs}
use Rattle.rules.specs.Statements.{Stmt, nothing, pause, emit, present?◌then◌else◌, suspend◌on◌, ◌⨾◌, loop, ◌parallel◌, trap, exit, local}
use Rattle.rules.specs.Events.{Event, unknown}
use Rattle.rules.specs.Instant.{started}
use Rattle.rules.specs.MustCan.{Mark, plus, opened, must, can, onward, gives}
use Rattle.rules.specs.Loops.{codes_of}

abbrev nothing_heard : Event
nothing_heard s = unknown

-- no loop and no local in it
data Plain : Stmt → Type 0 where
  plain_nothing : Plain nothing
  plain_pause : {n : ℕ} → Plain (pause n)
  plain_emit : {s : ℕ} → Plain (emit s)
  plain_exit : {d : _} → Plain (exit d)
  plain_present : {s : ℕ} {p q : Stmt} → Plain p → Plain q → Plain (present? s then p else q)
  plain_suspend : {s : ℕ} {p : Stmt} → Plain p → Plain (suspend p on s)
  plain_sequence : {p q : Stmt} → Plain p → Plain q → Plain (p ⨾ q)
  plain_parallel : {p q : Stmt} → Plain p → Plain q → Plain (p parallel q)
  plain_trap : {p : Stmt} → Plain p → Plain (trap p)

-- a sequence's codes, as both definitions write them
abbrev in_sequence : Numbers → Numbers → Numbers
in_sequence a b = union (without 0 a) (only_if (a 0) b)

-- whatever mark the second part gets, its codes are the same
second : (q : Stmt) (m : Mark) (x : Bool) → ((k : Mark) → (gives (can k) (started q) nothing_heard).codes ≡ codes_of q)
    → (gives (onward (can m) x) (started q) nothing_heard).codes ≡ codes_of q
second q plus true h = h plus
second q plus false h = h opened
second q opened x h = h opened

loop_codes_are_can : {p : Stmt} → Plain p → (m : Mark) → (gives (can m) (started p) nothing_heard).codes ≡ codes_of p
unfolding gives started codes_of
loop_codes_are_can plain_nothing m = refl
loop_codes_are_can plain_pause m = refl
loop_codes_are_can plain_emit m = refl
loop_codes_are_can plain_exit m = refl
loop_codes_are_can (plain_present p q) m = ap₂ union (loop_codes_are_can p opened) (loop_codes_are_can q opened)
loop_codes_are_can (plain_suspend p) m = loop_codes_are_can p m
loop_codes_are_can (plain_sequence {p = r} {q = t} p q) m =
    ap₂ in_sequence (loop_codes_are_can p m)
    (second t m ((gives must (started r) nothing_heard).codes 0) (loop_codes_are_can q))
loop_codes_are_can (plain_parallel p q) m = ap₂ maxima (loop_codes_are_can p m) (loop_codes_are_can q m)
loop_codes_are_can (plain_trap p) m = ap downs (loop_codes_are_can p m)

-- a loop's own codes are its body's without 0, and a local's signal is held unknown like any other
loop_own_codes : (p : Stmt) → codes_of (loop p) ≡ without 0 (codes_of p)
unfolding codes_of
loop_own_codes p = refl

local_codes : (s : ℕ) (p : Stmt) → codes_of (local s p) ≡ codes_of p
unfolding codes_of
local_codes s p = refl
