-- What the check asks of a statement of edition 2: each of the four has the codes of its form, and an abort is no trap. Assumes nothing.
use Rattle.std.specs.Prelude.{Bool, true, not, ◌&&◌, ℕ, suc, ◌<◌}
use Rattle.sets.specs.Numbers.{Numbers, single, union, without, only_if, maxima, downs}
use Rattle.rules.specs.Statements.{depth, code}
use Rattle.everyday.specs.Statements.{Alone, nothing, pause, halt, emit, sustain, await, exit, Around, suspend_on, loop, trap, local, abort_when}
use Rattle.everyday.specs.Statements.{Between, present_then_else, in_sequence, in_parallel, Everyday, alone, around, between}

-- The codes that LOOP looks at. Halt, sustain and await have 1, an abort those of its body.
abbrev pub codes_alone : Alone → Numbers
codes_alone nothing = single 0
codes_alone pause = single 1
codes_alone halt = single 1
codes_alone (emit s) = single 0
codes_alone (sustain s) = single 1
codes_alone (await s) = single 1
codes_alone (exit d) = single (code d)

abbrev pub codes_around : Around → Numbers → Numbers
codes_around (suspend_on s) a = a
codes_around loop a = without 0 a
codes_around trap a = downs a
codes_around (local s) a = a
codes_around (abort_when s) a = a

abbrev pub codes_between : Between → Numbers → Numbers → Numbers
codes_between (present_then_else s) a b = union a b
codes_between in_sequence a b = union (without 0 a) (only_if (a 0) b)
codes_between in_parallel a b = maxima a b

unfoldable pub codes₂ : Everyday → Numbers
codes₂ (alone a) = codes_alone a
codes₂ (around f p) = codes_around f (codes₂ p)
codes₂ (between o p q) = codes_between o (codes₂ p) (codes₂ q)

-- No loop body, wherever the loop stands, may complete with 0 when started. The loops inside a form are no statements of the block.
abbrev pub may_stand : Around → Numbers → Bool
may_stand (suspend_on s) a = true
may_stand loop a = not (a 0)
may_stand trap a = true
may_stand (local s) a = true
may_stand (abort_when s) a = true

unfoldable pub loops_pass₂ : Everyday → Bool
unfolding codes₂
loops_pass₂ (alone a) = true
loops_pass₂ (around f p) = may_stand f (codes₂ p) && loops_pass₂ p
loops_pass₂ (between o p q) = loops_pass₂ p && loops_pass₂ q

-- Every exit finds its trap, k traps being around the statement.
abbrev pub traps_inside : Around → ℕ → ℕ
traps_inside (suspend_on s) k = k
traps_inside loop k = k
traps_inside trap k = suc k
traps_inside (local s) k = k
traps_inside (abort_when s) k = k

abbrev pub TrappedAlone : ℕ → Alone → Type 0
TrappedAlone k nothing = Unit {0}
TrappedAlone k pause = Unit {0}
TrappedAlone k halt = Unit {0}
TrappedAlone k (emit s) = Unit {0}
TrappedAlone k (sustain s) = Unit {0}
TrappedAlone k (await s) = Unit {0}
TrappedAlone k (exit (depth d)) = d < k

unfoldable pub Trapped₂ : ℕ → Everyday → Type 0
Trapped₂ k (alone a) = TrappedAlone k a
Trapped₂ k (around f p) = Trapped₂ (traps_inside f k) p
Trapped₂ k (between o p q) = Trapped₂ k p × Trapped₂ k q
