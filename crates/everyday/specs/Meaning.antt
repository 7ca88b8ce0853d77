-- What a statement of edition 2 has to do in one instant, said directly: a line for each statement, from what the statements below it have to do. The steps
-- are those of edition 1, so that must, can, what is kept, rounds and the coherence law need no word more. Assumes nothing.
use Rattle.std.specs.Prelude.{Bool, cond, ◌&&◌, ℕ, ◌+◌}
use Rattle.sets.specs.Numbers.{Numbers, single, listed}
use Rattle.rules.specs.Statements.{from}
use Rattle.rules.specs.Instant.{Step, done, stay, say, leave, test, catch, scope, chain, beside, any}
use Rattle.rules.specs.States.{State, fresh, running, finished}
use Rattle.everyday.specs.Statements.{Alone, nothing, pause, halt, emit, sustain, await, exit, Around, suspend_on, loop, trap, local, abort_when}
use Rattle.everyday.specs.Statements.{Between, present_then_else, in_sequence, in_parallel, Everyday, alone, around, between, stops}

-- The statement, whose stops are numbered from i, holds an active stop.
unfoldable pub active₂ : ℕ → Numbers → Everyday → Bool
unfolding any from stops
active₂ i A p = any A (from i (stops p))

-- The active stops that it holds: what a suspended body keeps.
unfoldable pub held₂ : ℕ → Numbers → Everyday → Numbers
unfolding listed from stops
held₂ i A p n = A n && listed (from i (stops p)) n

-- Started. Halt and await stop; sustain gives its signal and stops. An abort does as its body: like a suspend, it does not look at its signal.
abbrev pub started_alone : ℕ → Alone → Step
started_alone i nothing = done
started_alone i pause = stay (single i)
started_alone i halt = stay (single i)
started_alone i (emit s) = say s
started_alone i (sustain s) = chain (say s) (stay (single i))
started_alone i (await s) = stay (single i)
started_alone i (exit d) = leave d

abbrev pub started_around : Around → Step → Step
started_around (suspend_on s) p = p
started_around loop p = p
started_around trap p = catch p
started_around (local s) p = scope s p
started_around (abort_when s) p = p

abbrev pub started_between : Between → Step → Step → Step
started_between (present_then_else s) p q = test s p q
started_between in_sequence p q = chain p q
started_between in_parallel p q = beside p q

unfoldable pub started₂ : ℕ → Everyday → Step
unfolding stops
started₂ i (alone a) = started_alone i a
started₂ i (around f p) = started_around f (started₂ i p)
started₂ i (between o p q) = started_between o (started₂ i p) (started₂ (i + stops p) q)

-- Resumed. Halt stops again, sustain gives its signal and stops again, await ends where its signal is present and else stops again.
abbrev pub resumed_alone : ℕ → Alone → Step
resumed_alone i nothing = done
resumed_alone i pause = done
resumed_alone i halt = stay (single i)
resumed_alone i (emit s) = done
resumed_alone i (sustain s) = chain (say s) (stay (single i))
resumed_alone i (await s) = test s done (stay (single i))
resumed_alone i (exit d) = done

-- `held` has the active stops of the body, p is the body started and p' the body resumed. An abort ends where its signal is present, and else does as a suspend:
-- that its signal is asked for twice makes no difference where it is known, and where it is not, can has the codes 0 and 1 besides the body's.
abbrev pub resumed_around : Around → Numbers → Step → Step → Step
resumed_around (suspend_on s) held p p' = test s (stay held) p'
resumed_around loop held p p' = chain p' p
resumed_around trap held p p' = catch p'
resumed_around (local s) held p p' = scope s p'
resumed_around (abort_when s) held p p' = test s done (test s (stay held) p')

-- a and b: the first and the second are active; q is the second started, p' and q' are both resumed.
abbrev pub resumed_between : Between → Bool → Bool → Step → Step → Step → Step
resumed_between (present_then_else s) a b q p' q' = cond a p' q'
resumed_between in_sequence a b q p' q' = cond a (chain p' q) q'
resumed_between in_parallel a b q p' q' = beside (cond a p' done) (cond b q' done)

unfoldable pub resumed₂ : ℕ → Numbers → Everyday → Step
unfolding stops active₂ held₂ started₂
resumed₂ i A (alone a) = resumed_alone i a
resumed₂ i A (around f p) = resumed_around f (held₂ i A p) (started₂ i p) (resumed₂ i A p)
resumed₂ i A (between o p q) =
    resumed_between o (active₂ i A p) (active₂ (i + stops p) A q) (started₂ (i + stops p) q) (resumed₂ i A p) (resumed₂ (i + stops p) A q)

-- What there is to do in an instant from a state. Finished runs as nothing.
unfoldable pub step₂ : Everyday → State → Step
step₂ p fresh = started₂ 0 p
step₂ p (running A) = resumed₂ 0 A p
step₂ p finished = done
