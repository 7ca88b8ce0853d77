-- Signals and locals of a conversion are those of its statement: by induction over the statement, whatever its pauses and exits are. Assumes nothing.
use mathlib.Core.Path.{◌≡◌, refl, sym, ◌∙◌, ap, ap₂}
use mathlib.Core.List.{List, [], ◌∷◌, ◌++◌, append-nil}
use Prim.Native.Nat.{ℕ, ◌+◌}
use lib.ListN.{length}
use Rattle.sets.specs.Numbers.{Numbers}
use Rattle.rules.specs.Statements.{Depth, from}
use Rattle.block.specs.Good.{Scoped, locals, Next}
use Rattle.everyday.specs.Statements.{nothing, pause, halt, emit, sustain, await, exit, suspend_on, loop, trap, local, abort_when}
use Rattle.everyday.specs.Statements.{present_then_else, in_sequence, in_parallel, Everyday, alone, around, between}
use Rattle.everyday.specs.Conversion.{deeper, past_trap, pauses_made, convert}
use Rattle.converting.specs.Legal.{scope_inside, Scoped₂, locals₂, Next₂}

pub made_scoped : (i o : ℕ) (S : Numbers) (out : Depth → Depth) (j : ℕ) (p : Everyday) → Scoped₂ i o S p → Scoped i o S (convert out j p)
unfolding Scoped₂ Scoped convert
made_scoped i o S out j (alone nothing) s = tt
made_scoped i o S out j (alone pause) s = tt
made_scoped i o S out j (alone halt) s = tt
made_scoped i o S out j (alone (emit n)) s = s
made_scoped i o S out j (alone (sustain n)) s = (s, tt)
made_scoped i o S out j (alone (await n)) s = (tt, (s, tt, tt))
made_scoped i o S out j (alone (exit d)) s = tt
made_scoped i o S out j (around (suspend_on n) p) s = (s.0, made_scoped i o S out j p s.1)
made_scoped i o S out j (around loop p) s = made_scoped i o S out j p s.1
made_scoped i o S out j (around trap p) s = made_scoped i o S (past_trap out) j p s.1
made_scoped i o S out j (around (local n) p) s = (s.0, made_scoped i o (scope_inside (local n) S) out j p s.1)
made_scoped i o S out j (around (abort_when n) p) s = (((s.0, made_scoped i o S (λ d. deeper (out d)) j p s.1), tt), (tt, (s.0, tt, tt)))
made_scoped i o S out j (between (present_then_else n) p q) s = (s.0, made_scoped i o S out j p s.1, made_scoped i o S out (j + pauses_made p) q s.2)
made_scoped i o S out j (between in_sequence p q) s = (made_scoped i o S out j p s.1, made_scoped i o S out (j + pauses_made p) q s.2)
made_scoped i o S out j (between in_parallel p q) s = (made_scoped i o S out j p s.1, made_scoped i o S out (j + pauses_made p) q s.2)

pub made_locals : (out : Depth → Depth) (j : ℕ) (p : Everyday) → locals (convert out j p) ≡ locals₂ p
unfolding locals₂ locals convert
made_locals out j (alone nothing) = refl
made_locals out j (alone pause) = refl
made_locals out j (alone halt) = refl
made_locals out j (alone (emit n)) = refl
made_locals out j (alone (sustain n)) = refl
made_locals out j (alone (await n)) = refl
made_locals out j (alone (exit d)) = refl
made_locals out j (around (suspend_on n) p) = made_locals out j p
made_locals out j (around loop p) = made_locals out j p
made_locals out j (around trap p) = made_locals (past_trap out) j p
made_locals out j (around (local n) p) = ap (λ (xs : List ℕ). n ∷ xs) (made_locals out j p)
made_locals out j (around (abort_when n) p) =
    append-nil (locals (convert (λ d. deeper (out d)) j p) ++ []) ∙ append-nil (locals (convert (λ d. deeper (out d)) j p)) ∙ made_locals (λ d. deeper (out d)) j p
made_locals out j (between (present_then_else n) p q) = ap₂ ◌++◌ (made_locals out j p) (made_locals out (j + pauses_made p) q)
made_locals out j (between in_sequence p q) = ap₂ ◌++◌ (made_locals out j p) (made_locals out (j + pauses_made p) q)
made_locals out j (between in_parallel p q) = ap₂ ◌++◌ (made_locals out j p) (made_locals out (j + pauses_made p) q)

pub made_next : (out : Depth → Depth) (j n : ℕ) (p : Everyday) → Next₂ n p → Next n (convert out j p)
unfolding Next₂ Next
made_next out j n p e = let q = made_locals out j p in q ∙ e ∙ ap (λ (xs : List ℕ). from n (length xs)) (sym q)
