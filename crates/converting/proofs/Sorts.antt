-- The fifteen kinds of edition 2 as a view of a kind and what its record stands for, so that a proof by kinds has one case for each. Assumes nothing.
use mathlib.Core.Path.{◌≡◌, refl, sym, subst₂}
use mathlib.Core.Bool.{Bool, true, false, cond}
use mathlib.Core.Option.{Option, some}
use Prim.Native.Nat.{ℕ}
use native.Mathlib.Omega.{arith}
use lib.Dec.{eqb}
use borrow.Author.Tests.{eqb-true}
use Rattle.rules.specs.Statements.{depth}
use Rattle.everyday.specs.Statements.{nothing, pause, halt, emit, sustain, await, exit, suspend_on, loop, trap, local, abort_when, present_then_else, in_sequence, in_parallel}
use Rattle.converting.specs.Format.{Sort, of_none, of_one, of_two, sort_of}

pub data IsSort : ℕ → ℕ → Sort → Type 0 where
  is_nothing : {x : ℕ} → IsSort 16 x (of_none nothing)
  is_pause : {x : ℕ} → IsSort 17 x (of_none pause)
  is_emit : {x : ℕ} → IsSort 18 x (of_none (emit x))
  is_present : {x : ℕ} → IsSort 19 x (of_two (present_then_else x))
  is_suspend : {x : ℕ} → IsSort 20 x (of_one (suspend_on x))
  is_sequence : {x : ℕ} → IsSort 21 x (of_two in_sequence)
  is_loop : {x : ℕ} → IsSort 22 x (of_one loop)
  is_parallel : {x : ℕ} → IsSort 23 x (of_two in_parallel)
  is_trap : {x : ℕ} → IsSort 24 x (of_one trap)
  is_exit : {x : ℕ} → IsSort 25 x (of_none (exit (depth x)))
  is_local : {x : ℕ} → IsSort 26 x (of_one (local x))
  is_halt : {x : ℕ} → IsSort 32 x (of_none halt)
  is_sustain : {x : ℕ} → IsSort 33 x (of_none (sustain x))
  is_await : {x : ℕ} → IsSort 34 x (of_none (await x))
  is_abort : {x : ℕ} → IsSort 35 x (of_one (abort_when x))

-- One kind after the other.
this_or : {k x : ℕ} {s : Sort} (m : ℕ) (a : Sort) (rest : Option Sort) → IsSort m x a → (rest ≡ some s → IsSort k x s) → cond (eqb k m) (some a) rest ≡ some s → IsSort k x s
this_or {k} {x} {s} m a rest v f = go (eqb k m) refl
  where
    go : (z : Bool) → eqb k m ≡ z → cond z (some a) rest ≡ some s → IsSort k x s
    go true q e = let y : a ≡ s = cc in subst₂ (λ (k : ℕ) (s : Sort). IsSort k x s) (sym (eqb-true k m q)) y v
    go false q e = f e

pub sort_seen : (k x : ℕ) (s : Sort) → sort_of k x ≡ some s → IsSort k x s
unfolding sort_of
sort_seen k x s =
    this_or 16 _ _ is_nothing
    (this_or 17 _ _ is_pause
    (this_or 18 _ _ is_emit
    (this_or 19 _ _ is_present
    (this_or 20 _ _ is_suspend
    (this_or 21 _ _ is_sequence
    (this_or 22 _ _ is_loop
    (this_or 23 _ _ is_parallel
    (this_or 24 _ _ is_trap
    (this_or 25 _ _ is_exit
    (this_or 26 _ _ is_local
    (this_or 32 _ _ is_halt
    (this_or 33 _ _ is_sustain
    (this_or 34 _ _ is_await
    (this_or 35 _ _ is_abort
    (λ e. let z : ◌≡◌ {A = ℕ} 0 1 = cc in absurd (omega arith))))))))))))))))
