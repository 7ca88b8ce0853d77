-- Small facts about a block's form that hold by computing: document 01's loop checks and more of them, pauses in preorder, exits and
-- their traps, compatible pauses, legal states. Assumes nothing.
use mathlib.Core.Path.{◌≡◌, refl, sym, ◌∙◌, ap, ap₂, subst, subst₂}
use mathlib.Core.Logic.{◌⊎◌, inl, inr, ◌≢◌}
use mathlib.Core.Bool.{true, false, ◌||◌}
use mathlib.Core.List.{List, [], ◌∷◌, map}
use Prim.Native.Nat.{ℕ, zero, suc, ◌<◌}
use native.Mathlib.Omega.{arith}
use lib.Dec.{T, lit<, eqb-suc-zero, eqb-suc-suc}
use Rattle.sets.specs.Numbers.{some_to, maxima, downs, listed}
use Rattle.rules.specs.Statements.{depth, code, Stmt, nothing, pause, emit, present?◌then◌else◌, suspend◌on◌, ◌⨾◌, loop, ◌parallel◌, trap, exit, local, pauses, from, Numbered, Trapped}
use Rattle.rules.specs.States.{running, holds_both, lowest_above, compatible, Legal}
use Rattle.rules.specs.Loops.{codes_of, loops_pass}

-- the loops of document 01's checks: three get LOOP, two pass
refused_loops : List Stmt
refused_loops =
    loop nothing
    ∷ loop (present? 0 then pause 0 else nothing)
    ∷ loop (trap (exit (depth 0)))
    -- the inner loop is the one at fault
    ∷ loop (loop nothing)
    -- locals are held unknown too
    ∷ loop (local 0 (present? 0 then nothing else pause 0))
    -- a loop that no run reaches counts
    ∷ (loop (pause 0) ⨾ loop nothing)
    ∷ (present? 0 then pause 0 else loop (emit 1))
    ∷ loop (emit 0 parallel nothing)
    ∷ loop (trap (exit (depth 0) parallel pause 0))
    ∷ (suspend (trap (local 1 (loop nothing))) on 0)
    ∷ []

passed_loops : List Stmt
passed_loops =
    loop (pause 0)
    ∷ trap (loop (exit (depth 0)))
    -- a loop's own codes are its body's without 0, so an outer loop does not see them
    ∷ loop (loop (pause 0))
    ∷ loop (nothing parallel pause 0)
    ∷ loop (emit 0 ⨾ pause 0)
    ∷ loop (local 0 (suspend (pause 0) on 0))
    ∷ loop (trap (loop (exit (depth 0) ⨾ nothing)) ⨾ pause 0)
    ∷ []

loops_refused : map loops_pass refused_loops ≡ (false ∷ false ∷ false ∷ false ∷ false ∷ false ∷ false ∷ false ∷ false ∷ false ∷ [])
unfolding refused_loops loops_pass codes_of code some_to maxima downs
loops_refused = refl

loops_passed : map loops_pass passed_loops ≡ (true ∷ true ∷ true ∷ true ∷ true ∷ true ∷ true ∷ [])
unfolding passed_loops loops_pass codes_of code some_to maxima downs
loops_passed = refl

inner_not_seen : codes_of (loop nothing) 0 ≡ false
unfolding codes_of
inner_not_seen = refl

-- pauses in preorder, and their numbers
busy : Stmt
busy = (present? 0 then pause 0 else (pause 1 parallel pause 2)) ⨾ loop (trap (local 1 (suspend (pause 3 ⨾ pause 4) on 0)))

in_preorder : pauses busy ≡ 0 ∷ 1 ∷ 2 ∷ 3 ∷ 4 ∷ []
unfolding busy pauses
in_preorder = refl

numbered : Numbered 0 busy
unfolding busy pauses from Numbered
numbered = refl

not_numbered : Numbered 0 (pause 1 ⨾ pause 0) → ⊥
unfolding pauses from Numbered
not_numbered e = let z : ◌≡◌ {A = ℕ} 1 0 = cc in absurd (omega arith)

-- an exit of depth 0 under one trap finds it, one of depth 1 does not
trapped : Trapped 0 (trap (exit (depth 0)))
unfolding Trapped
trapped = lit< tt

not_trapped : Trapped 0 (trap (exit (depth 1))) → ⊥
unfolding Trapped
not_trapped h = absurd (omega arith)

-- compatible: the lowest statement above both is a parallel
compatible_pairs : map (λ (n : ℕ). compatible busy 1 n) (0 ∷ 1 ∷ 2 ∷ 3 ∷ 4 ∷ []) ≡ (false ∷ false ∷ true ∷ false ∷ false ∷ [])
unfolding busy compatible holds_both lowest_above pauses listed
compatible_pairs = refl

deep : Stmt
deep = local 0 (trap (loop (suspend ((pause 0 ⨾ pause 1) parallel (present? 0 then pause 2 else pause 3)) on 0)))

deep_pairs : map (λ (n : ℕ). compatible deep 1 n) (0 ∷ 2 ∷ 3 ∷ []) ≡ (false ∷ true ∷ true ∷ [])
unfolding deep compatible holds_both lowest_above pauses listed
deep_pairs = refl

branches : compatible deep 2 3 ≡ false
unfolding deep compatible holds_both lowest_above pauses listed
branches = refl

-- states: two pauses of a sequence are not legal together, of parallel arms they are; one bit at least, and none beyond the pauses
both_active : List ℕ
both_active = 0 ∷ 1 ∷ []

sequence_clashes : Legal (pause 0 ⨾ pause 1) (running (listed both_active)) → ⊥
unfolding both_active Legal compatible holds_both lowest_above pauses listed
sequence_clashes r = r.all_compatible 0 1 tt tt (λ e. omega arith)

none_active : Legal (pause 0) (running (listed [])) → ⊥
unfolding Legal listed
none_active r = r.some_active.1

beyond : Legal (pause 0) (running (listed both_active)) → ⊥
unfolding both_active Legal pauses listed
beyond r = let h : 1 < 1 = r.in_block 1 tt in omega arith

-- a member of a list of two, and of one
first_or_second : (n : ℕ) → T (listed both_active n) → (n ≡ 0) ⊎ (n ≡ 1)
unfolding both_active listed
first_or_second zero t = inl refl
first_or_second (suc zero) t = inr refl
first_or_second (suc (suc n)) t = absurd (subst T (ap₂ ◌||◌ (eqb-suc-zero (suc n)) (ap (λ x. x || false) (eqb-suc-suc (suc n) 0 ∙ eqb-suc-zero n))) t)

-- what holds of 0 with 1 and of 1 with 0 holds of any two that differ
of_both : (P : ℕ → ℕ → Type 0) → P 0 1 → P 1 0 → (m n : ℕ) → (m ≡ 0) ⊎ (m ≡ 1) → (n ≡ 0) ⊎ (n ≡ 1) → m ≢ n → P m n
of_both P a b m n (inl d) (inl e) h = absurd (h (d ∙ sym e))
of_both P a b m n (inl d) (inr e) h = subst₂ P (sym d) (sym e) a
of_both P a b m n (inr d) (inl e) h = subst₂ P (sym d) (sym e) b
of_both P a b m n (inr d) (inr e) h = absurd (h (d ∙ sym e))

below_two : (n : ℕ) → (n ≡ 0) ⊎ (n ≡ 1) → n < 2
below_two n (inl e) = omega arith
below_two n (inr e) = omega arith

parallel_legal : Legal (pause 0 parallel pause 1) (running (listed both_active))
unfolding both_active Legal compatible holds_both lowest_above pauses listed
parallel_legal = record {
  some_active = (0, tt);
  in_block = λ n t. below_two n (first_or_second n t);
  all_compatible = λ m n s t. of_both (λ x y. T (compatible (pause 0 parallel pause 1) x y)) tt tt m n (first_or_second m s) (first_or_second n t);
}
