-- The coherence law at three blocks with one output O (signal 0): two coherent reactions, exactly one, and none; then a local and the second
-- instant of H. The output is tried present and absent, and the execution is computed. `CoherentTable` has more, each with all its coherent
-- reactions. Assumes nothing.
use mathlib.Core.Path.{◌≡◌, refl, sym, ◌∙◌}
use mathlib.Core.Logic.{◌⊎◌, inl, inr}
use mathlib.Core.Bool.{Bool, true, false, true≢false, false≢true}
use mathlib.Core.List.{List, [], ◌∷◌}
use Prim.Native.Nat.{ℕ, zero, suc, ◌<◌}
use native.Mathlib.Omega.{arith}
use lib.Dec.{lit<}
use lib.ListN.{length}
use Rattle.sets.specs.Numbers.{Numbers, empty, single, listed}
use Rattle.rules.specs.Statements.{Block, Stmt, nothing, pause, emit, present?◌then◌else◌, ◌⨾◌, loop, local, pauses}
use Rattle.rules.specs.Instant.{done, say, test, scope, any, active, started, resumed}
use Rattle.rules.specs.States.{State, fresh, running, finished, step, next}
use Rattle.rules.specs.Coherence.{Locals, LocalsAgree, execute, world, Coherent}

-- a block of one output and no input
abbrev of_O : Stmt → Block
of_O p = record { inputs = 0; outputs = 1; body = p }

abbrev case_C : Block
case_C = of_O (present? 0 then emit 0 else nothing)

abbrev case_E : Block
case_E = of_O (present? 0 then emit 0 else emit 0)

abbrev contrary : Block
contrary = of_O (present? 0 then nothing else emit 0)

-- what holds of output 0 holds of each
each : (P : ℕ → Type 0) → P 0 → (i : ℕ) → i < 1 → P i
each P h zero l = h
each P h (suc i) l = absurd (omega arith)

-- C: O present is coherent, and so is O absent
C_present : Coherent case_C fresh empty (true ∷ []) 0 finished
unfolding started step next LocalsAgree execute world
C_present = record {
  each_output = refl;
  locals = (tt, tt);
  locals_agree = tt;
  outputs_agree = each _ refl;
  its_code = refl;
  its_next = refl;
}

C_absent : Coherent case_C fresh empty (false ∷ []) 0 finished
unfolding started step next LocalsAgree execute world
C_absent = record {
  each_output = refl;
  locals = (tt, tt);
  locals_agree = tt;
  outputs_agree = each _ refl;
  its_code = refl;
  its_next = refl;
}

-- a reaction's code and next state, where the execution gives 0
ends : {b : Block} {outs : List Bool} {c : ℕ} {st : State} (r : Coherent b fresh empty outs c st)
    → (execute (step b.body fresh) r.locals (world b empty outs)).completes ≡ 0 → (c ≡ 0) × (st ≡ finished)
unfolding next
ends {b} {outs} {c} {st} r e =
    let zero_code : c ≡ 0 = sym r.its_code ∙ e in
    (zero_code, sym (rw zero_code at r.its_next))

-- a fact of each coherent reaction follows from the two ways that its one output can be
by_output : {b : Block} {c : ℕ} {st : State} (P : List Bool → Type 0) (outs : List Bool) → length outs ≡ 1
    → (Coherent b fresh empty (true ∷ []) c st → P (true ∷ [])) → (Coherent b fresh empty (false ∷ []) c st → P (false ∷ []))
    → Coherent b fresh empty outs c st → P outs
by_output P [] e t f = absurd (omega arith)
by_output P (true ∷ []) e t f = t
by_output P (false ∷ []) e t f = f
by_output P (v ∷ w ∷ outs) e t f = absurd (omega arith)

-- C has two coherent reactions, O present and O absent, and no third
C_two : (outs : List Bool) (c : ℕ) (st : State) → Coherent case_C fresh empty outs c st
    → ((outs ≡ true ∷ []) ⊎ (outs ≡ false ∷ [])) × (c ≡ 0) × (st ≡ finished)
unfolding started step execute world
C_two outs c st r =
    by_output (λ vs. ((vs ≡ true ∷ []) ⊎ (vs ≡ false ∷ [])) × (c ≡ 0) × (st ≡ finished)) outs r.each_output
    (λ x. (inl refl, (ends x refl).0, (ends x refl).1))
    (λ x. (inr refl, (ends x refl).0, (ends x refl).1))
    r

-- E has exactly one: O present
E_present : Coherent case_E fresh empty (true ∷ []) 0 finished
unfolding started step next LocalsAgree execute world
E_present = record {
  each_output = refl;
  locals = (tt, tt);
  locals_agree = tt;
  outputs_agree = each _ refl;
  its_code = refl;
  its_next = refl;
}

E_only : (outs : List Bool) (c : ℕ) (st : State) → Coherent case_E fresh empty outs c st
    → (outs ≡ true ∷ []) × (c ≡ 0) × (st ≡ finished)
unfolding started step execute world
E_only outs c st r =
    by_output (λ vs. (vs ≡ true ∷ []) × (c ≡ 0) × (st ≡ finished)) outs r.each_output
    (λ x. (refl, (ends x refl).0, (ends x refl).1))
    (λ x. absurd (false≢true (x.outputs_agree 0 (lit< tt))))
    r

-- a signal that is emitted only where it is absent has none
contrary_none : (outs : List Bool) (c : ℕ) (st : State) → Coherent contrary fresh empty outs c st → ⊥
unfolding started step execute world
contrary_none outs c st r =
    by_output (λ vs. ⊥) outs r.each_output
    (λ x. true≢false (x.outputs_agree 0 (lit< tt)))
    (λ x. false≢true (x.outputs_agree 0 (lit< tt)))
    r

-- a local that is emitted only where it is absent has none either
contrary_local : Block
contrary_local = record { inputs = 0; outputs = 0; body = local 0 (present? 0 then nothing else emit 0) }

neither : (v : Bool) (l : Locals (test 0 done (say 0))) (W : Numbers) → LocalsAgree (scope 0 (test 0 done (say 0))) (v, l) W → ⊥
unfolding LocalsAgree execute
neither true l W a = true≢false a.0
neither false l W a = false≢true a.0

contrary_local_none : (outs : List Bool) (c : ℕ) (st : State) → Coherent contrary_local fresh empty outs c st → ⊥
unfolding contrary_local started step
contrary_local_none outs c st r = neither r.locals.0 r.locals.1 (world contrary_local empty outs) r.locals_agree

-- H's second instant (O is 0, N is 1, S is 2): S is present in the run of the body that is resumed and absent in the one that the loop starts
-- afresh; only N is present
each_of_two : (P : ℕ → Type 0) → P 0 → P 1 → (i : ℕ) → i < 2 → P i
each_of_two P h g zero l = h
each_of_two P h g (suc zero) l = g
each_of_two P h g (suc (suc i)) l = absurd (omega arith)

case_H : Block
case_H = record { inputs = 0; outputs = 2; body = loop (local 2 ((present? 2 then emit 0 else emit 1) ⨾ pause 0 ⨾ emit 2)) }

H_restarts : Coherent case_H (running (listed (0 ∷ []))) empty (false ∷ true ∷ []) 1 (running (single 0))
unfolding case_H started resumed active any pauses listed step next LocalsAgree execute world
H_restarts = record {
  each_output = refl;
  locals = ((true, (tt, tt)), (false, ((tt, tt), (tt, tt))));
  locals_agree = ((refl, (tt, tt)), (refl, (tt, (tt, tt))));
  outputs_agree = each_of_two _ refl refl;
  its_code = refl;
  its_next = refl;
}
