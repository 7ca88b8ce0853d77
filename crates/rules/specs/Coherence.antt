-- The coherence law of demand 3. It knows only statuses present and absent, and execution. Assumes nothing.
use Rattle.std.specs.Prelude.{◌≡◌, Bool, false, cond, List, ℕ, ◌+◌, ◌-◌, ◌<◌, max, eqb, ltb, length, get_or}
use Rattle.sets.specs.Numbers.{Numbers, empty, single, union, without, only_if, down}
use Rattle.rules.specs.Statements.{Block, code}
use Rattle.rules.specs.Instant.{Step, done, stay, say, leave, test, catch, scope, chain, beside}
use Rattle.rules.specs.States.{State, step, next}

-- Present or absent for each local each time its body is started or resumed: a `Bool` at each scope, true for present.
abbrev pub Locals : Step → Type 0
Locals done = Unit {0}
Locals (stay A) = Unit {0}
Locals (say s) = Unit {0}
Locals (leave d) = Unit {0}
Locals (test s p q) = Locals p × Locals q
Locals (catch p) = Locals p
Locals (scope s p) = Bool × Locals p
Locals (chain p q) = Locals p × Locals q
Locals (beside p q) = Locals p × Locals q

-- What an execution does: the signals whose emit is executed, the code, the pauses kept.
pub record Execution : Type 0 where
  pub emitted : Numbers
  pub completes : ℕ
  pub keeps : Numbers

-- The set of present signals, with s made present or absent.
abbrev pub assigning : Numbers → ℕ → Bool → Numbers
assigning W s v n = cond (eqb n s) v (W n)

-- A statement with code other than 1 keeps no pause.
abbrev pub kept_with : ℕ → Numbers → Numbers
kept_with c A = only_if (eqb c 1) A

-- One after the other: the second is executed only if the first completes with 0.
abbrev pub run_on : Execution → Execution → Execution
run_on a b = cond (eqb a.completes 0)
    (record { emitted = union a.emitted b.emitted; completes = b.completes; keeps = b.keeps })
    a

-- Execute with these: W has the signals given present.
unfoldable pub execute : (p : Step) → Locals p → Numbers → Execution
execute done l W = record { emitted = empty; completes = 0; keeps = empty }
execute (stay A) l W = record { emitted = empty; completes = 1; keeps = A }
execute (say s) l W = record { emitted = single s; completes = 0; keeps = empty }
execute (leave d) l W = record { emitted = empty; completes = code d; keeps = empty }
execute (test s p q) l W = cond (W s) (execute p l.0 W) (execute q l.1 W)
execute (catch p) l W =
    let r = execute p l W in
    record { emitted = r.emitted; completes = down r.completes; keeps = kept_with (down r.completes) r.keeps }
execute (scope s p) l W =
    let r = execute p l.1 (assigning W s l.0) in
    record { emitted = without s r.emitted; completes = r.completes; keeps = r.keeps }
execute (chain p q) l W = run_on (execute p l.0 W) (execute q l.1 W)
execute (beside p q) l W =
    let a = execute p l.0 W in
    let b = execute q l.1 W in
    let c = max a.completes b.completes in
    record { emitted = union a.emitted b.emitted; completes = c; keeps = kept_with c (union a.keeps b.keeps) }

-- Each local whose body is executed is present exactly when its emit is executed in that run of its body.
unfoldable pub LocalsAgree : (p : Step) → Locals p → Numbers → Type 0
unfolding execute
LocalsAgree done l W = Unit {0}
LocalsAgree (stay A) l W = Unit {0}
LocalsAgree (say s) l W = Unit {0}
LocalsAgree (leave d) l W = Unit {0}
LocalsAgree (test s p q) l W = cond (W s) (LocalsAgree p l.0 W) (LocalsAgree q l.1 W)
LocalsAgree (catch p) l W = LocalsAgree p l W
LocalsAgree (scope s p) l W =
    (l.0 ≡ (execute p l.1 (assigning W s l.0)).emitted s) × LocalsAgree p l.1 (assigning W s l.0)
LocalsAgree (chain p q) l W =
    LocalsAgree p l.0 W × cond (eqb (execute p l.0 W).completes 0) (LocalsAgree q l.1 W) (Unit {0})
LocalsAgree (beside p q) l W = LocalsAgree p l.0 W × LocalsAgree q l.1 W

-- The signals given present: the inputs of the input set, and the outputs assigned true.
unfoldable pub world : Block → Numbers → List Bool → Numbers
world b given outs n = cond (ltb n b.inputs) (given n) (get_or outs (n - b.inputs) false)

-- A coherent reaction: outputs present (true) or absent, a code and a next state, such that some statuses of the locals make
-- each signal present exactly when its emit is executed, for an output in the block.
pub record Coherent (b : Block) (st : State) (given : Numbers) (outs : List Bool) (c : ℕ) (st' : State) : Type 0 where
  pub each_output : length outs ≡ b.outputs
  pub locals : Locals (step b.body st)
  pub locals_agree : LocalsAgree (step b.body st) locals (world b given outs)
  pub outputs_agree : (i : ℕ) → i < b.outputs → get_or outs i false ≡ (execute (step b.body st) locals (world b given outs)).emitted (b.inputs + i)
  pub its_code : (execute (step b.body st) locals (world b given outs)).completes ≡ c
  pub its_next : next c (execute (step b.body st) locals (world b given outs)).keeps ≡ st'
