-- The coherence law, sentence by sentence: lay this file beside "The coherence law of demand 3" and, for "execute by the rules above", beside
-- "Started", "Resumed" and "Next state". It speaks of runs of statements alone. One law for each form of `Step` comes first, by computation and
-- by cases on a signal or a code; the sentences then only name the form that a statement takes. Assumes nothing.
use mathlib.Core.Path.{◌≡◌, refl, sym, ◌∙◌, ap, subst}
use mathlib.Core.Logic.{◌↔◌, ◌≢◌, ◌⊎◌, inl, inr}
use mathlib.Core.Bool.{Bool, true, false, cond, ◌||◌, true≢false}
use mathlib.Core.List.{List}
use mathlib.Core.Option.{Option, none, some}
use Prim.Native.Nat.{ℕ, suc, ◌+◌, ◌-◌, ◌<◌, max}
use lib.Dec.{eqb, ltb, eqb→eq, eqb_refl}
use lib.ListN.{length, get_or}
use Rattle.sets.specs.Numbers.{Numbers, empty, single, union, without, down}
use Rattle.sets.proofs.Members.{ext, is_true, of_true, of_false, eqb_in, eqb_not}
use Rattle.rules.specs.Statements.{Block, depth, code, Stmt, nothing, pause, emit, present?◌then◌else◌, suspend◌on◌, ◌⨾◌, loop, ◌parallel◌, trap, exit, local}
use Rattle.rules.specs.Instant.{Step, done, stay, say, leave, test, catch, scope, chain, beside, active, held, started, resumed}
use Rattle.rules.specs.States.{State, fresh, running, finished, step, next}
use Rattle.rules.specs.Coherence.{Locals, Execution, assigning, kept_with, run_on, execute, LocalsAgree, world, Coherent}
use Rattle.rules.proofs.Sentences.{doing}

-- What an execution does: the signals whose emit is executed, the code, the pauses kept.
abbrev pub execution : Numbers → ℕ → Numbers → Execution
execution ss c ks = record { emitted = ss; completes = c; keeps = ks }

-- A run with the signals of W present, and what it does: each local, each time its body is started or resumed, is given present or absent, each is
-- present exactly when its emit is executed in that run of its body, and this is executed.
abbrev pub Run : Step → Numbers → Execution → Type 0
Run P W x = (l : Locals P) × LocalsAgree P l W × (execute P l W ≡ x)

-- Two parts side by side: union of signals, the larger code, and the union of pauses if that code is 1.
abbrev pub together : Execution → Execution → Execution
together y z =
    let c = max y.completes z.completes in
    execution (union y.emitted z.emitted) c (kept_with c (union y.keeps z.keeps))

abbrev Together : (Execution → Type 0) → (Execution → Type 0) → Execution → Type 0
Together R S x = (y : Execution) × (z : Execution) × R y × S z × (x ≡ together y z)

-- Two parts one after the other: the signals and the pauses of both, and the second's code.
abbrev in_turn : Execution → Execution → Execution
in_turn y z = execution (union y.emitted z.emitted) z.completes (union y.keeps z.keeps)

-- Where the first gives 0 the second is executed too; else the first is all.
abbrev After : (Execution → Type 0) → (Execution → Type 0) → Execution → Type 0
After R S x = (y : Execution) × R y × (((y.completes ≡ 0) × ((z : Execution) × S z × (x ≡ in_turn y z))) ⊎ ((y.completes ≢ 0) × (x ≡ y)))

-- A trap: signals as the body, its code down, and the body's pauses if the code is then 1.
abbrev pub trapped : Execution → Execution
trapped y = let c = down y.completes in execution y.emitted c (kept_with c y.keeps)

-- THE NINE FORMS, for the proofs below

-- statuses for the locals that are not executed
pub some_locals : (P : Step) → Locals P
some_locals done = tt
some_locals (stay A) = tt
some_locals (say s) = tt
some_locals (leave d) = tt
some_locals (test s P Q) = (some_locals P, some_locals Q)
some_locals (catch P) = some_locals P
some_locals (scope s P) = (false, some_locals P)
some_locals (chain P Q) = (some_locals P, some_locals Q)
some_locals (beside P Q) = (some_locals P, some_locals Q)

-- whatever is executed with another code than 1 keeps no pause
keeps_no : (P : Step) (l : Locals P) (W : Numbers) → eqb (execute P l W).completes 1 ≡ false → (n : ℕ) → (execute P l W).keeps n ≡ false
unfolding execute
keeps_no done l W e n = refl
keeps_no (stay A) l W e n = absurd (true≢false e)
keeps_no (say s) l W e n = refl
keeps_no (leave d) l W e n = refl
keeps_no (test s P Q) l W e n = go (W s) (execute P l.0 W) (execute Q l.1 W) (λ f. keeps_no P l.0 W f n) (λ f. keeps_no Q l.1 W f n) e
  where
    go : (b : Bool) (y z : Execution) → (eqb y.completes 1 ≡ false → y.keeps n ≡ false) → (eqb z.completes 1 ≡ false → z.keeps n ≡ false)
        → eqb (cond b y z).completes 1 ≡ false → (cond b y z).keeps n ≡ false
    go true y z f g = f
    go false y z f g = g
keeps_no (catch P) l W e n = rw e
keeps_no (scope s P) l W e n = keeps_no P l.1 (assigning W s l.0) e n
keeps_no (chain P Q) l W e n =
    go (eqb (execute P l.0 W).completes 0) (execute P l.0 W) (execute Q l.1 W) (λ f. keeps_no P l.0 W f n) (λ f. keeps_no Q l.1 W f n) e
  where
    go : (b : Bool) (y z : Execution) → (eqb y.completes 1 ≡ false → y.keeps n ≡ false) → (eqb z.completes 1 ≡ false → z.keeps n ≡ false)
        → eqb (cond b (execution (union y.emitted z.emitted) z.completes z.keeps) y).completes 1 ≡ false
        → (cond b (execution (union y.emitted z.emitted) z.completes z.keeps) y).keeps n ≡ false
    go true y z f g = g
    go false y z f g = f
keeps_no (beside P Q) l W e n = rw e

module _ (W : Numbers) (x : Execution) where
  test_then : (s : ℕ) (P Q : Step) → W s ≡ true → Run (test s P Q) W x ↔ Run P W x
  unfolding execute LocalsAgree
  test_then s P Q e = (
    λ r. (r.0.0, rw e at r.1, rw e at r.2),
    λ r. ((r.0, some_locals Q), rw e r.1, rw e r.2),
  )

  test_else : (s : ℕ) (P Q : Step) → W s ≡ false → Run (test s P Q) W x ↔ Run Q W x
  unfolding execute LocalsAgree
  test_else s P Q e = (
    λ r. (r.0.1, rw e at r.1, rw e at r.2),
    λ r. ((some_locals P, r.0), rw e r.1, rw e r.2),
  )

  catch_run : (P : Step) → Run (catch P) W x ↔ ((y : Execution) × Run P W y × (x ≡ trapped y))
  unfolding execute LocalsAgree
  catch_run P = (
    λ r. (execute P r.0 W, (r.0, r.1, refl), sym r.2),
    λ r. (r.1.0, r.1.1, ap trapped r.1.2 ∙ sym r.2),
  )

  scope_run : (s : ℕ) (P : Step)
      → Run (scope s P) W x ↔ ((v : Bool) × (y : Execution) × Run P (assigning W s v) y × (v ≡ y.emitted s)
      × (x ≡ execution (without s y.emitted) y.completes y.keeps))
  unfolding execute LocalsAgree
  scope_run s P = (
    λ r. (r.0.0, execute P r.0.1 (assigning W s r.0.0), (r.0.1, r.1.1, refl), r.1.0, sym r.2),
    λ r. (
      (r.0, r.2.0),
      (r.3 ∙ ap (λ (y : Execution). y.emitted s) (sym r.2.2), r.2.1),
      ap (λ (y : Execution). execution (without s y.emitted) y.completes y.keeps) r.2.2 ∙ sym r.4,
    ),
  )

  beside_run : (P Q : Step) → Run (beside P Q) W x ↔ Together (Run P W) (Run Q W) x
  unfolding execute LocalsAgree
  beside_run P Q = (
    λ r. (execute P r.0.0 W, execute Q r.0.1 W, (r.0.0, r.1.0, refl), (r.0.1, r.1.1, refl), sym r.2),
    λ r. (
      (r.2.0, r.3.0),
      (r.2.1, r.3.1),
      ap (λ (y : Execution). together y (execute Q r.3.0 W)) r.2.2 ∙ ap (together r.0) r.3.2 ∙ sym r.4,
    ),
  )

  alike : {R R' S S' : Execution → Type 0} → ((y : Execution) → R y → R' y) → ((z : Execution) → S z → S' z) → Together R S x → Together R' S' x
  alike f g r = (r.0, r.1, f r.0 r.2, g r.1 r.3, r.4)

  -- the first part's code is 0, so there are no pauses of it beside the second's
  run_both : (P : Step) (l : Locals P) (z : Execution) → eqb (execute P l W).completes 0 ≡ true → run_on (execute P l W) z ≡ in_turn (execute P l W) z
  run_both P l z e = rw e (ap (execution (union (execute P l W).emitted z.emitted) z.completes) (ext (λ n. sym (ap (λ (b : Bool). b || z.keeps n) (none_of_it n)))))
    where
      none_of_it : (n : ℕ) → (execute P l W).keeps n ≡ false
      none_of_it = keeps_no P l W (ap (λ (c : ℕ). eqb c 1) (eqb→eq (execute P l W).completes 0 (of_true e)))

  run_first : (y z : Execution) → eqb y.completes 0 ≡ false → run_on y z ≡ y
  run_first y z e = rw e

  if_so : (b : Bool) {A : Type 0} → b ≡ true → cond b A (Unit {0}) → A
  if_so b {A} e a = subst (λ (c : Bool). cond c A (Unit {0})) e a

  so_if : (b : Bool) {A : Type 0} → (b ≡ true → A) → cond b A (Unit {0})
  so_if true f = f refl
  so_if false f = tt

  chain_run : (P Q : Step) → Run (chain P Q) W x ↔ After (Run P W) (Run Q W) x
  unfolding execute LocalsAgree
  chain_run P Q = (λ r. there r.0.0 r.0.1 r.1.0 r.1.1 r.2 (eqb (execute P r.0.0 W).completes 0) refl, λ r. back r.0 r.1.0 r.1.1 r.1.2 r.2)
    where
      first_0 : Locals P → Bool
      first_0 l = eqb (execute P l W).completes 0

      there : (l : Locals P) (m : Locals Q) → LocalsAgree P l W → cond (first_0 l) (LocalsAgree Q m W) (Unit {0})
          → run_on (execute P l W) (execute Q m W) ≡ x → (b : Bool) → first_0 l ≡ b → After (Run P W) (Run Q W) x
      there l m a b e true t = (
        execute P l W,
        (l, a, refl),
        inl (eqb→eq (execute P l W).completes 0 (of_true t), (execute Q m W, (m, if_so (first_0 l) t b, refl), sym e ∙ run_both P l (execute Q m W) t)),
      )
      there l m a b e false f = (execute P l W, (l, a, refl), inr (λ z. of_false f (eqb_in z), sym e ∙ run_first (execute P l W) (execute Q m W) f))

      back : (y : Execution) (l : Locals P) → LocalsAgree P l W → execute P l W ≡ y
          → ((y.completes ≡ 0) × ((z : Execution) × Run Q W z × (x ≡ in_turn y z))) ⊎ ((y.completes ≢ 0) × (x ≡ y)) → Run (chain P Q) W x
      back y l a e (inl h) = (
        (l, h.1.1.0),
        (a, so_if (first_0 l) (λ t. h.1.1.1)),
        run_both P l (execute Q h.1.1.0 W) (is_true (first_0 l) (eqb_in (ap (λ (u : Execution). u.completes) e ∙ h.0)))
            ∙ ap (λ (u : Execution). in_turn u (execute Q h.1.1.0 W)) e ∙ ap (in_turn y) h.1.1.2 ∙ sym h.1.2,
      )
      back y l a e (inr h) =
          let other : first_0 l ≡ false = eqb_not (execute P l W).completes 0 (λ z. h.0 (ap (λ (u : Execution). u.completes) (sym e) ∙ z)) in (
            (l, some_locals Q),
            (a, so_if (first_0 l) (λ t. absurd (true≢false (sym t ∙ other)))),
            run_first (execute P l W) (execute Q (some_locals Q) W) other ∙ e ∙ sym h.1,
          )

-- an arm of a parallel that is resumed, or that gives 0
module _ (W : Numbers) where
  arm_run : (b : Bool) (P : Step) (y : Execution) → Run (cond b P done) W y → cond b (Run P W y) (y ≡ execution empty 0 empty)
  unfolding execute
  arm_run true P y r = r
  arm_run false P y r = sym r.2

  run_arm : (b : Bool) (P : Step) (y : Execution) → cond b (Run P W y) (y ≡ execution empty 0 empty) → Run (cond b P done) W y
  unfolding execute LocalsAgree
  run_arm true P y r = r
  run_arm false P y e = (tt, tt, sym e)

-- EXECUTE BY THE RULES ABOVE: what is a run of each statement, with the signals of W present

module _ (W : Numbers) (x : Execution) where
  -- STARTED

  -- nothing 0; pause 1, and it keeps itself; emit s gives s and 0; exit gives depth + 2
  started_nothing : Run (started nothing) W x ↔ (x ≡ execution empty 0 empty)
  unfolding started execute LocalsAgree
  started_nothing = (λ r. sym r.2, λ e. (tt, tt, sym e))

  started_pause : (n : ℕ) → Run (started (pause n)) W x ↔ (x ≡ execution empty 1 (single n))
  unfolding started execute LocalsAgree
  started_pause n = (λ r. sym r.2, λ e. (tt, tt, sym e))

  started_emit : (s : ℕ) → Run (started (emit s)) W x ↔ (x ≡ execution (single s) 0 empty)
  unfolding started execute LocalsAgree
  started_emit s = (λ r. sym r.2, λ e. (tt, tt, sym e))

  started_exit : (d : ℕ) → Run (started (exit (depth d))) W x ↔ (x ≡ execution empty (d + 2) empty)
  unfolding started execute LocalsAgree code
  started_exit d = (λ r. sym r.2, λ e. (tt, tt, sym e))

  module _ (p q : Stmt) (s : ℕ) where
    -- present: the branch chosen by the status; locals of the other branch have no say
    started_present : W s ≡ true → Run (started (present? s then p else q)) W x ↔ Run (started p) W x
    unfolding started
    started_present = test_then W x s (started p) (started q)

    started_absent : W s ≡ false → Run (started (present? s then p else q)) W x ↔ Run (started q) W x
    unfolding started
    started_absent = test_else W x s (started p) (started q)

    -- suspend and loop: as the body
    started_suspend : Run (started (suspend p on s)) W x ≡ Run (started p) W x
    unfolding started
    started_suspend = refl

    started_loop : Run (started (loop p)) W x ≡ Run (started p) W x
    unfolding started
    started_loop = refl

    -- trap, started or resumed alike: signals as the body, code down
    either_trap : (w : Option Numbers) → Run (doing w (trap p)) W x ↔ ((y : Execution) × Run (doing w p) W y × (x ≡ trapped y))
    unfolding started resumed
    either_trap none = catch_run W x (started p)
    either_trap (some A) = catch_run W x (resumed A p)

    -- parallel: union of signals, the larger code
    started_parallel : Run (started (p parallel q)) W x ↔ Together (Run (started p) W) (Run (started q) W) x
    unfolding started
    started_parallel = beside_run W x (started p) (started q)

    -- sequence: the second part counts only if the first's code is 0
    started_sequence : Run (started (p ⨾ q)) W x ↔ After (Run (started p) W) (Run (started q) W) x
    unfolding started
    started_sequence = chain_run W x (started p) (started q)

    -- LOCAL s, started or resumed alike: this run of the body has a status v of its own for s, which is present exactly when emit s is executed
    -- in it; s is removed from the result
    either_local : (w : Option Numbers)
        → Run (doing w (local s p)) W x ↔ ((v : Bool) × (y : Execution) × Run (doing w p) (assigning W s v) y × (v ≡ y.emitted s)
        × (x ≡ execution (without s y.emitted) y.completes y.keeps))
    unfolding started resumed
    either_local none = scope_run W x s (started p)
    either_local (some A) = scope_run W x s (resumed A p)

  -- RESUMED, with A active

  module _ (A : Numbers) (p q : Stmt) (s : ℕ) where
    -- pause gives 0
    resumed_pause : (n : ℕ) → Run (resumed A (pause n)) W x ↔ (x ≡ execution empty 0 empty)
    unfolding resumed execute LocalsAgree
    resumed_pause n = (λ r. sym r.2, λ e. (tt, tt, sym e))

    -- present: the active branch, without the test
    resumed_then : active A p ≡ true → Run (resumed A (present? s then p else q)) W x ≡ Run (resumed A p) W x
    unfolding resumed
    resumed_then a = rw a

    resumed_else : active A p ≡ false → Run (resumed A (present? s then p else q)) W x ≡ Run (resumed A q) W x
    unfolding resumed
    resumed_else a = rw a

    -- sequence: if the first part is active, as above with it resumed and the second started; else the second resumed
    resumed_first : active A p ≡ true → Run (resumed A (p ⨾ q)) W x ↔ After (Run (resumed A p) W) (Run (started q) W) x
    unfolding resumed
    resumed_first a = rw a (chain_run W x (resumed A p) (started q))

    resumed_second : active A p ≡ false → Run (resumed A (p ⨾ q)) W x ≡ Run (resumed A q) W x
    unfolding resumed
    resumed_second a = rw a

    -- loop: the body resumed; where it gives 0, on as in a sequence with the body started afresh: a run of its own, with its own locals
    resumed_loop : Run (resumed A (loop p)) W x ↔ After (Run (resumed A p) W) (Run (started p) W) x
    unfolding resumed
    resumed_loop = chain_run W x (resumed A p) (started p)

    -- parallel: active arms resumed, an arm without an active pause gives 0
    abbrev Arm : Stmt → Execution → Type 0
    Arm r y = cond (active A r) (Run (resumed A r) W y) (y ≡ execution empty 0 empty)

    resumed_parallel : Run (resumed A (p parallel q)) W x ↔ Together (Arm p) (Arm q) x
    unfolding resumed
    resumed_parallel =
        let here = beside_run W x (cond (active A p) (resumed A p) done) (cond (active A q) (resumed A q) done) in (
          λ r. alike W x (arm_run W (active A p) (resumed A p)) (arm_run W (active A q) (resumed A q)) (here.0 r),
          λ r. here.1 (alike W x (run_arm W (active A p) (resumed A p)) (run_arm W (active A q) (resumed A q)) r),
        )

    -- suspend s: present gives code 1 and no signal, and the body keeps its old set; absent, the body resumed
    resumed_suspend_present : W s ≡ true → Run (resumed A (suspend p on s)) W x ↔ (x ≡ execution empty 1 (held A p))
    unfolding resumed execute LocalsAgree
    resumed_suspend_present e = (λ r. sym ((test_then W x s (stay (held A p)) (resumed A p) e).0 r).2, λ h. (test_then W x s (stay (held A p)) (resumed A p) e).1 (tt, tt, sym h))

    resumed_suspend_absent : W s ≡ false → Run (resumed A (suspend p on s)) W x ↔ Run (resumed A p) W x
    unfolding resumed
    resumed_suspend_absent = test_else W x s (stay (held A p)) (resumed A p)

-- NEXT STATE: a statement with code other than 1 keeps no pause; with 1, what is said above
keeps_none : (w : Option Numbers) (p : Stmt) (W : Numbers) (x : Execution) → Run (doing w p) W x → x.completes ≢ 1 → (n : ℕ) → x.keeps n ≡ false
keeps_none w p W x r e n =
    ap (λ (y : Execution). y.keeps n) (sym r.2)
    ∙ keeps_no (doing w p) r.0 W (eqb_not (execute (doing w p) r.0 W).completes 1 (λ z. e (ap (λ (y : Execution). y.completes) (sym r.2) ∙ z))) n

-- THE HELPERS ABOVE, MEMBER BY MEMBER

-- W with s present or absent
module _ (W : Numbers) (s : ℕ) (v : Bool) where
  given_s : assigning W s v s ≡ v
  given_s = rw (is_true (eqb s s) (eqb_refl s))

  given_other : (n : ℕ) → eqb n s ≡ false → assigning W s v n ≡ W n
  given_other n e = rw e

-- pauses kept with a code
kept_with_1 : (A : Numbers) → kept_with 1 A ≡ A
kept_with_1 A = refl

kept_with_other : (c : ℕ) (A : Numbers) → eqb c 1 ≡ false → (n : ℕ) → kept_with c A n ≡ false
kept_with_other c A e n = rw e

-- down: 0 and 2 become 0, 1 stays 1, k above 2 becomes k - 1
down_0 : down 0 ≡ 0
unfolding down
down_0 = refl

down_1 : down 1 ≡ 1
unfolding down
down_1 = refl

down_2 : down 2 ≡ 0
unfolding down
down_2 = refl

down_above : (k : ℕ) → down (suc (suc (suc k))) ≡ suc (suc k)
unfolding down
down_above k = refl

-- THE LAW

module _ (b : Block) (given : Numbers) (outs : List Bool) where
  -- the statuses given: an input is present when its bit is set, the i-th output as it is assigned
  world_input : (n : ℕ) → ltb n b.inputs ≡ true → world b given outs n ≡ given n
  unfolding world
  world_input n h = rw h

  world_output : (n : ℕ) → ltb n b.inputs ≡ false → world b given outs n ≡ get_or outs (n - b.inputs) false
  unfolding world
  world_output n h = rw h

  -- the reaction is coherent if it is a run of the block in which each output is present exactly when its emit is executed in the block; its code
  -- is the run's, and its next state is running with the pauses kept for code 1, finished for 0
  pub coherent : (st : State) (c : ℕ) (st' : State) → Coherent b st given outs c st' ↔ (
      (length outs ≡ b.outputs) × (x : Execution) × Run (step b.body st) (world b given outs) x
      × ((i : ℕ) → i < b.outputs → get_or outs i false ≡ x.emitted (b.inputs + i)) × (x.completes ≡ c) × (next c x.keeps ≡ st'))
  coherent st c st' = (
    λ r. (
      r.each_output,
      execute (step b.body st) r.locals (world b given outs),
      (r.locals, r.locals_agree, refl),
      r.outputs_agree,
      r.its_code,
      r.its_next,
    ),
    λ r. record {
      each_output = r.0;
      locals = r.2.0;
      locals_agree = r.2.1;
      outputs_agree = λ i h. r.3 i h ∙ ap (λ (y : Execution). y.emitted (b.inputs + i)) (sym r.2.2);
      its_code = ap (λ (y : Execution). y.completes) r.2.2 ∙ r.4;
      its_next = ap (λ (y : Execution). next c y.keeps) r.2.2 ∙ r.5;
    },
  )

-- from fresh the block is started, from running resumed with the active pauses; finished runs as nothing
from_fresh : (p : Stmt) → step p fresh ≡ started p
unfolding step
from_fresh p = refl

from_running : (p : Stmt) (A : Numbers) → step p (running A) ≡ resumed A p
unfolding step
from_running p A = refl

from_finished : (p : Stmt) → step p finished ≡ started nothing
unfolding step
from_finished p = refl
