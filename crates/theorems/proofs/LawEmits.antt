-- An execution of the coherence law emits a signal exactly where an emit of it is among the statements executed, for a signal that no local declares: by induction over the
-- statement, started and resumed, each form of the law beside the statements that it executes. Assumes nothing.
use mathlib.Core.Path.{◌≡◌, sym, subst}
use mathlib.Core.Logic.{◌↔◌, ◌⊎◌, inl, inr}
use mathlib.Core.Bool.{Bool, true, false, cond}
use mathlib.Core.List.{List}
use Prim.Native.Nat.{ℕ, ◌+◌}
use lib.Dec.{T, eqb, eqb→eq}
use Rattle.sets.specs.Numbers.{Numbers, empty, single, union, without, only_if}
use Rattle.sets.proofs.Members.{eqb_in, single_in, union_left, union_right, union_out, without_in, without_member, only_if_in, only_if_test}
use Rattle.rules.specs.Statements.{Block, Stmt, nothing, pause, emit, present?◌then◌else◌, suspend◌on◌, ◌⨾◌, loop, ◌parallel◌, trap, exit, local, statements, numbered}
use Rattle.rules.specs.Events.{Status, Hearing, event}
use Rattle.rules.specs.Instant.{Step, done, chain, active, held, started, resumed}
use Rattle.rules.specs.States.{State, fresh, running, finished, Legal, step}
use Rattle.rules.specs.Rounds.{answered}
use Rattle.rules.specs.Coherence.{Locals, Execution, run_on, assigning, execute, world, Coherent}
use Rattle.rules.specs.Taken.{every, emit_of, itself_if, taken}
use Rattle.theorems.specs.Executed.{chosen_by, ran_started, ran_resumed, ran}
use Rattle.theorems.specs.Order.{Choice}
use Rattle.theorems.specs.Checked.{Checked, StandsIn, itself, in_then, in_else, in_suspend, in_first, in_second, in_loop, in_left, in_right, in_trap, in_local}
use Rattle.theorems.specs.Reactions.{Some}
use Rattle.theorems.specs.Traces.{Instant}
use Rattle.theorems.specs.Why.{NoLocal}
use Rattle.theorems.proofs.ExecutedEmits.{executed_emits}
use Rattle.theorems.proofs.Why.{executed_in_every_reaction}

-- The signal is among these exactly where some number is among those.
record Says (s : ℕ) (S X : Numbers) : Type 0 where
  pub some_there : T (S s) → Some X
  pub said : (k : ℕ) → T (X k) → T (S s)

none_says : {s : ℕ} → Says s empty empty
none_says = record { some_there = λ t. absurd t; said = λ k t. t }

here_says : (s t i : ℕ) → Says s (single t) (itself_if (eqb t s) i)
here_says s t i = record {
  some_there = λ e. (i, only_if_in (eqb t s) (single i) i (eqb_in (sym (eqb→eq s t e))) (single_in i));
  said = λ k u. eqb_in (sym (eqb→eq t s (only_if_test (eqb t s) (single i) k u)));
}

both_say : {s : ℕ} {S U X Y : Numbers} → Says s S X → Says s U Y → Says s (union S U) (union X Y)
both_say {s} {S} {U} {X} {Y} f g = record { some_there = λ t. pick (union_out S U s t); said = λ k t. back k (union_out X Y k t) }
  where
    pick : T (S s) ⊎ T (U s) → Some (union X Y)
    pick (inl t) = let r = f.some_there t in (r.0, union_left X Y r.0 r.1)
    pick (inr t) = let r = g.some_there t in (r.0, union_right X Y r.0 r.1)

    back : (k : ℕ) → T (X k) ⊎ T (Y k) → T (union S U s)
    back k (inl t) = union_left S U s (f.said k t)
    back k (inr t) = union_right S U s (g.said k t)

-- With nothing more.
alone_says : {s : ℕ} {S X : Numbers} → Says s S X → Says s S (union X empty)
alone_says {s} {S} {X} f = record {
  some_there = λ t. let r = f.some_there t in (r.0, union_left X empty r.0 r.1);
  said = λ k t. back k (union_out X empty k t);
}
  where
    back : (k : ℕ) → T (X k) ⊎ T (empty k) → T (S s)
    back k (inl t) = f.said k t
    back k (inr t) = absurd t

tested : (z : Bool) {s : ℕ} (a b : Execution) {X Y : Numbers} → Says s a.emitted X → Says s b.emitted Y → Says s (cond z a b).emitted (cond z X Y)
tested true a b f g = f
tested false a b f g = g

-- One after the other: the second's where the first completes with 0.
in_turn : (a b : Execution) {s : ℕ} {X Y : Numbers} → Says s a.emitted X → Says s b.emitted Y → Says s (run_on a b).emitted (union X (only_if (eqb a.completes 0) Y))
in_turn a b {s} {X} {Y} f g = go (eqb a.completes 0)
  where
    go : (z : Bool) → Says s (cond z (record { emitted = union a.emitted b.emitted; completes = b.completes; keeps = b.keeps }) a).emitted (union X (only_if z Y))
    go true = both_say f g
    go false = alone_says f

hidden_says : (t : ℕ) {s : ℕ} {S X : Numbers} → (s ≡ t → ⊥) → Says s S X → Says s (without t S) X
hidden_says t {s} {S} n f = record { some_there = λ u. f.some_there (without_member t S s u); said = λ k u. without_in t S s (f.said k u) n }

-- The part that an active pause chooses, and an arm of a parallel.
chosen : (b : Bool) (P Q : Step) (W : Numbers) {s : ℕ} (f : Locals P → Numbers) (g : Locals Q → Numbers)
    → ((l : Locals P) → Says s (execute P l W).emitted (f l)) → ((l : Locals Q) → Says s (execute Q l W).emitted (g l))
    → (l : Locals (cond b P Q)) → Says s (execute (cond b P Q) l W).emitted (chosen_by b P Q f g l)
chosen true P Q W f g x y l = x l
chosen false P Q W f g x y l = y l

no_signal : {s t : ℕ} (p : Stmt) → NoLocal s (local t p) → s ≡ t → ⊥
no_signal {s} {t} p n e = n p (subst (λ (u : ℕ). StandsIn (local u p) (local t p)) (sym e) itself)

module _ (s : ℕ) where
  started_says : (p : Stmt) (i : ℕ) → NoLocal s p → (l : Locals (started p)) (W : Numbers) → Says s (execute (started p) l W).emitted (ran_started (emit_of s) i p l W)
  unfolding execute started ran_started
  started_says nothing i n l W = none_says
  started_says (pause k) i n l W = none_says
  started_says (emit t) i n l W = here_says s t i
  started_says (present? t then p else q) i n l W =
      tested (W t) (execute (started p) l.0 W) (execute (started q) l.1 W)
      (started_says p (i + 1) (λ r h. n r (in_then h)) l.0 W) (started_says q (i + 1 + statements p) (λ r h. n r (in_else h)) l.1 W)
  started_says (suspend p on t) i n l W = started_says p (i + 1) (λ r h. n r (in_suspend h)) l W
  started_says (p ⨾ q) i n l W =
      in_turn (execute (started p) l.0 W) (execute (started q) l.1 W)
      (started_says p (i + 1) (λ r h. n r (in_first h)) l.0 W) (started_says q (i + 1 + statements p) (λ r h. n r (in_second h)) l.1 W)
  started_says (loop p) i n l W = started_says p (i + 1) (λ r h. n r (in_loop h)) l W
  started_says (p parallel q) i n l W =
      both_say (started_says p (i + 1) (λ r h. n r (in_left h)) l.0 W) (started_says q (i + 1 + statements p) (λ r h. n r (in_right h)) l.1 W)
  started_says (trap p) i n l W = started_says p (i + 1) (λ r h. n r (in_trap h)) l W
  started_says (exit d) i n l W = none_says
  started_says (local t p) i n l W =
      hidden_says t (no_signal p n) (started_says p (i + 1) (λ r h. n r (in_local h)) l.1 (assigning W t l.0))

  resumed_says : (A : Numbers) (p : Stmt) (i : ℕ) → NoLocal s p → (l : Locals (resumed A p)) (W : Numbers)
      → Says s (execute (resumed A p) l W).emitted (ran_resumed (emit_of s) A i p l W)
  unfolding execute resumed ran_resumed
  resumed_says A nothing i n l W = none_says
  resumed_says A (pause k) i n l W = none_says
  resumed_says A (emit t) i n l W = none_says
  resumed_says A (present? t then p else q) i n l W =
      chosen (active A p) (resumed A p) (resumed A q) W
      (λ m. ran_resumed (emit_of s) A (i + 1) p m W) (λ m. ran_resumed (emit_of s) A (i + 1 + statements p) q m W)
      (λ m. resumed_says A p (i + 1) (λ r h. n r (in_then h)) m W) (λ m. resumed_says A q (i + 1 + statements p) (λ r h. n r (in_else h)) m W) l
  resumed_says A (suspend p on t) i n l W =
      tested (W t) (record { emitted = empty; completes = 1; keeps = held A p }) (execute (resumed A p) l.1 W) none_says
      (resumed_says A p (i + 1) (λ r h. n r (in_suspend h)) l.1 W)
  resumed_says A (p ⨾ q) i n l W =
      chosen (active A p) (chain (resumed A p) (started q)) (resumed A q) W
      (λ m. union (ran_resumed (emit_of s) A (i + 1) p m.0 W)
      (only_if (eqb (execute (resumed A p) m.0 W).completes 0) (ran_started (emit_of s) (i + 1 + statements p) q m.1 W)))
      (λ m. ran_resumed (emit_of s) A (i + 1 + statements p) q m W)
      (λ m. in_turn (execute (resumed A p) m.0 W) (execute (started q) m.1 W)
      (resumed_says A p (i + 1) (λ r h. n r (in_first h)) m.0 W) (started_says q (i + 1 + statements p) (λ r h. n r (in_second h)) m.1 W))
      (λ m. resumed_says A q (i + 1 + statements p) (λ r h. n r (in_second h)) m W) l
  resumed_says A (loop p) i n l W =
      in_turn (execute (resumed A p) l.0 W) (execute (started p) l.1 W)
      (resumed_says A p (i + 1) (λ r h. n r (in_loop h)) l.0 W) (started_says p (i + 1) (λ r h. n r (in_loop h)) l.1 W)
  resumed_says A (p parallel q) i n l W =
      both_say
      (chosen (active A p) (resumed A p) done W (λ m. ran_resumed (emit_of s) A (i + 1) p m W) (λ m. empty)
      (λ m. resumed_says A p (i + 1) (λ r h. n r (in_left h)) m W) (λ m. none_says) l.0)
      (chosen (active A q) (resumed A q) done W (λ m. ran_resumed (emit_of s) A (i + 1 + statements p) q m W) (λ m. empty)
      (λ m. resumed_says A q (i + 1 + statements p) (λ r h. n r (in_right h)) m W) (λ m. none_says) l.1)
  resumed_says A (trap p) i n l W = resumed_says A p (i + 1) (λ r h. n r (in_trap h)) l W
  resumed_says A (exit d) i n l W = none_says
  resumed_says A (local t p) i n l W =
      hidden_says t (no_signal p n) (resumed_says A p (i + 1) (λ r h. n r (in_local h)) l.1 (assigning W t l.0))

  says : (p : Stmt) → NoLocal s p → (st : State) (l : Locals (step p st)) (W : Numbers) → Says s (execute (step p st) l W).emitted (ran (emit_of s) p st l W)
  unfolding step ran execute started
  says p n fresh l W = started_says p 0 n l W
  says p n (running A) l W = resumed_says A p 0 n l W
  says p n finished l W = none_says

  -- Every execution of the law, from any state.
  pub emitted_where_ran : (p : Stmt) → NoLocal s p → (st : State) (l : Locals (step p st)) (W : Numbers)
      → T ((execute (step p st) l W).emitted s) ↔ Some (ran (emit_of s) p st l W)
  emitted_where_ran p n st l W = let r = says p n st l W in (r.some_there, λ x. r.said x.0 x.1)

-- In an answered instant from a legal state every coherent reaction emits s exactly where some emit of s is told as executed.
pub emitted_as_told : (b : Block) (st : State) (heard : Hearing) → Checked b → Legal b.body st → (s : ℕ) → NoLocal s b.body
    → {vs : List Status} {c n : ℕ} {st' : State} → Instant b st heard (answered vs c st' n)
    → (given : Numbers) → Choice b heard given → {outs : List Bool} {d : ℕ} {st'' : State} (r : Coherent b st given outs d st'')
    → T ((execute (step b.body st) r.locals (world b given outs)).emitted s)
    ↔ ((k : ℕ) × (numbered b.body k ≡ emit s) × T (taken every b.body st (event b heard vs) k))
emitted_as_told b st heard checked legal s n {vs} i given choice {outs} r = (there, back)
  where
    R : Numbers
    R = ran (emit_of s) b.body st r.locals (world b given outs)

    alike : taken (emit_of s) b.body st (event b heard vs) ≡ R
    alike = executed_in_every_reaction b st heard (emit_of s) i given choice r

    law : T ((execute (step b.body st) r.locals (world b given outs)).emitted s) ↔ Some R
    law = emitted_where_ran s b.body n st r.locals (world b given outs)

    each : (k : ℕ) → T (taken (emit_of s) b.body st (event b heard vs) k) ↔ ((numbered b.body k ≡ emit s) × T (taken every b.body st (event b heard vs) k))
    each k = executed_emits s b.body checked.pauses_are_numbered st legal (event b heard vs) k

    told : (k : ℕ) → (numbered b.body k ≡ emit s) × T (taken every b.body st (event b heard vs) k)
        → (k : ℕ) × (numbered b.body k ≡ emit s) × T (taken every b.body st (event b heard vs) k)
    told k x = (k, x.0, x.1)

    there : T ((execute (step b.body st) r.locals (world b given outs)).emitted s)
        → (k : ℕ) × (numbered b.body k ≡ emit s) × T (taken every b.body st (event b heard vs) k)
    there t =
        let x : Some (taken (emit_of s) b.body st (event b heard vs)) = subst Some (sym alike) (law.0 t) in
        told x.0 ((each x.0).0 x.1)

    back : (k : ℕ) × (numbered b.body k ≡ emit s) × T (taken every b.body st (event b heard vs) k) → T ((execute (step b.body st) r.locals (world b given outs)).emitted s)
    back x = law.1 (subst Some alike (x.0, (each x.0).1 (x.1, x.2)))
