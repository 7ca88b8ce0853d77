-- What is reached of a statement is its own number, if it is asked for, and what is reached of the parts that its form names: one case for each kind, started and
-- resumed, as the definitions have it. Assumes nothing.
use mathlib.Core.Path.{◌≡◌, refl, sym}
use mathlib.Core.Bool.{Bool, true, false, cond, ◌&&◌, or-false}
use Prim.Native.Nat.{ℕ, ◌+◌, ◌≤◌, ◌<◌}
use native.Mathlib.Omega.{arith}
use Rattle.sets.specs.Numbers.{Numbers, empty, union, only_if}
use Rattle.sets.proofs.Members.{ext}
use Rattle.rules.specs.Statements.{depth, Stmt, nothing, pause, emit, present?◌then◌else◌, suspend◌on◌, ◌⨾◌, loop, ◌parallel◌, trap, exit, local, statements}
use Rattle.rules.specs.Events.{Event, giving}
use Rattle.rules.specs.Instant.{Step, done, stay, say, leave, test, catch, scope, chain, beside, active, held, started, resumed}
use Rattle.rules.specs.MustCan.{must, gives}
use Rattle.rules.specs.States.{executed_as, kept_by}
use Rattle.rules.specs.Taken.{Wanted, wants, itself_if, taken_started, taken_resumed}
use Rattle.tables.specs.Table.{Has, Small}
use Rattle.tables.specs.declared.Table.{Table}
use Rattle.forms.specs.declared.form.Going.{Going}
use Rattle.forms.specs.declared.form.Going.TheVariants.{Started, Resumed, Held, Idle}
use Rattle.forms.specs.declared.form.Task.{Task}
use Rattle.forms.specs.declared.form.Form.{Form}
use Rattle.forms.specs.declared.form.Form.TheVariants.{Done, Stay, Keep, Say, Leave, Test, Catch, Scope, Chain, Beside, Same}
use Rattle.forms.specs.Forms.{At, step_of, task, started_as, resumed_as, form_for}
use Rattle.reasons.specs.Taking.{goes, hit, Narrow, taken_of}

-- A task has this to do, and this is taken of it.
pub record Took (tab : Table) (A : Numbers) (w : Wanted) (c : Task) (E : Event) (X : Numbers) (P : Step) : Type 0 where
  pub tree : Stmt
  pub there : At tab c.at tree
  pub does : P ≡ step_of c.going A tree
  pub takes : X ≡ taken_of c.going w A c.at tree E

-- A step made of one task's and of two tasks', with what is taken of them.
pub record One (tab : Table) (A : Numbers) (w : Wanted) (make : Step → Step) (c : Task) (P : Step) (E : Event) (X : Numbers) : Type 0 where
  pub inner : Step
  pub made : P ≡ make inner
  pub took : Took tab A w c E X inner

pub record Scoped (tab : Table) (A : Numbers) (w : Wanted) (s : ℕ) (c : Task) (P : Step) (E : Event) (X : Numbers) : Type 0 where
  pub inner : Step
  pub made : P ≡ scope s inner
  pub took : Took tab A w c (giving E s (executed_as s inner E)) X inner

pub record Two (tab : Table) (A : Numbers) (w : Wanted) (make : Step → Step → Step) (c d : Task) (P : Step) (E : Event) (join : Step → Numbers → Numbers → Numbers) (X : Numbers) : Type 0 where
  pub first : Step
  pub later : Step
  pub of_first : Numbers
  pub of_later : Numbers
  pub made : P ≡ make first later
  pub joins : X ≡ join first of_first of_later
  pub left : Took tab A w c E of_first first
  pub right : Took tab A w d E of_later later

-- What the form of a step says of what is taken beside the statement itself.
unfoldable pub Reaches : Table → Numbers → Wanted → Form → Step → Event → Numbers → Type 0
Reaches tab A w Done P E X = (P ≡ done) × (X ≡ empty)
Reaches tab A w (Stay n) P E X = (B : Numbers) × (P ≡ stay B) × (X ≡ empty)
Reaches tab A w (Keep i) P E X = (B : Numbers) × (P ≡ stay B) × (X ≡ empty)
Reaches tab A w (Say s) P E X = (P ≡ say s) × (X ≡ empty)
Reaches tab A w (Leave d) P E X = (d.0 < 16) × (P ≡ leave (depth d.0)) × (X ≡ empty)
Reaches tab A w (Test s c d) P E X = (s < 64) × Two tab A w (test s) c d P E (λ p Y Z. kept_by (E s) Y Z) X
Reaches tab A w (Catch c) P E X = One tab A w catch c P E X
Reaches tab A w (Scope s c) P E X = (s < 64) × Scoped tab A w s c P E X
Reaches tab A w (Chain c d) P E X = Two tab A w chain c d P E (λ p Y Z. union Y (only_if ((gives must p E).codes 0) Z)) X
Reaches tab A w (Beside c d) P E X = Two tab A w beside c d P E (λ p Y Z. union Y Z) X
Reaches tab A w (Same c) P E X = Took tab A w c E X P

-- A set X is the statement's own number, where it is hit, and the rest.
pub record Splits (tab : Table) (A : Numbers) (w : Wanted) (g : Going) (i : ℕ) (f : Form) (P : Step) (E : Event) (X : Numbers) : Type 0 where
  pub rest : Numbers
  pub whole : X ≡ union (itself_if (goes g && hit w f E) i) rest
  pub parts : Reaches tab A w f P E rest

alone : (X : Numbers) → X ≡ union X empty
alone X = ext (λ n. sym (or-false (X n)))

module _ {tab : Table} (A : Numbers) (w : Wanted) where
  kid : (g : Going) {j : ℕ} (p : Stmt) (E : Event) → At tab j p → Took tab A w (task j g) E (taken_of g w A j p E) (step_of g A p)
  kid g p E h = record { tree = p; there = h; does = refl; takes = refl }

  -- Two children side by side.
  kids : (make : Step → Step → Step) (join : Step → Numbers → Numbers → Numbers) (g h : Going) {j k : ℕ} (p q : Stmt) (E : Event) → At tab j p → At tab k q
      → Two tab A w make (task j g) (task k h) (make (step_of g A p) (step_of h A q)) E join (join (step_of g A p) (taken_of g w A j p E) (taken_of h w A k q E))
  kids make join g h {j} {k} p q E a b = record {
    first = step_of g A p;
    later = step_of h A q;
    of_first = taken_of g w A j p E;
    of_later = taken_of h w A k q E;
    made = refl;
    joins = refl;
    left = kid g p E a;
    right = kid h q E b;
  }

  -- The task that an active pause chooses; an arm without one has nothing to do.
  either_took : (b : Bool) {c d : Task} {E : Event} {X Y : Numbers} {P Q : Step} → Took tab A w c E X P → Took tab A w d E Y Q
      → Took tab A w (cond b c d) E (cond b X Y) (cond b P Q)
  either_took true k l = k
  either_took false k l = l

  arm_took : (b : Bool) {j : ℕ} (p : Stmt) (E : Event) → At tab j p → Took tab A w (task j (cond b Resumed Idle)) E (only_if b (taken_resumed w A j p E)) (cond b (resumed A p) done)
  unfolding taken_of step_of
  arm_took true p E h = kid Resumed p E h
  arm_took false p E h = kid Idle p E h

child : {tab : Table} (j : ℕ) (p : Stmt) → Has tab j p → Small p → j + statements p ≤ 512 → At tab j p
child j p h s l = record { has = h; small = s; room = l }

pub started_splits : {tab : Table} (A : Numbers) (w : Wanted) (i : ℕ) (t : Stmt) (E : Event) → At tab i t
    → Splits tab A w Started i (started_as i t) (started t) E (taken_started w i t E)
unfolding started_as started taken_started hit Reaches taken_of step_of Has Small statements
started_splits A w i nothing E h = record { rest = empty; whole = alone (itself_if (wants w) i); parts = (refl, refl) }
started_splits A w i (pause n) E h = record { rest = empty; whole = alone _; parts = (_, refl, refl) }
started_splits A w i (emit s) E h = record { rest = empty; whole = alone _; parts = (refl, refl) }
started_splits A w i (present? s then p else q) E h = record {
  rest = _;
  whole = refl;
  parts = (
    h.small.0,
    kids A w (test s) (λ p Y Z. kept_by (E s) Y Z) Started Started p q E (child (i + 1) p h.has.1 h.small.1 (omega (arith, h.room)))
        (child (i + 1 + statements p) q h.has.2 h.small.2 (omega (arith, h.room))),
  );
}
started_splits A w i (suspend p on s) E h = record {
  rest = _;
  whole = refl;
  parts = kid A w Started p E (child (i + 1) p h.has.1 h.small.1 (omega (arith, h.room)));
}
started_splits A w i (p ⨾ q) E h = record {
  rest = _;
  whole = refl;
  parts = kids A w chain (λ p Y Z. union Y (only_if ((gives must p E).codes 0) Z)) Started Started p q E (child (i + 1) p h.has.1 h.small.0 (omega (arith, h.room)))
      (child (i + 1 + statements p) q h.has.2 h.small.1 (omega (arith, h.room)));
}
started_splits A w i (loop p) E h = record {
  rest = _;
  whole = refl;
  parts = kid A w Started p E (child (i + 1) p h.has.1 h.small (omega (arith, h.room)));
}
started_splits A w i (p parallel q) E h = record {
  rest = _;
  whole = refl;
  parts = kids A w beside (λ p Y Z. union Y Z) Started Started p q E (child (i + 1) p h.has.1 h.small.0 (omega (arith, h.room)))
      (child (i + 1 + statements p) q h.has.2 h.small.1 (omega (arith, h.room)));
}
started_splits A w i (trap p) E h = record {
  rest = _;
  whole = refl;
  parts = record { inner = started p; made = refl; took = kid A w Started p E (child (i + 1) p h.has.1 h.small (omega (arith, h.room))) };
}
started_splits A w i (exit (depth d)) E h = record { rest = empty; whole = alone _; parts = (h.small, refl, refl) }
started_splits A w i (local s p) E h = record {
  rest = _;
  whole = refl;
  parts = (
    h.small.0,
    record {
      inner = started p;
      made = refl;
      took = kid A w Started p (giving E s (executed_as s (started p) E)) (child (i + 1) p h.has.1 h.small.1 (omega (arith, h.room)));
    },
  );
}

-- A sequence resumed: in its first part, or in its second.
sequence_splits : {tab : Table} (A : Numbers) (w : Wanted) (i : ℕ) (b : Bool) (p q : Stmt) (E : Event) → At tab (i + 1) p → At tab (i + 1 + statements p) q
    → Splits tab A w Resumed i
    (cond b (Chain (task (i + 1) Resumed) (task (i + 1 + statements p) Started)) (Same (task (i + 1 + statements p) Resumed)))
    (cond b (chain (resumed A p) (started q)) (resumed A q)) E
    (union (itself_if (wants w) i) (cond b
    (union (taken_resumed w A (i + 1) p E) (only_if ((gives must (resumed A p) E).codes 0) (taken_started w (i + 1 + statements p) q E)))
    (taken_resumed w A (i + 1 + statements p) q E)))
unfolding hit Reaches taken_of step_of
sequence_splits A w i true p q E h k = record { rest = _; whole = refl; parts = kids A w chain (λ p Y Z. union Y (only_if ((gives must p E).codes 0) Z)) Resumed Started p q E h k }
sequence_splits A w i false p q E h k = record { rest = _; whole = refl; parts = kid A w Resumed q E k }

pub resumed_splits : {tab : Table} (A : Numbers) (w : Wanted) (i : ℕ) (t : Stmt) (E : Event) → At tab i t
    → Splits tab A w Resumed i (resumed_as A i t) (resumed A t) E (taken_resumed w A i t E)
unfolding resumed_as resumed taken_resumed hit Reaches taken_of step_of Has Small statements
resumed_splits A w i nothing E h = record { rest = empty; whole = alone _; parts = (refl, refl) }
resumed_splits A w i (pause n) E h = record { rest = empty; whole = alone _; parts = (refl, refl) }
resumed_splits A w i (emit s) E h = record { rest = empty; whole = alone _; parts = (refl, refl) }
resumed_splits A w i (present? s then p else q) E h = record {
  rest = _;
  whole = refl;
  parts = either_took A w (active A p) (kid A w Resumed p E (child (i + 1) p h.has.1 h.small.1 (omega (arith, h.room))))
      (kid A w Resumed q E (child (i + 1 + statements p) q h.has.2 h.small.2 (omega (arith, h.room))));
}
resumed_splits A w i (suspend p on s) E h =
    let k = child (i + 1) p h.has.1 h.small.1 (omega (arith, h.room)) in
    record { rest = _; whole = refl; parts = (h.small.0, kids A w (test s) (λ p Y Z. kept_by (E s) Y Z) Held Resumed p p E k k) }
resumed_splits A w i (p ⨾ q) E h =
    sequence_splits A w i (active A p) p q E (child (i + 1) p h.has.1 h.small.0 (omega (arith, h.room)))
    (child (i + 1 + statements p) q h.has.2 h.small.1 (omega (arith, h.room)))
resumed_splits A w i (loop p) E h =
    let k = child (i + 1) p h.has.1 h.small (omega (arith, h.room)) in
    record { rest = _; whole = refl; parts = kids A w chain (λ p Y Z. union Y (only_if ((gives must p E).codes 0) Z)) Resumed Started p p E k k }
resumed_splits A w i (p parallel q) E h = record {
  rest = _;
  whole = refl;
  parts = record {
    first = cond (active A p) (resumed A p) done;
    later = cond (active A q) (resumed A q) done;
    of_first = _;
    of_later = _;
    made = refl;
    joins = refl;
    left = arm_took A w (active A p) p E (child (i + 1) p h.has.1 h.small.0 (omega (arith, h.room)));
    right = arm_took A w (active A q) q E (child (i + 1 + statements p) q h.has.2 h.small.1 (omega (arith, h.room)));
  };
}
resumed_splits A w i (trap p) E h = record {
  rest = _;
  whole = refl;
  parts = record { inner = resumed A p; made = refl; took = kid A w Resumed p E (child (i + 1) p h.has.1 h.small (omega (arith, h.room))) };
}
resumed_splits A w i (exit d) E h = record { rest = empty; whole = alone _; parts = (refl, refl) }
resumed_splits A w i (local s p) E h = record {
  rest = _;
  whole = refl;
  parts = (
    h.small.0,
    record {
      inner = resumed A p;
      made = refl;
      took = kid A w Resumed p (giving E s (executed_as s (resumed A p) E)) (child (i + 1) p h.has.1 h.small.1 (omega (arith, h.room)));
    },
  );
}

-- By how the statement is taken. One that is held or idle is not reached.
pub splits : {tab : Table} (A : Numbers) (w : Wanted) (g : Going) (i : ℕ) (t : Stmt) (E : Event) → At tab i t
    → Splits tab A w g i (form_for g A i t) (step_of g A t) E (taken_of g w A i t E)
unfolding form_for step_of taken_of Reaches
splits A w Started i t E h = started_splits A w i t E h
splits A w Resumed i t E h = resumed_splits A w i t E h
splits A w Held i t E h = record { rest = empty; whole = refl; parts = (held A t, refl, refl) }
splits A w Idle i t E h = record { rest = empty; whole = refl; parts = (refl, refl) }

-- A form that is reached has a test's signal within a word.
pub narrow : (tab : Table) (A : Numbers) (w : Wanted) (f : Form) (P : Step) (E : Event) (X : Numbers) → Reaches tab A w f P E X → Narrow f
unfolding Reaches Narrow
narrow tab A w Done P E X r = tt
narrow tab A w (Stay n) P E X r = tt
narrow tab A w (Keep i) P E X r = tt
narrow tab A w (Say s) P E X r = tt
narrow tab A w (Leave d) P E X r = tt
narrow tab A w (Test s c d) P E X r = r.0
narrow tab A w (Catch c) P E X r = tt
narrow tab A w (Scope s c) P E X r = tt
narrow tab A w (Chain c d) P E X r = tt
narrow tab A w (Beside c d) P E X r = tt
narrow tab A w (Same c) P E X r = tt
