-- The computed reaction beside the coherence law's. Assumes nothing.
use Rattle.std.specs.Prelude.{◌≡◌, Bool, true, false, cond, List, map, ℕ, T, eqb}
use Rattle.sets.specs.Numbers.{Numbers}
use Rattle.rules.specs.Statements.{Block}
use Rattle.rules.specs.Events.{Status, present, absent, unknown, known, Hearing}
use Rattle.rules.specs.Instant.{Step, done, stay, say, leave, test, catch, scope, chain, beside}
use Rattle.rules.specs.States.{State, step}
use Rattle.rules.specs.Rounds.{Answer, answered, not_constructive}
use Rattle.theorems.specs.Order.{Choice}
use Rattle.rules.specs.Coherence.{Locals, assigning, execute, world, Coherent}

-- Some number is a member.
abbrev pub Some : Numbers → Type 0
Some A = (n : ℕ) × T (A n)

-- A decided status as the coherence law has it.
abbrev pub is_present : Status → Bool
is_present present = true
is_present absent = false
is_present unknown = false

-- The same outputs, the same code and the same next state. The statuses are then all known.
pub record SameReaction (vs : List Status) (c : ℕ) (st' : State) (outs : List Bool) (d : ℕ) (st'' : State) : Type 0 where
  pub same_outputs : map known outs ≡ vs
  pub same_code : d ≡ c
  pub same_next : st'' ≡ st'

-- The same status for each local each time its body is executed.
unfoldable pub SameLocals : (p : Step) → Locals p → Locals p → Numbers → Type 0
unfolding execute
SameLocals done l m W = Unit {0}
SameLocals (stay A) l m W = Unit {0}
SameLocals (say s) l m W = Unit {0}
SameLocals (leave d) l m W = Unit {0}
SameLocals (test s p q) l m W = cond (W s) (SameLocals p l.0 m.0 W) (SameLocals q l.1 m.1 W)
SameLocals (catch p) l m W = SameLocals p l m W
SameLocals (scope s p) l m W = (l.0 ≡ m.0) × SameLocals p l.1 m.1 (assigning W s l.0)
SameLocals (chain p q) l m W =
    SameLocals p l.0 m.0 W × cond (eqb (execute p l.0 W).completes 0) (SameLocals q l.1 m.1 W) (Unit {0})
SameLocals (beside p q) l m W = SameLocals p l.0 m.0 W × SameLocals q l.1 m.1 W

-- The reaction is coherent, and every coherent one is the same, down to the status of each local each time its body is executed.
pub record OnlyReaction (b : Block) (st : State) (given : Numbers) (vs : List Status) (c : ℕ) (st' : State) : Type 0 where
  pub coherent : Coherent b st given (map is_present vs) c st'
  pub the_only_one : (outs : List Bool) (d : ℕ) (st'' : State) → Coherent b st given outs d st'' → SameReaction vs c st' outs d st''
  pub with_the_same_locals : (outs : List Bool) (d : ℕ) (st'' : State) (r : Coherent b st given outs d st'')
      → SameLocals (step b.body st) coherent.locals r.locals (world b given (map is_present vs))

-- If answered, it is the only reaction, whatever is chosen for the inputs not heard.
abbrev pub OnlyIfAnswered : Block → State → Hearing → Answer → Type 0
OnlyIfAnswered b st heard (answered vs c st' n) = (given : Numbers) → Choice b heard given → OnlyReaction b st given vs c st'
OnlyIfAnswered b st heard (not_constructive vs n) = Unit {0}
