-- One instant as a relation over the rounds, and runs of instants. Assumes nothing.
use Rattle.std.specs.Prelude.{List, [], ◌∷◌, ℕ, ◌<◌, T}
use Rattle.rules.specs.Statements.{Block}
use Rattle.rules.specs.Events.{Status, Hearing, event}
use Rattle.rules.specs.MustCan.{must, gives}
use Rattle.rules.specs.States.{State, step, kept, next}
use Rattle.rules.specs.Rounds.{begin, Rounds, Answer, answered, not_constructive, react}

-- What is heard of a block's inputs: only inputs that it declares, and none both present and absent.
pub record InputSet (b : Block) : Type 0 where
  pub heard : Hearing
  pub present_declared : (n : ℕ) → T (heard.heard_present n) → n < b.inputs
  pub absent_declared : (n : ℕ) → T (heard.heard_absent n) → n < b.inputs
  pub apart : (n : ℕ) → T (heard.heard_present n) → T (heard.heard_absent n) → ⊥

-- One instant: the rounds end, and their event makes the code known, or does not.
pub data Instant (b : Block) (st : State) (heard : Hearing) : Answer → Type 0 where
  answers : {vs : List Status} {n c : ℕ} → Rounds b (step b.body st) heard (begin b) n vs
      → T ((gives must (step b.body st) (event b heard vs)).codes c)
      → Instant b st heard (answered vs c (next c (kept (step b.body st) (event b heard vs))) n)
  refuses : {vs : List Status} {n : ℕ} → Rounds b (step b.body st) heard (begin b) n vs
      → ((c : ℕ) → T ((gives must (step b.body st) (event b heard vs)).codes c) → ⊥)
      → Instant b st heard (not_constructive vs n)

-- After an answer the block goes on from the next state, after a refusal from the same.
abbrev pub after : State → Answer → State
after st (answered vs c st' n) = st'
after st (not_constructive vs n) = st

-- A run: one answer for each input set.
pub data Trace (b : Block) : State → List (InputSet b) → List Answer → State → Type 0 where
  ends : {st : State} → Trace b st [] [] st
  goes_on : {st st' : State} {given : InputSet b} {givens : List (InputSet b)} {a : Answer} {told : List Answer}
      → Instant b st given.heard a → Trace b (after st a) givens told st' → Trace b st (given ∷ givens) (a ∷ told) st'

-- Something holds at every instant of a run: of its state, its input set and its answer.
abbrev pub Throughout : (b : Block) (P : State → InputSet b → Answer → Type 0) {st st' : State} {givens : List (InputSet b)} {told : List Answer}
    → Trace b st givens told st' → Type 0
Throughout b P ends = Unit {0}
Throughout b P (goes_on {st = st} {given = given} {a = a} i t) = P st given a × Throughout b P t

-- The run that `react` computes: its answers, and the state at its end.
unfoldable pub run : (b : Block) → State → List (InputSet b) → List Answer
unfolding react
run b st [] = []
run b st (given ∷ givens) = react b st given.heard ∷ run b (after st (react b st given.heard)) givens

unfoldable pub arrives : (b : Block) → State → List (InputSet b) → State
unfolding react
arrives b st [] = st
arrives b st (given ∷ givens) = arrives b (after st (react b st given.heard)) givens
