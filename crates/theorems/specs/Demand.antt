-- What demand 3 says of one instant of a run, and of the whole run. Assumes nothing.
use Rattle.std.specs.Prelude.{◌≡◌, List, length}
use Rattle.rules.specs.Statements.{Block, Stmt, loop}
use Rattle.rules.specs.Instant.{started}
use Rattle.rules.specs.States.{State, step, Legal}
use Rattle.rules.specs.Rounds.{Answer}
use Rattle.theorems.specs.Checked.{StandsIn, NeverZero, ZeroOrOne}
use Rattle.theorems.specs.Reactions.{OnlyIfAnswered}
use Rattle.theorems.specs.Traces.{InputSet, Instant, after, Trace, Throughout, run, arrives}

-- Of an instant from a state, with an input set and an answer:
pub record NotStuck (b : Block) (st : State) (given : InputSet b) (a : Answer) : Type 0 where
  -- no loop body ends with code 0 in the instant it began,
  pub loop_bodies : (q : Stmt) → StandsIn (loop q) b.body → NeverZero (started q)
  -- every exit finds its trap,
  pub exits : ZeroOrOne (step b.body st)
  -- the states before and after are legal,
  pub legal_before : Legal b.body st
  pub legal_after : Legal b.body (after st a)
  -- this is its answer or its refusal, and there is no other,
  pub its_answer : Instant b st given.heard a
  pub no_other : (d : Answer) → Instant b st given.heard d → d ≡ a
  -- and if answered, it is the only reaction that the coherence law allows.
  pub only_reaction : OnlyIfAnswered b st given.heard a

-- Of the run over a list of input sets:
pub record NeverStuck (b : Block) (st : State) (givens : List (InputSet b)) : Type 0 where
  -- there is one, with an answer for each input set, and no other;
  pub the_run : Trace b st givens (run b st givens) (arrives b st givens)
  pub an_answer_each : length (run b st givens) ≡ length givens
  pub no_other_run : (told : List Answer) (st' : State) → Trace b st givens told st' → (told ≡ run b st givens) × (st' ≡ arrives b st givens)
  -- at each of its instants the above holds, and it ends in a legal state.
  pub at_each_instant : Throughout b (NotStuck b) the_run
  pub ends_legal : Legal b.body (arrives b st givens)
