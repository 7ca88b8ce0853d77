-- What is promised of an answer to a question about an instant, on the caller's bytes. Assumes nothing.
use Rattle.std.specs.Prelude.{◌≡◌, Bool, List, ℕ, Ok, Err}
use Rattle.std.proofs.Math.Option.{Option, none, some}
use Rattle.refusals.specs.declared.Why.TheVariants.{Question}
use Rattle.sets.specs.Numbers.{Numbers}
use Rattle.rules.specs.Statements.{Block}
use Rattle.rules.specs.Events.{Hearing, event}
use Rattle.rules.specs.States.{State}
use Rattle.rules.specs.Rounds.{Answer, answered, not_constructive, react}
use Rattle.rules.specs.Coherence.{world, Coherent}
use Rattle.rules.specs.Taken.{Wanted, taken}
use Rattle.theorems.specs.Executed.{ran}
use Rattle.rules.specs.Reasons.{Asked}
use Rattle.theorems.specs.Order.{Choice}
use Rattle.theorems.specs.Why.{TrueReason}
use Rattle.block.specs.Format.{Good}
use Rattle.reaction.specs.declared.Given.{Given}
use Rattle.reaction.specs.Instants.{block_of, heard_of}
use Rattle.foldheron.specs.Answers.{Reason, refusal_at}
use Rattle.reaction.specs.declared.Stopped.TheVariants.{Refused}
use Rattle.promises.specs.Demand1.{HeldBy}

-- The answer that names a statement, and the one that names none: the thing asked about is not so, 16 at place 0.
abbrev pub answer_for : Option ℕ → Reason
answer_for (some k) = Ok k
answer_for none = Err (Refused (refusal_at Question 0))

-- In an answered instant, whatever the inputs not heard turn out to be, every coherent reaction executes what is told as executed, and nothing else.
abbrev pub ExecutedByAll : Block → State → Hearing → Answer → Type 0
ExecutedByAll k st heard (answered vs c st' n) =
    (which : Wanted) (chosen : Numbers) → Choice k heard chosen → (outs : List Bool) (d : ℕ) (st'' : State) (x : Coherent k st chosen outs d st'')
    → taken which k.body st (event k heard vs) ≡ ran which k.body st x.locals (world k chosen outs)
ExecutedByAll k st heard (not_constructive vs n) = Unit {0}

-- What is told is true of the instant of the good block with bytes b from the state that s holds: a statement is named where the thing asked about is so, and it is the one
-- (`TrueReason`: lowest, reached, undecided; the lowest emit executed; the topmost on the path not executed); none is named where it is not so.
pub record TrueOn (b s : List ℕ) (w : Given) (asked : Asked) (named : Option ℕ) : Type 0 where
  pub block : Good
  pub from : State
  pub held : HeldBy b s block from
  pub is_true : TrueReason asked (block_of block) from (heard_of block w) (react (block_of block) from (heard_of block w)) named
  pub executed : ExecutedByAll (block_of block) from (heard_of block w) (react (block_of block) from (heard_of block w))
