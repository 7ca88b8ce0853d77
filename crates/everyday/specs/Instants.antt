-- Instants and runs of a block of edition 2, as those of edition 1 are. Assumes nothing.
use Rattle.std.specs.Prelude.{List, [], ◌∷◌, ℕ, suc}
use Rattle.sets.specs.Numbers.{lowest}
use Rattle.rules.specs.Statements.{Block, Stmt}
use Rattle.rules.specs.Events.{Hearing, event}
use Rattle.rules.specs.Instant.{Step}
use Rattle.rules.specs.MustCan.{must, gives}
use Rattle.rules.specs.States.{State, kept}
use Rattle.rules.specs.Rounds.{begin, settle, code_width, Answer, answer}
use Rattle.theorems.specs.Traces.{InputSet, after}
use Rattle.everyday.specs.Statements.{Everyday}
use Rattle.everyday.specs.Meaning.{step₂}

-- What a block answers in an instant in which it has this to do: of the block itself only the inputs and the outputs matter.
unfoldable pub reacts_by : Block → Step → Hearing → Answer
unfolding settle begin answer
reacts_by b p heard =
    let r = settle b p heard (suc b.outputs) (begin b) in
    let E = event b heard r.statuses in
    answer r (lowest code_width (gives must p E).codes) (kept p E)

-- A block of edition 2, and its interface as a block of edition 1.
pub record Block₂ : Type 0 where
  pub inputs : ℕ
  pub outputs : ℕ
  pub body : Everyday

abbrev pub interface : Block₂ → Block
interface b = record { inputs = b.inputs; outputs = b.outputs; body = Stmt.nothing }

unfoldable pub react₂ : Block₂ → State → Hearing → Answer
unfolding reacts_by step₂
react₂ b st heard = reacts_by (interface b) (step₂ b.body st) heard

unfoldable pub run₂ : (b : Block₂) → State → List (InputSet (interface b)) → List Answer
unfolding react₂
run₂ b st [] = []
run₂ b st (given ∷ givens) = react₂ b st given.heard ∷ run₂ b (after st (react₂ b st given.heard)) givens
