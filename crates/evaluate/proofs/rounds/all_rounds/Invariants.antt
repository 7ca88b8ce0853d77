-- `evaluate::rounds::all_rounds` meets its contract: after k rounds the rest of the fuel leads to the same end, and where no output is undecided
-- the next round is the last. The memory stays sound.
-- Assumes nothing.
use mathlib.Core.Path.{◌≡◌}
use lib.ListN.{length}
use Rattle.walk.specs.Memo.{Sound}
use Rattle.evaluate.proofs.RoundLaws.{Progress}
use Rattle.evaluate.proofs.rounds.all_rounds.Given as goal

abbrev pub invariant-loop-rounds : goal.invariant-loop-rounds
invariant-loop-rounds l = Progress l.table l.live l.task l.inputs l.outputs l.given l.marks l.rounds × Sound l.table l.live l.memo
    × (length l.memo ≡ length l.initial.memo)
