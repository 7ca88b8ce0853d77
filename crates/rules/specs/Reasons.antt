-- Why an instant was refused, why an output is present, why an emit was not executed: the statement that is named, or that the thing asked about is not so.
-- Assumes nothing.
use Rattle.std.specs.Prelude.{Bool, true, false, not, cond, ◌&&◌, ℕ, ◌+◌, leb, ltb}
use Rattle.std.proofs.Math.Option.{Option, none}
use Rattle.sets.specs.Numbers.{Numbers, lowest}
use Rattle.rules.specs.Statements.{Block, Stmt, nothing, pause, emit, present?◌then◌else◌, suspend◌on◌, ◌⨾◌, loop, ◌parallel◌, trap, exit, local, statements, preorder, numbered}
use Rattle.rules.specs.Events.{present, Hearing, event}
use Rattle.rules.specs.States.{State}
use Rattle.rules.specs.Rounds.{Answer, answered, not_constructive, outputs_with, react}
use Rattle.rules.specs.Taken.{every, emit_of, undecided_test, taken}

-- What is asked about an instant: why it was refused, why this signal is present, why this statement was not executed.
pub data Asked : Type 0 where
  refused : Asked
  is_present : ℕ → Asked
  not_executed : ℕ → Asked

abbrev pub is_emit : Stmt → Bool
is_emit nothing = false
is_emit (pause n) = false
is_emit (emit s) = true
is_emit (present? s then p else q) = false
is_emit (suspend p on s) = false
is_emit (p ⨾ q) = false
is_emit (loop p) = false
is_emit (p parallel q) = false
is_emit (trap p) = false
is_emit (exit d) = false
is_emit (local s p) = false

-- The path of statement n: the statements from the root down to it, each of which is n or has n below it.
unfoldable pub on_path : Stmt → ℕ → Numbers
unfolding statements preorder
on_path p n k = leb k n && ltb n (k + statements (numbered p k))

-- Those on the path of n that were not executed, these being the executed. The topmost is the one with the lowest number.
unfoldable pub cut_off : Stmt → ℕ → Numbers → Numbers
unfolding on_path
cut_off p n executed k = on_path p n k && not (executed k)

abbrev pub where_so : Bool → Option ℕ → Option ℕ
where_so so k = cond so k none

-- The reason, by the question and the instant's answer. Of a refused instant the lowest undecided test that must be reached in the final round; of a present output of an
-- answered one its lowest emit that was executed; of an emit that was not executed the topmost on its path that was not. None where the thing asked about is not so.
unfoldable pub reason_from : Asked → Block → State → Hearing → Answer → Option ℕ
unfolding statements preorder cut_off taken event outputs_with lowest
reason_from refused b st heard (answered vs c st' n) = none
reason_from refused b st heard (not_constructive vs n) = lowest (statements b.body) (taken undecided_test b.body st (event b heard vs))
reason_from (is_present s) b st heard (answered vs c st' n) =
    where_so (outputs_with present b vs s) (lowest (statements b.body) (taken (emit_of s) b.body st (event b heard vs)))
reason_from (is_present s) b st heard (not_constructive vs n) = none
reason_from (not_executed k) b st heard (answered vs c st' n) =
    let executed = taken every b.body st (event b heard vs) in
    where_so (is_emit (numbered b.body k) && not (executed k)) (lowest (statements b.body) (cut_off b.body k executed))
reason_from (not_executed k) b st heard (not_constructive vs n) = none

-- The reason of an instant from a state, with what is heard of the inputs.
unfoldable pub reason_of : Block → State → Hearing → Asked → Option ℕ
unfolding reason_from react
reason_of b st heard asked = reason_from asked b st heard (react b st heard)
