-- `body::make`: each move by the step that makes it. Assumes nothing.
use mathlib.Core.Path.{refl, subst}
use Rattle.read_steps.specs.Moves.{made}
use Rattle.read_steps.specs.Holding.{Safe, faulted}
use Rattle.read_steps.proofs.StepLaws.{to_held, same_move}
use Rattle.read_steps.proofs.body.make.Goals as goal

pub put_step-requires : goal.put_step-requires
unfolding Safe
put_step-requires c = record { out_len = c.requires.out_len; sized = subst Safe c.in-Put.is c.requires.safe }

pub open_step-requires : goal.open_step-requires
unfolding Safe
open_step-requires c =
    record {
      out_len = c.requires.out_len;
      sized = subst Safe
          c.in-Open.is c.requires.safe;
      next_bound = c.requires.next_bound;
      depth_bound = c.requires.depth_bound;
    }

pub returns-in-Fault : goal.returns-in-Fault
unfolding made
returns-in-Fault c = same_move c.in-Fault.is (record { does = λ text at g h ok. faulted refl })

pub returns-in-To : goal.returns-in-To
unfolding made
returns-in-To c = same_move c.in-To.is (record { does = λ text at g h ok. to_held text h _ ok })

pub returns-in-Put : goal.returns-in-Put
returns-in-Put c = same_move c.in-Put.is (c.put_step.ensures _ _)

pub returns-in-Open : goal.returns-in-Open
returns-in-Open c = same_move c.in-Open.is c.open_step.ensures

pub returns-in-Bracket : goal.returns-in-Bracket
returns-in-Bracket c = same_move c.in-Bracket.is (c.bracket_step.ensures _ _)

pub returns-in-Close : goal.returns-in-Close
returns-in-Close c = same_move c.in-Close.is (c.close_step.ensures _ _)

pub returns-in-Sequence : goal.returns-in-Sequence
returns-in-Sequence c = same_move c.in-Sequence.is (c.sequence_step.ensures _ _)

pub returns-in-Parallel : goal.returns-in-Parallel
returns-in-Parallel c = same_move c.in-Parallel.is (c.parallel_step.ensures _ _)

pub returns-in-Turn : goal.returns-in-Turn
returns-in-Turn c = same_move c.in-Turn.is (c.turn_step.ensures _ _ _)

pub returns-in-When : goal.returns-in-When
returns-in-When c = same_move c.in-When.is (c.when_step.ensures _ _)
