-- A phase's number, phase by phase. Assumes nothing.
use borrow.Author.Rules.{rules}
use Rattle.records.specs.Held.{phase_number}
use Rattle.records.proofs.state.U16FromPhase.from.Goals as goal

pub returns-in-Fresh : goal.returns-in-Fresh
unfolding phase_number
returns-in-Fresh c = search rules

pub returns-in-Running : goal.returns-in-Running
unfolding phase_number
returns-in-Running c = search rules

pub returns-in-Finished : goal.returns-in-Finished
unfolding phase_number
returns-in-Finished c = search rules
