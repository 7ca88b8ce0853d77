-- `run` meets its contract: the answer's fields are the verdict's, and only an answered one writes the state.
-- Assumes nothing.
use mathlib.Core.Path.{sym, ◌∙◌, ap}
use Rattle.reaction.specs.Answers.{instant_told}
use Rattle.records.proofs.Writing.{same_phase}
use Rattle.foldheron.proofs.Calls.{was_answered, was_not, passed_on}
use Rattle.foldheron.proofs.run.Goals as goal

pub returns-in_err-came : goal.returns-in_err-came
returns-in_err-came c =
    record {
      result_value = ap instant_told (passed_on c.from_residual.result c.from_residual.ensures) ∙ c.in_err-came.ensures.told_is;
      state_after = sym ((was_not _ _ _ _ c.in_err-came.ensures).state_stays _);
    }

pub write_next-requires : goal.write_next-requires
write_next-requires c = (was_answered _ _ _ _ c.in_ok-came.ensures).sized

pub returns : goal.returns
returns c =
    record { result_value = c.in_ok-came.ensures.told_is; state_after = c.write_next.ensures ∙ same_phase _ _ _ c.from.ensures ∙ sym (was_answered _ _ _ _ c.in_ok-came.ensures).state_is }
