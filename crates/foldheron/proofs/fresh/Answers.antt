-- `fresh` meets its contract: the answer has the reading's number or 9, and only a good block's bytes of the record's size are written.
-- Assumes nothing.
use mathlib.Core.Path.{◌∙◌, ap}
use Rattle.refusals.specs.declared.Refused.{Refused}
use Rattle.std.specs.Prelude.{Err}
use Rattle.foldheron.specs.Answers.{begun_values}
use Rattle.foldheron.proofs.Owed.{other_size, other_stays, fresh_written, state_written, fresh_refused, state_stays}
use Rattle.records.proofs.Writing.{same_phase}
use Rattle.foldheron.proofs.Calls.{passed_on}
use Rattle.foldheron.proofs.fresh.Goals as goal

pub returns-in_err-s : goal.returns-in_err-s
returns-in_err-s c =
    record {
      result_value = ap begun_values (passed_on c.from_residual.result c.from_residual.ensures) ∙ fresh_refused _ c.read_block.ensures c.in_err-s.was _;
      state_after = state_stays _ c.read_block.ensures c.in_err-s.was _;
    }

pub returns-then-state-ne26 : goal.returns-then-state-ne26
returns-then-state-ne26 c =
    record {
      result_value = ap (λ (r : Refused). begun_values (Err r)) c.at.ensures ∙ other_size _ c.read_block.ensures c.in_ok-s.was _ c.if-state-ne26.true;
      state_after = other_stays _ c.read_block.ensures c.in_ok-s.was _ c.if-state-ne26.true;
    }

pub write_state-requires : goal.write_state-requires
write_state-requires c = c.if-state-ne26.false

pub returns : goal.returns
returns c =
    record {
      result_value = fresh_written _ c.read_block.ensures c.in_ok-s.was _ c.if-state-ne26.false;
      state_after = c.write_state.ensures ∙ same_phase _ _ _ c.from-phase.ensures ∙ state_written _ c.read_block.ensures c.in_ok-s.was _ c.if-state-ne26.false;
    }
