-- `run_logged` meets its contract: as `run`, and only an answered one writes a record from the log's end on.
-- Assumes nothing.
use mathlib.Core.Path.{refl, sym, ◌∙◌, ap}
use Rattle.reaction.specs.Answers.{instant_told}
use Rattle.records.proofs.Logs.{has_room}
use Rattle.records.proofs.Writing.{same_phase}
use Rattle.foldheron.specs.Answers.{Logging, answer_in, end_in}
use Rattle.foldheron.proofs.Calls.{was_answered, was_not, with_log, passed_on}
use Rattle.foldheron.proofs.run_logged.Goals as goal

pub returns-in_err-came : goal.returns-in_err-came
unfolding answer_in end_in
returns-in_err-came c =
    let k = with_log _ _ _ c.args.log.now _ (c.no_room-roomless.ensures c.args.log.now refl) c.in_err-came.ensures in
    let q = was_not _ _ _ _ k in
    let e = passed_on c.from_residual.result c.from_residual.ensures in
    record {
      answer_value = ap (λ (r : Logging). instant_told (answer_in r)) e ∙ k.told_is;
      end_value = ap end_in e ∙ sym (q.no_end _);
      state_after = sym (q.state_stays _);
      log_after = sym (q.log_stays _ _ _);
    }

pub write_next-requires : goal.write_next-requires
write_next-requires c = (was_answered _ _ _ _ (with_log _ _ _ c.args.log.now _ (c.no_room-roomless.ensures c.args.log.now refl) c.in_ok-came.ensures)).sized

pub write_at_end-next-requires : goal.write_at_end-next-requires
write_at_end-next-requires c =
    has_room _ _ (was_answered _ _ _ _ (with_log _ _ _ c.args.log.now _ (c.no_room-roomless.ensures c.args.log.now refl) c.in_ok-came.ensures)).room

pub returns : goal.returns
unfolding answer_in end_in
returns c =
    let k = with_log _ _ _ c.args.log.now _ (c.no_room-roomless.ensures c.args.log.now refl) c.in_ok-came.ensures in
    let a = was_answered _ _ _ _ k in
    record {
      answer_value = k.told_is;
      end_value = c.write_at_end-next.ensures.0 ∙ sym (a.end_is _);
      state_after = c.write_next.ensures ∙ same_phase _ _ _ c.from.ensures ∙ sym a.state_is;
      log_after = c.write_at_end-next.ensures.1 ∙ sym (a.log_is _ _);
    }
