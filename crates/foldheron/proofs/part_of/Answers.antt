-- `part_of` meets its contract: the part goes from the statement's offset to that of the first statement after it.
-- Assumes nothing.
use mathlib.Core.Path.{◌∙◌, ap, subst⁻¹}
use native.Mathlib.Omega.{arith}
use Prim.Native.Nat.{◌+◌, ◌≤◌}
use lib.ListN.{length}
use Rattle.std.specs.Prelude.{Err, IfOk}
use Rattle.refusals.specs.declared.Refused.{Refused}
use Rattle.foldheron.specs.Answers.{FoundPart, part_told}
use Rattle.foldheron.proofs.Owed.{part_refused, part_past, few, past_few, start_first, part_found, part_within}
use Rattle.foldheron.proofs.Calls.{passed_on}
use Rattle.foldheron.proofs.part_of.Goals as goal

pub returns-in_err-s : goal.returns-in_err-s
returns-in_err-s c =
    let e = passed_on c.from_residual.result c.from_residual.ensures in
    record {
      value = ap part_told e ∙ part_refused _ c.read_block.ensures c.in_err-s.was c.args.n;
      size_in_bounds = subst⁻¹ (λ (r : FoundPart). IfOk r (λ p. p.offset + p.size ≤ length c.args.block.now)) e tt;
    }

pub returns-then-s-n : goal.returns-then-s-n
returns-then-s-n c =
    record {
      value = ap (λ (r : Refused). part_told (Err r)) c.at.ensures ∙ part_past _ c.read_block.ensures c.in_ok-s.was c.args.n c.if-s-n.true;
      size_in_bounds = tt;
    }

pub offset_of-offset-requires : goal.offset_of-offset-requires
offset_of-offset-requires c = omega (arith, few _ c.read_block.ensures c.in_ok-s.was c.args.n c.if-s-n.false)

pub past_statement-requires : goal.past_statement-requires
past_statement-requires c = few _ c.read_block.ensures c.in_ok-s.was c.args.n c.if-s-n.false

pub offset_of-end-requires : goal.offset_of-end-requires
offset_of-end-requires c = past_few _ c.read_block.ensures c.in_ok-s.was c.args.n c.if-s-n.false c.past_statement.ensures

pub overflow_sub-result : goal.overflow_sub-result
overflow_sub-result c =
    start_first _ c.read_block.ensures c.in_ok-s.was c.args.n c.if-s-n.false
    c.past_statement.ensures c.offset_of-offset.ensures c.offset_of-end.ensures

pub returns : goal.returns
returns c =
    record {
      value = part_found _ c.read_block.ensures c.in_ok-s.was c.args.n c.if-s-n.false
          c.past_statement.ensures c.offset_of-offset.ensures c.offset_of-end.ensures;
      size_in_bounds = part_within _ c.read_block.ensures
          c.in_ok-s.was c.args.n c.if-s-n.false c.past_statement.ensures c.offset_of-offset.ensures
          c.offset_of-end.ensures;
    }
