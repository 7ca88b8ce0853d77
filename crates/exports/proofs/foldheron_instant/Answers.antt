-- `foldheron_instant`: nothing is written at another length; at the answer's, the values of the library's answer are. Assumes nothing.
use mathlib.Core.Path.{◌∙◌, refl, sym, ap}
use mathlib.Core.Bool.{false}
use native.Mathlib.Omega.{arith}
use lib.ListN.{length}
use Rattle.reaction.specs.declared.Given.TheVariants.{All}
use Rattle.exports.proofs.Laid.{numbered, answered_by, not_answered, at_length, at_another}
use Rattle.values.proofs.Counts.{instant_counted, without_end}
use Rattle.exports.proofs.foldheron_instant.Goals as goal

pub returns-then-answer-ne-INSTANT : goal.returns-then-answer-ne-INSTANT
returns-then-answer-ne-INSTANT c =
    record { answers = not_answered 10 _ _ c.if-answer-ne-INSTANT.true; state_after = at_another 10 _ _ _ c.if-answer-ne-INSTANT.true }

pub slice_bounds-put_answer-end : goal.slice_bounds-put_answer-end
slice_bounds-put_answer-end c = sym (ap length (without_end c.instant-values.ensures.value))

pub put_answer-requires : goal.put_answer-requires
put_answer-requires c =
    let e = without_end c.instant-values.ensures.value in
    let first = numbered {count = 10} (omega arith) e (record { counted = refl; small = (instant_counted c.args.block.now c.args.state.now (All c.args.inputs) false 0).small }) in
    record { lent = omega (arith, ap length e, c.if-answer-ne-INSTANT.false); number = first }

pub returns : goal.returns
returns c =
    record {
      answers = answered_by 10 refl (without_end c.instant-values.ensures.value) c.put_answer.ensures;
      state_after = c.instant-values.ensures.state_after ∙ at_length 10 _ _ _
          c.if-answer-ne-INSTANT.false;
    }
