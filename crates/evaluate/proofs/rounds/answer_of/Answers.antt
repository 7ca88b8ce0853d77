-- `evaluate::rounds::answer_of` meets its contract: no legal code: not constructive; else the lowest, with every field as the definition's answer has it.
-- Assumes nothing.
use Rattle.evaluate.proofs.RoundLaws.{outputs_stand, not_known, is_known, no_code, the_code}
use mathlib.Core.Path.{refl}
use Rattle.sets.specs.Numbers.{lowest}
use Rattle.sets.specs.Words.{bits, set_of}
use Rattle.evaluate.proofs.rounds.answer_of.Goals as goal
use Rattle.evaluate.proofs.rounds.answer_of.Goals.{then-codes-eq0, else-codes-eq0}

pub returns : goal.returns
returns c =
    λ b z f.
    let outs = outputs_stand z f refl refl c.undecided_of.ensures c.args.end.rounds refl in elim c.if-codes-eq0.branch [
      | then-codes-eq0 w ↦ not_known (lowest 18 (bits c.args.last.codes)) (set_of c.args.last.pauses)
          (no_code c.args.last.codes c.legal_codes-codes.result c.legal_codes-codes.ensures w.if-codes-eq0.true)
          (record { outputs_are = outs; done_is = w.done-is })
      | else-codes-eq0 w ↦ is_known (lowest 18 (bits c.args.last.codes)) (set_of c.args.last.pauses) w.code_in.result.0
          (the_code c.args.last.codes c.legal_codes-codes.result c.legal_codes-codes.ensures w.code_in.result.0 (w.code_in.ensures w.if-codes-eq0.false))
          (record { outputs_are = outs; done = w.done_with.result; done_is = w.done-is; done_as = w.done_with.ensures })
    ]
