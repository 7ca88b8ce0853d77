-- `excerpt` meets its contract: what `part_of` says of the part, cut out of the lent block.
-- Assumes nothing.
use mathlib.Core.Path.{◌∙◌, ap, subst⁻¹}
use Rattle.std.specs.Prelude.{IfOk}
use Rattle.block.specs.Format.{reading}
use Rattle.records.specs.Parts.{LiesAt}
use Rattle.foldheron.specs.Answers.{PartTold, Excerpt, Excerpted, excerpted_as, part_told, part_owed}
use Rattle.foldheron.proofs.Owed.{part_cut}
use Rattle.foldheron.proofs.Calls.{passed_on}
use Rattle.foldheron.proofs.excerpt.Goals as goal

pub returns-in_err-part : goal.returns-in_err-part
unfolding excerpted_as part_told
returns-in_err-part c =
    let e = passed_on c.from_residual.result c.from_residual.ensures in
    let q = c.in_err-part.ensures.value in
    let owed = part_owed (reading c.args.block.now) c.args.n in
    record {
      number = ap (λ (x : Excerpted). x.number) (ap excerpted_as e) ∙ ap (λ (t : PartTold). t.number) q;
      place = ap (λ (x : Excerpted). x.place) (ap excerpted_as e) ∙ ap (λ (t : PartTold). t.place) q;
      part_lies = subst⁻¹ (λ (r : Excerpt). IfOk r (λ part. LiesAt part c.args.block owed.offset owed.size)) e tt;
    }

pub returns : goal.returns
unfolding excerpted_as part_told
returns c =
    let q = c.in_ok-part.ensures.value in
    record {
      number = ap (λ (t : PartTold). t.number) q;
      place = ap (λ (t : PartTold). t.place) q;
      part_lies = part_cut _ _ _ q c.cut.ensures;
    }
