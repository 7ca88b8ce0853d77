-- `layout::put_answer`: the values are the whole answer, each of them a number of 64 bits. Assumes nothing.
use mathlib.Core.Path.{refl}
use lib.ListN.{get_or}
use mir.Syntax.{w64}
use mir.Val.{Fits}
use Rattle.exports.proofs.Laid.{answered}
use borrow.Author.Rules.{rules}
use Rattle.exports.proofs.layout.put_answer.Goals as goal

pub returns : goal.returns
returns c =
    answered _ _ _ refl c.requires.lent refl (λ i. let f : Fits w64 (get_or c.args.values.now i 0) = search rules in f.fits) c.put_values.ensures refl
