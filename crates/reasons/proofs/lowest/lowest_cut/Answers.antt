-- `reasons::lowest::lowest_cut` meets its contract: the first row found on the path and not executed is the lowest.
use Rattle.std.proofs.Common.{◌≡◌, true, false, rules, tests}
use Rattle.std.proofs.lemmas.Iterator.{first_from_Range}
use Rattle.reasons.specs.Taking.{marked_in, cut_rows}
use Rattle.reasons.proofs.LeafLaws.{first_lowest}
use Rattle.reasons.proofs.lowest.lowest_cut.Goals as goal

pub returns : goal.returns
returns c =
    let rows = cut_rows c.args.table.now.sizes c.args.n (marked_in c.args.executed.now) in
    first_lowest c.args.count rows _
    (first_from_Range _ _ _ _ (λ i. rows i ≡ true) (λ i. rows i ≡ false) c.find.ensures.ran (λ x q k. search (rules, tests)) (λ x q k. search (rules, tests)))
