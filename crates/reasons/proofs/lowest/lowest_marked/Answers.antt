-- `reasons::lowest::lowest_marked` meets its contract: the first mark found is the lowest.
use Rattle.std.proofs.Common.{◌≡◌, true, false, take, arith, rules, tests}
use Rattle.std.proofs.lemmas.Iterator.{IsFirst-from_position, YieldsList-from_slice}
use Rattle.reasons.proofs.LeafLaws.{first_marked}
use Rattle.reasons.proofs.lowest.lowest_marked.Goals as goal

pub returns : goal.returns
returns c =
    first_marked c.args.marks.now c.args.count (omega arith) _
    (IsFirst-from_position _ _ _ (λ b. b ≡ true) (λ b. b ≡ false) c.position.ensures.ran (YieldsList-from_slice (take c.args.count c.args.marks.now) cc) (λ x q k. search (rules, tests)) (λ x q k. search (rules, tests)))
