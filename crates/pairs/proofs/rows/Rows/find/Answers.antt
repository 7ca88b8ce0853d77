-- `Rows::find`: the position that the library finds is that of the pair's first row. Assumes nothing.
use Rattle.std.proofs.Common.{rules, take, ◌≡◌}
use Rattle.std.proofs.lemmas.Iterator.{IsFirst-from_position, YieldsList-from_slice}
use borrow.Author.Tests.{tests}
use Rattle.pairs.specs.declared.rows.Pair.{Pair}
use Rattle.pairs.proofs.FindLaws.{found}
use Rattle.pairs.proofs.rows.Rows.find.Goals as goal

pub returns : goal.returns
returns c =
    found c.args.self.now c.args.p c.position.result
    (IsFirst-from_position _ _ _ (λ (x : Pair). x ≡ c.args.p) (λ (x : Pair). x ≡ c.args.p → ⊥) c.position.ensures.ran
    (YieldsList-from_slice (take c.args.self.now.count c.args.self.now.pairs) (search rules)) (λ x q k. search (rules, tests)) (λ x q k. search (rules, tests)))
