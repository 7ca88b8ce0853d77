-- `clash::has_two_parts`: the three kinds. Assumes nothing.
use borrow.Author.Rules.{rules}
use Rattle.records.proofs.Steps.{two_yes, two_no}
use Rattle.records.proofs.clash.has_two_parts.Goals as goal

pub returns-in-19 : goal.returns-in-19
returns-in-19 c = two_yes c.args.kind c.in-19.is

pub returns-in_default : goal.returns-in_default
returns-in_default c = two_no c.args.kind (search rules)
