-- `own_names`: each place has its own number.
use Rattle.std.proofs.Common.{rules, tests}
use Rattle.copies.proofs.own_names.Goals as goal

pub returns : goal.returns
returns c = λ s h. let w = (c.from_fn.ensures.items.at s 0 h).2 in search (rules, tests)
