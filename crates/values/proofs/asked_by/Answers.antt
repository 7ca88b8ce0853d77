-- `values::asked_by`: each number as its definition says it. Assumes nothing.
use Rattle.values.proofs.Asking.{asks_0, asks_1, asks_2, asks_none}
use Rattle.values.proofs.asked_by.Goals as goal

pub returns-in-0 : goal.returns-in-0
returns-in-0 c = asks_0 c.args.asked c.args.about c.in-0.is

pub returns-in-1 : goal.returns-in-1
returns-in-1 c = asks_1 c.args.asked c.args.about c.in-1.is

pub returns-in-2 : goal.returns-in-2
returns-in-2 c = asks_2 c.args.asked c.args.about c.in-2.is

pub returns-in_default : goal.returns-in_default
returns-in_default c =
    asks_none c.args.asked c.args.about c.in_default.in_default-own.rest.0.0.1 c.in_default.in_default-own.rest.0.1 c.in_default.in_default-own.rest.1
