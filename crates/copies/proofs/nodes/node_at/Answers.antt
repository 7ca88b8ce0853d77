-- `nodes::node_at`: the kind tells the children. Assumes nothing.
use Rattle.copies.proofs.NodeLaws.{in_table, joins_parts, over_parts, twice_parts, leaf_parts}
use Rattle.copies.proofs.nodes.node_at.Goals as goal

pub bounds-table-at : goal.bounds-table-at
bounds-table-at c = in_table c.requires.lies

pub second_at-requires : goal.second_at-requires
second_at-requires c = in_table c.requires.lies

pub returns-in-19 : goal.returns-in-19
returns-in-19 c = λ t l. joins_parts l c.in-19.is _ c.second_at.ensures.0

pub returns-in-20 : goal.returns-in-20
returns-in-20 c = λ t l. over_parts l c.in-20.is

pub returns-in-22 : goal.returns-in-22
returns-in-22 c = λ t l. twice_parts l c.in-22.is

pub returns-in_default : goal.returns-in_default
returns-in_default c =
    λ t l. leaf_parts l c.in_default.in_default-own.rest.0.0.1 c.in_default.in_default-own.rest.0.1 c.in_default.in_default-own.rest.1
