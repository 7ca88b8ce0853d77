-- `sizes::size_at`: each way is a law of SizeLaws. The measure is what is left of the table. Assumes nothing.
use native.Mathlib.Omega.{arith}
use mathlib.Core.Path.{◌∙◌, ap}
use Rattle.copies.specs.Sizes.{own_size}
use Rattle.copies.proofs.NodeLaws.{in_table, its_kind, as_leaf, as_over, as_twice, as_joins, child_called}
use Rattle.copies.proofs.SizeLaws.{leaf_measured, over_measured, loop_measured, joins_measured}
use Rattle.copies.proofs.sizes.+size_at.Goals as goal

pub offset_bounds-table-at : goal.offset_bounds-table-at
offset_bounds-table-at t c = let w = in_table c.requires.lies in omega arith

pub bounds-table-at : goal.bounds-table-at
bounds-table-at t c = in_table c.requires.lies

pub node_at-requires : goal.node_at-requires
node_at-requires t c = c.requires

pub enum_told-1 : goal.enum_told-1
enum_told-1 t c = c.in-Leaf.in-Leaf-own.keys1

pub size_at-requires : goal.size_at-requires
size_at-requires t c =
    let w = as_over (c.node_at.ensures c.requires.tree c.requires.lies) c.in-Over.is in
    child_called c.decreases w.behind w.lies

pub size_at-body-requires : goal.size_at-body-requires
size_at-body-requires t c =
    let w = as_twice (c.node_at.ensures c.requires.tree c.requires.lies) c.in-Twice.is in
    child_called c.decreases w.behind w.lies

pub size_at-requires-in-Joins : goal.size_at-requires-in-Joins
size_at-requires-in-Joins t c =
    let w = as_joins (c.node_at.ensures c.requires.tree c.requires.lies) c.in-Joins.is in
    child_called c.decreases w.first_behind w.first_lies

pub size_at-requires-in-Joins-2 : goal.size_at-requires-in-Joins-2
size_at-requires-in-Joins-2 t c =
    let w = as_joins (c.node_at.ensures c.requires.tree c.requires.lies) c.in-Joins.is in
    child_called c.decreases w.second_behind w.second_lies

pub returns-in-Leaf : goal.returns-in-Leaf
returns-in-Leaf t c =
    λ t l. leaf_measured (as_leaf (c.node_at.ensures t l) l c.in-Leaf.is) (c.own_size-own.ensures ∙ ap own_size (its_kind l))

pub returns-in-Over : goal.returns-in-Over
returns-in-Over t c =
    λ t l.
    let w = as_over (c.node_at.ensures t l) c.in-Over.is in
    over_measured (c.size_at.ensures w.child w.lies) w.its (c.own_size-own.ensures ∙ ap own_size (its_kind l)) c.onto.ensures

pub returns-in-Twice : goal.returns-in-Twice
returns-in-Twice t c =
    λ t l.
    let w = as_twice (c.node_at.ensures t l) c.in-Twice.is in
    loop_measured (c.size_at-body.ensures w.child w.lies) w.its (c.own_size-own.ensures ∙ ap own_size (its_kind l)) c.side.ensures c.onto-in-Twice.ensures

pub returns-in-Joins : goal.returns-in-Joins
returns-in-Joins t c =
    λ t l.
    let w = as_joins (c.node_at.ensures t l) c.in-Joins.is in
    joins_measured (c.size_at-in-Joins.ensures w.first w.first_lies) (c.size_at-in-Joins-2.ensures w.second w.second_lies) w.its
    (c.own_size-own.ensures ∙ ap own_size (its_kind l)) c.side-in-Joins.ensures c.onto-in-Joins.ensures
