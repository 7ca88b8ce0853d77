-- `clash::in_parallel`: the walk comes to the lowest statement above both. Assumes nothing.
use native.Mathlib.Omega.{arith}
use Prim.Native.Nat.{◌<◌}
use Rattle.records.proofs.Steps.{Reaches, reach_root, reach_in, reach_next, reach_here}
use Rattle.records.proofs.clash.in_parallel.Goals as goal

pub loop-at-init : goal.loop-at-init
loop-at-init c = reach_root c.args.table.now.kinds c.args.table.now.sizes c.args.firsts.now c.args.m c.args.n

pub toward-next-requires : goal.toward-next-requires
toward-next-requires c =
    let root : Reaches c.args.table.now.kinds c.args.table.now.sizes c.args.firsts.now c.args.m c.args.n c.requires.0 c.loop-at.at = c.loop-at.invariant c.requires.0 c.requires.1 in
    let r = root in (r.part, r.place)

pub loop-at-smaller : goal.loop-at-smaller
loop-at-smaller c =
    let root : Reaches c.args.table.now.kinds c.args.table.now.sizes c.args.firsts.now c.args.m c.args.n c.requires.0 c.loop-at.at = c.loop-at.invariant c.requires.0 c.requires.1 in
    let r = root in let w = reach_next c.args.table.now.kinds c.args.table.now.sizes c.args.firsts.now c.args.m c.args.n c.requires.0
    c.loop-at.at c.toward-next.result r c.toward-next.ensures c.if-next-at.false in let v : c.loop-at.at < c.toward-next.result =
    w.0 in let u : c.loop-at.at < 512 = reach_in c.args.table.now.kinds c.args.table.now.sizes c.args.firsts.now c.args.m c.args.n c.requires.0 c.loop-at.at
    c.toward-next.result r c.toward-next.ensures in omega arith

pub loop-at-preserved : goal.loop-at-preserved
loop-at-preserved c =
    λ t P. (reach_next c.args.table.now.kinds c.args.table.now.sizes c.args.firsts.now c.args.m c.args.n t c.loop-at.at c.toward-next.result
    (c.loop-at.invariant t P) c.toward-next.ensures c.if-next-at.false).1

pub offset_bounds-table-at : goal.offset_bounds-table-at
offset_bounds-table-at c =
    let root : Reaches c.args.table.now.kinds c.args.table.now.sizes c.args.firsts.now c.args.m c.args.n c.requires.0 c.loop-at.at = c.loop-at.invariant c.requires.0 c.requires.1 in
    let r = root in let u : c.loop-at.at < 512 = reach_in c.args.table.now.kinds c.args.table.now.sizes c.args.firsts.now c.args.m
    c.args.n c.requires.0 c.loop-at.at c.toward-next.result r c.toward-next.ensures in omega arith

pub bounds-table-at : goal.bounds-table-at
bounds-table-at c =
    let root : Reaches c.args.table.now.kinds c.args.table.now.sizes c.args.firsts.now c.args.m c.args.n c.requires.0 c.loop-at.at = c.loop-at.invariant c.requires.0 c.requires.1 in
    let r = root in reach_in c.args.table.now.kinds c.args.table.now.sizes c.args.firsts.now c.args.m c.args.n c.requires.0
    c.loop-at.at c.toward-next.result r c.toward-next.ensures

pub returns : goal.returns
returns c =
    λ t P. reach_here c.args.table.now.kinds c.args.table.now.sizes c.args.firsts.now c.args.m c.args.n t c.loop-at.at c.toward-next.result
    (c.loop-at.invariant t P) c.toward-next.ensures c.if-next-at.true
