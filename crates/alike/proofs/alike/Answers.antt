-- `alike` meets its contract: the first block is turned down, or read, then the second, and then both are tested.
-- Assumes nothing.
use mathlib.Core.Path.{◌≡◌}
use borrow.Author.Rules.{rules}
use Rattle.std.proofs.lemmas.Result.{err_from_is_err_and}
use Rattle.reaction.proofs.Fronts.{block_reads}
use Rattle.alike.specs.declared.NotCompared.TheVariants.{First, Second}
use Rattle.alike.proofs.CallLaws.{was_ok, was_err, first_fails, first_reads, second_fails, second_reads}
use Rattle.alike.proofs.alike.Goals as goal

pub returns-in_err-s : goal.returns-in_err-s
returns-in_err-s c =
    let p = err_from_is_err_and c.from_residual.result c.from_residual.ensures.1 in
    let w = was_err _ c.read_block.result c.map_err.ensures.cases c.in_err-s.was in
    let e : c.in_err-s.field-0.0 ≡ First w.0 = search rules in
    rw (p.1, p.2, e) (first_fails c.args.first.now c.read_block.ensures w.1 _ _ _)

pub returns-in_err-t : goal.returns-in_err-t
returns-in_err-t c =
    let p = err_from_is_err_and c.from_residual-in_err-t.result c.from_residual-in_err-t.ensures.1 in
    let q = block_reads c.args.first.now c.read_block.ensures (was_ok _ c.read_block.result c.map_err.ensures.cases c.in_ok-s.was) in
    let w = was_err _ c.read_block-2.result c.map_err-2.ensures.cases c.in_err-t.was in
    let e : c.in_err-t.field-0.0 ≡ Second w.0 = search rules in
    rw (p.1, p.2, e) (first_reads c.args.first.now _ _ _ _ _ q.2 (second_fails c.args.second.now c.read_block-2.ensures w.1 _ q.0 _))

pub tested-requires : goal.tested-requires
tested-requires c =
    let q = block_reads c.args.first.now c.read_block.ensures (was_ok _ c.read_block.result c.map_err.ensures.cases c.in_ok-s.was) in
    let r = block_reads c.args.second.now c.read_block-2.ensures (was_ok _ c.read_block-2.result c.map_err-2.ensures.cases c.in_ok-t.was) in
    ((q.0, q.1), (r.0, r.1))

pub returns : goal.returns
returns c =
    let q = block_reads c.args.first.now c.read_block.ensures (was_ok _ c.read_block.result c.map_err.ensures.cases c.in_ok-s.was) in
    let r = block_reads c.args.second.now c.read_block-2.ensures (was_ok _ c.read_block-2.result c.map_err-2.ensures.cases c.in_ok-t.was) in
    first_reads c.args.first.now _ _ _ _ _ q.2 (second_reads c.args.second.now q.0 _ _ _ _ r.2 (c.tested.ensures q.0 r.0 q.1 r.1))
