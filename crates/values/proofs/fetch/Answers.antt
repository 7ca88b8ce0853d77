-- `values::fetch`: what the library hands back, copied to the front of the lent bytes, which have room for any block. Assumes nothing.
use mathlib.Core.Path.{ap, ◌∙◌}
use mathlib.Core.List.{◌++◌}
use Prim.Native.Nat.{◌≤◌}
use native.Mathlib.Omega.{arith}
use lib.ListN.{length, drop}
use Rattle.shelf.specs.Calls.{ShelfAnswer, fetch, told}
use Rattle.shelf.specs.Answered.{fetched_as}
use Rattle.shelf.proofs.Told.{fetched_size}
use Rattle.values.proofs.Known.{copied_over, three_values}
use Rattle.values.proofs.fetch.Goals as goal

pub copy_at-requires : goal.copy_at-requires
unfolding fetched_as
copy_at-requires c =
    let l = fetched_size c.args.shelf.now (record { byte = λ i. (c.type_inv.shelf i).fits }) c.args.party c.args.name in
    let e = ap (λ (a : ShelfAnswer). length a.part) c.in-Ok.ensures.result_value in
    omega (arith, l, e, c.requires)

pub returns-in-Ok : goal.returns-in-Ok
unfolding fetched_as
returns-in-Ok c =
    let l = fetched_size c.args.shelf.now (record { byte = λ i. (c.type_inv.shelf i).fits }) c.args.party c.args.name in
    let m : length (told c.args.shelf.now (fetch c.args.party c.args.name)).part ≤ length c.args.block.now = omega (arith, l, c.requires) in
    let e = c.in-Ok.ensures.result_value in
    record {
      value = three_values (ap (λ (a : ShelfAnswer). a.number) e) (ap (λ (a : ShelfAnswer). a.place) e) (ap (λ (a : ShelfAnswer). length a.part) e);
      block_after = copied_over _ _ (ap (λ (a : ShelfAnswer). a.part) e) m c.copy_at.ensures;
    }

pub returns-in-Err : goal.returns-in-Err
unfolding fetched_as
returns-in-Err c =
    let e = c.in-Err.ensures.result_value in
    record {
      value = three_values (c.number_of.ensures ∙ ap (λ (a : ShelfAnswer). a.number) e) (ap (λ (a : ShelfAnswer). a.place) e) (ap (λ (a : ShelfAnswer). length a.part) e);
      block_after = ap (λ (a : ShelfAnswer). a.part ++ drop (length a.part) c.args.block.now) e;
    }
