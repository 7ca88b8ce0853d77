-- `loops::lowest_endless` meets its contract. The invariant is `Walked`: the codes from statement i on are known, and the lowest
-- endless loop from there on.
-- Assumes nothing.
use mathlib.Core.Path.{◌≡◌, refl, subst}
use native.Mathlib.Omega.{arith}
use mathlib.Core.Bool.{◌&&◌}
use Prim.Native.Nat.{◌+◌, ◌-◌}
use lib.Dec.{eqb}
use lib.ListN.{get_or}
use Rattle.sets.specs.Words.{bits}
use Rattle.tables.proofs.LoopWalk.{Walked, second_word, walk_step, found_step, within_step, walk_found}
use Rattle.tables.proofs.loops.lowest_endless.Goals as goal

pub loop-i-preserved : goal.loop-i-preserved
loop-i-preserved c =
    let walked = c.loop-i.invariant.walked in
    let within = c.loop-i.invariant.within in
    let e : c.loop-i.i ≡ c.loop-i.i - 1 + 1 = omega arith in
    let here = eqb (get_or c.args.table.now.kinds (c.loop-i.i - 1) 0) 22 && bits c.word_at-first.result 0 in
    record {
      walked =
          walk_step (subst (Walked _ _ _ _) e walked)
          (record {
            first = c.word_at-first.ensures;
            second = second_word c.loop-i.codes c.args.table.now.sizes (c.loop-i.i - 1) c.second_at.result _ walked.wide c.second_at.ensures.0 c.second_at.ensures.1 c.word_at-second.ensures;
            kind = refl;
            operand = refl;
            its_codes = c.codes_for.ensures;
            now_found = rw c.lower-found.ensures (found_step here (c.loop-i.i - 1) c.args.count c.loop-i.found);
          })
          c.requires;
      within = rw c.lower-found.ensures (within_step here c.loop-i.found (omega (arith, walked.in_count)) within);
    }

pub returns : goal.returns
returns c = record { within = c.loop-i.invariant.within; value = walk_found c.loop-i.invariant.walked c.loop-i.invariant.within c.loop-i-test.false }
