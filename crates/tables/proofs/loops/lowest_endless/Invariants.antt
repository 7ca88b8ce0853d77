-- `loops::lowest_endless` meets its contract. The invariant is `Walked`: the codes from statement i on are known, and the lowest
-- endless loop from there on.
-- Assumes nothing.
use Prim.Native.Nat.{◌<◌}
use Rattle.std.specs.Prelude.{IfSome, unwrap_or}
use Rattle.tables.proofs.LoopWalk.{Walked}
use Rattle.tables.proofs.loops.lowest_endless.Given as goal

abbrev pub invariant-loop-i : goal.invariant-loop-i
invariant-loop-i l = record {
  walked : Walked l.table l.count l.codes (unwrap_or l.found l.count) l.i;
  within : IfSome l.found (λ n. n < l.count);
}
