-- `bytes::put_line`: the blanks from the next one on are left to put.
use Prim.Native.Nat.{◌≤◌}
use Rattle.write_text.proofs.Putting.{BlanksLeft}
use Rattle.write_text.proofs.bytes.put_line.Given as goal

abbrev pub invariant-loop : goal.invariant-loop
invariant-loop l = (l.end ≤ 131070) × BlanksLeft l.initial.out l.out l.initial.at l.at l.end l.counter
