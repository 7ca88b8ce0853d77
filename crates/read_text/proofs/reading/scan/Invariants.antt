-- `reading::scan`: the outcome of the text is that of the reader so far on the tokens that are left. Assumes nothing.
use Prim.Native.Nat.{◌-◌}
use lib.ListN.{length}
use Rattle.read_text.proofs.ScanLaws.{Going}
use Rattle.read_text.proofs.reading.scan.Given as goal

abbrev pub invariant-loop-t : goal.invariant-loop-t
invariant-loop-t l = Going l.text l.levels l.out l.at l.r

abbrev pub decreases-loop-t : goal.decreases-loop-t
decreases-loop-t l = length l.text - l.at
