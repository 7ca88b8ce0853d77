-- `walk::write_at`: by the statement that stands there. What was written for its record, for those below it and behind them is what is written for the
-- statement; the place that is read rises with each call. Assumes nothing.
use Prim.Native.Nat.{◌-◌}
use Rattle.convert.proofs.walk.+write_at.Given as goal

abbrev pub decreases-write_at : goal.decreases-write_at
decreases-write_at l = 3086 - l.spot.at
