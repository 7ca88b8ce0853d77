-- `sizes::size_at`: each way is a law of SizeLaws. The measure is what is left of the table. Assumes nothing.
use Prim.Native.Nat.{◌-◌}
use Rattle.copies.proofs.sizes.+size_at.Given as goal

abbrev pub decreases-size_at : goal.decreases-size_at
decreases-size_at l = 512 - l.at
