-- `copying::put_copy`: each way is a law of CopyLaws, from the statement's own record on. The measure is what is left of the table.
-- Assumes nothing.
use Prim.Native.Nat.{◌-◌}
use Rattle.copies.proofs.copying.+put_copy.Given as goal

abbrev pub decreases-put_copy : goal.decreases-put_copy
decreases-put_copy l = 512 - l.at
