-- `ending::copied`: the room decides, and what is copied is what is to be written. Assumes nothing.
use mathlib.Core.Path.{refl}
use native.Mathlib.Omega.{arith}
use Rattle.read_text.proofs.EndingLaws.{passed_on, fits, no_room, copied_in}
use Rattle.read_text.proofs.ending.copied.Goals as goal

pub returns-in_err-size : goal.returns-in_err-size
returns-in_err-size c = no_room _ _ (passed_on c.from_residual.result c.from_residual.ensures) (c.in_err-size.ensures _ refl)

pub copy_at-requires : goal.copy_at-requires
copy_at-requires c = omega (arith, fits _ c.args.block.now _ (c.in_ok-size.ensures _ refl))

pub returns : goal.returns
returns c = copied_in _ _ (c.in_ok-size.ensures _ refl) c.copy_at.ensures
