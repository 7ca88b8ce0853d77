-- `walk::head_at`: the two numbers are read, and the shape of the kind tells the rest. Assumes nothing.
use mathlib.Core.Path.{refl}
use Rattle.convert.proofs.HeadLaws.{head_known, head_unknown}
use Rattle.convert.proofs.walk.head_at.Goals as goal

pub returns-in-Some : goal.returns-in-Some
returns-in-Some c = head_known _ _ c.two_bytes-kind.ensures c.two_bytes-operand.ensures c.wide_shape_of.ensures c.in-Some.is refl

pub returns-in-None : goal.returns-in-None
returns-in-None c = head_unknown _ _ c.two_bytes-kind.ensures c.two_bytes-operand.ensures c.wide_shape_of.ensures c.in-None.is
