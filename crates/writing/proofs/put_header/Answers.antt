-- `put_header`: the seven stores make the header. Assumes nothing.
use mathlib.Core.Path.{ap}
use native.Mathlib.Omega.{arith}
use lib.ListN.{length}
use lib.Seq.{length-sets}
use Rattle.block.specs.Told.{header_of}
use Rattle.writing.proofs.Stores.{header_stored}
use Rattle.writing.proofs.put_header.Goals as goal

pub put_number-requires-7 : goal.put_number-requires-7
put_number-requires-7 c =
    omega (
      arith,
      c.requires,
      simp length-sets at (ap length c.put_number.ensures),
      simp length-sets at (ap length c.put_number-2.ensures),
      simp length-sets at
          (ap length c.put_number-3.ensures),
      simp length-sets at (ap length c.put_number-4.ensures),
      simp length-sets at (ap length c.put_number-5.ensures),
      simp length-sets at
          (ap length c.put_number-6.ensures),
    )

pub shape_of-out : goal.shape_of-out
shape_of-out c =
    omega (
      arith,
      simp length-sets at (ap length c.put_number.ensures),
      simp length-sets at (ap length c.put_number-2.ensures),
      simp length-sets at
          (ap length c.put_number-3.ensures),
      simp length-sets at (ap length c.put_number-4.ensures),
      simp length-sets at (ap length c.put_number-5.ensures),
      simp length-sets at
          (ap length c.put_number-6.ensures),
      simp length-sets at (ap length c.put_number-7.ensures),
    )

pub returns : goal.returns
returns c =
    header_stored _ (header_of c.args.d) c.put_number.ensures c.put_number-2.ensures c.put_number-3.ensures c.put_number-4.ensures c.put_number-5.ensures
    c.put_number-6.ensures c.put_number-7.ensures
