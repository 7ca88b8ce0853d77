-- `sizes::onto`: count by count. Assumes nothing.
use Rattle.copies.proofs.sizes.onto.Goals as goal

pub returns : goal.returns
returns c =
    λ i. record {
      statements = c.plus.ensures i;
      pauses = c.plus-2.ensures i;
      locals = c.plus-3.ensures i;
      path = c.plus-4.ensures i;
      bytes = c.plus-5.ensures i;
    }
