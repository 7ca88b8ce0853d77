-- `sizes::side`: count by count, and the longer path. Assumes nothing.
use Rattle.copies.proofs.sizes.side.Goals as goal

pub returns : goal.returns
returns c =
    λ i. record {
      statements = c.plus.ensures i;
      pauses = c.plus-2.ensures i;
      locals = c.plus-3.ensures i;
      path = c.max.ensures i;
      bytes = c.plus-4.ensures i;
    }
