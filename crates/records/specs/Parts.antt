-- Where a part lies that a call hands back of a lent slice. A reference has a place, what it refers to now, and a name that only proofs see. A place is a
-- piece of memory and an offset in it; a byte takes one. Assumes nothing.
use Rattle.std.specs.Prelude.{◌≡◌, List, ℕ, ◌+◌, ◌≤◌, length, take, drop}
use Rattle.std.specs.Borrow.{Bor}

-- The part is the lent slice itself from an offset on, so many bytes of it: no copy, and not the same bytes at another offset.
pub record LiesAt (part lent : Bor (List ℕ)) (offset size : ℕ) : Type 0 where
  pub in_its_memory : part.ref_ptr.0 ≡ lent.ref_ptr.0
  pub from_offset : part.ref_ptr.1 ≡ lent.ref_ptr.1 + offset
  pub within : offset + size ≤ length lent.now
  pub its_bytes : part.now ≡ take size (drop offset lent.now)
