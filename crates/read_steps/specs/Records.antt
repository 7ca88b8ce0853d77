-- The records of a block while it is read. Assumes nothing.
use Rattle.std.specs.Prelude.{◌≡◌, List, ℕ, ◌+◌, ◌≤◌, ◌<◌, length, take, drop, get_or}
use Rattle.tables.specs.Kinds.{length_of}
use Rattle.writing.specs.Written.{record_bytes}

-- A kind of records, and one whose records have four bytes.
pub record Sized (k : ℕ) : Type 0 where
  pub its_bytes : (x : ℕ) → length (record_bytes k x) ≡ length_of k
  pub few_bytes : length_of k ≤ 6
  pub some_bytes : 0 < length_of k

pub record Short (k : ℕ) : Type 0 where
  pub sized : Sized k
  pub four_bytes : length_of k ≡ 4

-- The lent bytes hold these records as long as they are no more than a block may have; else there are more.
pub record Written (out : List ℕ) (size : ℕ) (b : List ℕ) : Type 0 where
  pub roomy : length out ≡ 3092
  pub counted : size ≤ 3072 → length b ≡ size
  pub held : size ≤ 3072 → take size (drop 14 out) ≡ b
  pub over : 3072 < size → 3072 < length b

-- The same, and they have not become fewer.
pub record Grown (out : List ℕ) (before size : ℕ) (b : List ℕ) : Type 0 where
  pub written : Written out size b
  pub no_less : before ≤ size

-- What lay from one place to another lies four places further up.
pub record Shifted (before : List ℕ) (from to : ℕ) (after : List ℕ) : Type 0 where
  pub same_size : length after ≡ length before
  pub low : (j : ℕ) → j < from + 4 → get_or after j 0 ≡ get_or before j 0
  pub moved_up : (j : ℕ) → from ≤ j → j < to → get_or after (j + 4) 0 ≡ get_or before j 0
