-- Memory of zeros has no entry: every tag is 0. Assumes nothing.
use mathlib.Core.Path.{◌≡◌}
use mathlib.Core.Bool.{Bool}
use mathlib.Core.List.{List}
use Prim.Native.Nat.{ℕ, ◌*◌, ◌/◌, ◌<◌}
use native.Mathlib.Omega.{arith}
use lib.ListN.{length, replicate, length-replicate, get_or-replicate}
use Rattle.tables.specs.declared.Table.{Table}
use Rattle.walk.specs.Memo.{entry_of, Sound}
use Rattle.walk.proofs.Entries.{no_entry}

in_zeros : (n i : ℕ) → i < length {A = ℕ} (replicate n 0) / 8 → 8 * i < n
in_zeros n i b =
    let long : length {A = ℕ} (replicate n 0) ≡ n = length-replicate n 0 in
    omega (arith, b, long)

pub blank : {tab : Table} {live : List Bool} (n : ℕ) → Sound tab live (replicate n 0)
unfolding entry_of
blank n = record { entry = λ i b. no_entry {x = entry_of (replicate n 0) i} (get_or-replicate n (8 * i) 0 0 (in_zeros n i b)) }
