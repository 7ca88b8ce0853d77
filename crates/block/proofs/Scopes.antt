-- The locals in scope as bits of a word.
use mathlib.Core.Path.{◌≡◌}
use Prim.Native.Nat.{ℕ, ◌*◌, ◌%◌, ◌^◌, ◌<◌}
use lib.Bits.{bit_or}
use Rattle.sets.specs.Numbers.{union, single}
use Rattle.sets.specs.Words.{bits}
use Rattle.sets.proofs.Words.{is_set, is_union, is_shift, is_bits}

pub added : (w s : ℕ) → s < 64 → bits (bit_or ((1 * 2 ^ s) % 2 ^ 64) w) ≡ union (single s) (bits w)
added w s h = is_set (is_union (is_shift 64 h) (is_bits w))
