-- `tokens::number`: the digits left, with the value so far, stand for what the whole word stands for. Assumes nothing.
use mathlib.Core.Path.{◌≡◌}
use Prim.Native.Nat.{◌^◌, ◌<◌}
use lib.ListN.{drop}
use Rattle.text.specs.Coded.{number_value}
use Rattle.text.proofs.Numbers.{value_left}
use Rattle.text.proofs.tokens.number.Given as goal

abbrev pub invariant-loop-b : goal.invariant-loop-b
invariant-loop-b l = record { so_far : value_left l.value (drop l.b-index l.word) ≡ number_value l.word; few : l.value < 10 ^ l.b-index }
