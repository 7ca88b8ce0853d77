-- `header::put_named`: the word, then the name. Assumes nothing.
use mathlib.Core.Path.{ap}
use mathlib.Core.List.{List, ◌++◌}
use Prim.Native.Nat.{ℕ}
use native.Mathlib.Omega.{arith}
use Rattle.text.specs.Shown.{signal_word}
use Rattle.write_text.proofs.Putting.{and_then, before, told_as}
use Rattle.write_text.proofs.header.put_named.Goals as goal

pub returns : goal.returns
returns c =
    let named = told_as (λ r. ap (λ (l : List ℕ). l ++ r) c.signal_name.ensures) c.put_name.ensures.puts in
    record { puts = and_then (before (λ x. signal_word c.args.inputs c.args.outputs c.args.s ++ x) c.put_word-worded.ensures.puts) named; upper_bound = omega (arith, c.put_word-worded.ensures.upper_bound, c.put_name.ensures.upper_bound) }
