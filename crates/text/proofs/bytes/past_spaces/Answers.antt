-- `bytes::past_spaces`: the run that the iterator counts is that of the definition. Assumes nothing.
use mathlib.Core.Path.{ap, ◌∙◌}
use mathlib.Core.List.{List}
use Prim.Native.Nat.{ℕ, ◌+◌}
use lib.ListN.{length, drop}
use Rattle.std.specs.List.{take_while}
use Rattle.text.specs.Tokens.{is_space}
use Rattle.text.proofs.ByteTests.{spaces_passed}
use Rattle.text.proofs.bytes.past_spaces.Goals as goal

pub returns : goal.returns
returns c =
    ap (λ (n : ℕ). c.args.at + n)
    (c.spaces.ensures ∙ ap (λ (l : List ℕ). length (take_while is_space l)) c.rest.ensures ∙ spaces_passed (drop c.args.at c.args.text.now))
