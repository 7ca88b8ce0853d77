-- `walk::zeros_from`: what `all` says of the bytes from there on. Assumes nothing.
use mathlib.Core.Path.{◌≡◌, ◌∙◌}
use Prim.Native.Nat.{◌-◌}
use native.Mathlib.Nat.{le_of_eq}
use borrow.Author.Rules.{rules}
use borrow.Author.Tests.{tests}
use lib.Dec.{eqb}
use lib.ListN.{length, drop, length-drop}
use lib.Seq.{take_all}
use Rattle.std.proofs.lemmas.Iterator.{YieldsList-from_slice}
use Rattle.std.proofs.lemmas.Iterator.Search.{all_from_yields_List}
use Rattle.shelf.proofs.Walking.{all_zeros}
use Rattle.shelf.proofs.walk.zeros_from.Goals as goal

pub returns : goal.returns
returns c =
    let s = c.args.shelf.now in
    let rest : c.iter.result.rest.now ≡ drop c.args.at s = c.iter.ensures.rest ∙ take_all (length s - c.args.at) (drop c.args.at s) (le_of_eq (length-drop c.args.at s)) in
    all_from_yields_List (λ b. eqb b 0) _ _ c.all.result c.all.ensures.ran (YieldsList-from_slice (drop c.args.at s) rest) (λ x b q k. search (rules, tests)) ∙ all_zeros (drop c.args.at s)
